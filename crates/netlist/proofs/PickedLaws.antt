-- Laws of the numbers that a test picks: ranks and places answer to each other, and what is picked of those that another test picks.
-- Assumes nothing.
use mathlib.Core.Path.{◌≡◌, refl, sym, ap, subst, ◌∙◌}
use mathlib.Core.Bool.{Bool, true, false, cond}
use mathlib.Core.Logic.{◌⊎◌, inl, inr}
use mathlib.Core.List.{List, [], ◌∷◌, ◌++◌, append-nil}
use Prim.Native.Nat.{ℕ, zero, suc, ◌+◌, ◌≤◌, ◌<◌}
use native.Mathlib.Nat.{eq-or-lt_of_le, not-suc-le-zero}
use native.Mathlib.Omega.{arith}
use lib.ListN.{length, get_or, length-append, get_or-append}
use lib.Seq.{get_or-append-add}
use Rattle.netlist.specs.Picked.{picked, rank_of, place_of}
use Rattle.netlist.proofs.LowestLaws.{not_both}
use Rattle.netlist.proofs.Tests.{by_test}

-- ---- one number more

module _ (test : ℕ → Bool) (f : ℕ → ℕ) (n : ℕ) where
  pub picked_more : test n ≡ true → picked test f (suc n) ≡ picked test f n ++ (f n ∷ [])
  unfolding picked
  picked_more e = ap (λ (b : Bool). picked test f n ++ cond b (f n ∷ []) []) e

  pub picked_none : test n ≡ false → picked test f (suc n) ≡ picked test f n
  unfolding picked
  picked_none e = ap (λ (b : Bool). picked test f n ++ cond b (f n ∷ []) []) e ∙ append-nil (picked test f n)

module _ (test : ℕ → Bool) (n : ℕ) where
  pub rank_more : test n ≡ true → rank_of test (suc n) ≡ suc (rank_of test n)
  rank_more e = ap length (picked_more test (λ j. j) n e) ∙ length-append (picked test (λ j. j) n) (n ∷ []) ∙ omega arith

  pub rank_none : test n ≡ false → rank_of test (suc n) ≡ rank_of test n
  rank_none e = ap length (picked_none test (λ j. j) n e)

-- ---- ranks

module _ (test : ℕ → Bool) where
  pub length_picked : (f : ℕ → ℕ) (n : ℕ) → length (picked test f n) ≡ rank_of test n
  unfolding picked
  length_picked f zero = refl
  length_picked f (suc n) =
      let before = length_picked f n in
      by_test (test n)
      (λ e.
      ap length (picked_more test f n e) ∙ length-append (picked test f n) (f n ∷ []) ∙ let q = rank_more test n e in omega arith)
      (λ e. ap length (picked_none test f n e) ∙ before ∙ sym (rank_none test n e))

  pub rank_le : (n : ℕ) → rank_of test n ≤ n
  unfolding picked
  rank_le zero = omega arith
  rank_le (suc n) =
      let before = rank_le n in
      by_test (test n) (λ e. let q = rank_more test n e in omega arith) (λ e. let q = rank_none test n e in omega arith)

  pub rank_grows : (n : ℕ) → rank_of test n ≤ rank_of test (suc n)
  rank_grows n = by_test (test n) (λ e. let q = rank_more test n e in omega arith) (λ e. let q = rank_none test n e in omega arith)

  -- a number that is picked has a lower rank than any above it
  pub rank_lt : (i n : ℕ) → i < n → test i ≡ true → rank_of test i < rank_of test n
  rank_lt i zero h e = absurd (not-suc-le-zero h)
  rank_lt i (suc n) h e = go (rank_lt i n) (eq-or-lt_of_le (let l : i ≤ n = omega arith in l))
    where
      go : (i < n → test i ≡ true → rank_of test i < rank_of test n) → (i ≡ n) ⊎ (i < n) → rank_of test i < rank_of test (suc n)
      go before (inl q) = let p = rank_more test n (subst (λ (k : ℕ). test k ≡ true) q e) in let r = ap (rank_of test) q in omega arith
      go before (inr l) = let p = before l e in let g = rank_grows n in omega arith

  -- ---- what stands at a rank

  -- what f makes of a number stands at its rank
  pub at_rank : (f : ℕ → ℕ) (n i : ℕ) → i < n → test i ≡ true → get_or (picked test f n) (rank_of test i) 0 ≡ f i
  at_rank f zero i h e = absurd (not-suc-le-zero h)
  at_rank f (suc n) i h e = go (at_rank f n i) (eq-or-lt_of_le (let l : i ≤ n = omega arith in l))
    where
      last : get_or (picked test f n ++ (f n ∷ [])) (length (picked test f n) + 0) 0 ≡ f n
      last = get_or-append-add (picked test f n) (f n ∷ []) 0 0

      go : (i < n → test i ≡ true → get_or (picked test f n) (rank_of test i) 0 ≡ f i) → (i ≡ n) ⊎ (i < n)
          → get_or (picked test f (suc n)) (rank_of test i) 0 ≡ f i
      go before (inl q) =
          ap (λ (l : List ℕ). get_or l (rank_of test i) 0) (picked_more test f n (subst (λ (k : ℕ). test k ≡ true) q e))
          ∙ ap (λ (r : ℕ). get_or (picked test f n ++ (f n ∷ [])) r 0)
          (let p = ap (rank_of test) q in let l = length_picked f n in let s : rank_of test i ≡ length (picked test f n) + 0 = omega arith in s)
          ∙ last ∙ ap f (sym q)
      go before (inr l) =
          by_test (test n)
          (λ g.
          ap (λ (l : List ℕ). get_or l (rank_of test i) 0) (picked_more test f n g)
          ∙ get_or-append (picked test f n) (f n ∷ []) 0 (rank_of test i) (let p = rank_lt i n l e in let q = length_picked f n in omega arith)
          ∙ before l e)
          (λ g. ap (λ (l : List ℕ). get_or l (rank_of test i) 0) (picked_none test f n g) ∙ before l e)

  pub place_rank : (n i : ℕ) → i < n → test i ≡ true → place_of test n (rank_of test i) ≡ i
  place_rank n i h e = at_rank (λ j. j) n i h e

-- each rank is that of a number that is picked
pub record Ranked (test : ℕ → Bool) (n r : ℕ) : Type 0 where
  pub place : ℕ
  pub below : place < n
  pub picks : test place ≡ true
  pub rank : rank_of test place ≡ r

pub ranked : (test : ℕ → Bool) (n r : ℕ) → r < rank_of test n → Ranked test n r
unfolding picked
ranked test zero r h = absurd (not-suc-le-zero h)
ranked test (suc n) r h = by_test (test n) (λ e. here e (ranked test n r)) (λ e. later (ranked test n r (let q = rank_none test n e in omega arith)))
  where
    later : Ranked test n r → Ranked test (suc n) r
    later t = record { place = t.place; below = let b = t.below in omega arith; picks = t.picks; rank = t.rank }

    here : test n ≡ true → (r < rank_of test n → Ranked test n r) → Ranked test (suc n) r
    here e before = go (eq-or-lt_of_le (let q = rank_more test n e in let l : r ≤ rank_of test n = omega arith in l))
      where
        go : (r ≡ rank_of test n) ⊎ (r < rank_of test n) → Ranked test (suc n) r
        go (inl q) = record { place = n; below = omega arith; picks = e; rank = sym q }
        go (inr l) = later (before l)

-- ---- two lists of what is picked

module _ (test : ℕ → Bool) (f g : ℕ → ℕ) where
  pub picked_same : (n : ℕ) → ((i : ℕ) → i < n → test i ≡ true → f i ≡ g i) → picked test f n ≡ picked test g n
  unfolding picked
  picked_same zero same = refl
  picked_same (suc n) same =
      let before = picked_same n (λ i h e. same i (omega arith) e) in
      by_test (test n)
      (λ e. rw (picked_more test f n e, picked_more test g n e, before, same n (omega arith) e))
      (λ e. picked_none test f n e ∙ before ∙ sym (picked_none test g n e))

  pub same_picked : (n : ℕ) → picked test f n ≡ picked test g n → (i : ℕ) → i < n → test i ≡ true → f i ≡ g i
  same_picked n same i h e =
      sym (at_rank test f n i h e) ∙ ap (λ (l : List ℕ). get_or l (rank_of test i) 0) same ∙ at_rank test g n i h e

-- what is picked of the numbers that another test picks, by their ranks there
module _ (test inner inner' : ℕ → Bool) (f : ℕ → ℕ) where
  pub picked_of_picked : (n : ℕ) → ((i : ℕ) → i < n → inner i ≡ true → test i ≡ true)
      → ((i : ℕ) → i < n → test i ≡ true → inner' (rank_of test i) ≡ inner i)
      → picked inner' f (rank_of test n) ≡ picked inner (λ i. f (rank_of test i)) n
  unfolding picked
  picked_of_picked zero in_test same = refl
  picked_of_picked (suc n) in_test same =
      let before = picked_of_picked n (λ i h. in_test i (omega arith)) (λ i h. same i (omega arith)) in
      by_test (test n)
      (λ e.
      ap (picked inner' f) (rank_more test n e)
      ∙ by_test (inner n)
      (λ p. picked_more inner' f (rank_of test n) (same n (omega arith) e ∙ p) ∙ rw (before, picked_more inner (λ i. f (rank_of test i)) n p))
      (λ p. picked_none inner' f (rank_of test n) (same n (omega arith) e ∙ p) ∙ before ∙ sym (picked_none inner (λ i. f (rank_of test i)) n p)))
      (λ e.
      ap (picked inner' f) (rank_none test n e) ∙ before
      ∙ sym (picked_none inner (λ i. f (rank_of test i)) n (by_test (inner n) (λ p. not_both (in_test n (omega arith) p) e) (λ p. p))))
