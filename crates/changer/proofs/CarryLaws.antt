-- The new list as it is being filled: its first words are what goes over for the first records, and the others still are numbers.
-- Assumes nothing.
use mathlib.Core.Path.{◌≡◌, sym, ap, ◌∙◌}
use mathlib.Core.Bool.{Bool, false}
use mathlib.Core.List.{List, [], ◌∷◌, ◌++◌}
use mathlib.Core.Logic.{◌⊎◌, inl, inr, ◌≢◌}
use Prim.Native.Nat.{ℕ, suc, ◌+◌, ◌/◌, ◌≤◌, ◌<◌}
use native.Mathlib.Nat.{eq-or-lt_of_le, not-suc-le-zero}
use native.Mathlib.Numerals.{add-one}
use native.Mathlib.Omega.{arith}
use lib.ListN.{length, set, length-set, length-append, get_or-append, get_or-eq_default}
use lib.Seq.{get_or-set_same, get_or-set_other, get_or-take, ext_get_or}
use Rattle.endian.specs.Lists.{word_at}
use Rattle.netlist.specs.Layout.{Design}
use Rattle.netlist.specs.Picked.{picked, rank_of}
use Rattle.netlist.proofs.PickedLaws.{picked_more, picked_none, length_picked, rank_le, at_rank}
use Rattle.netlist.proofs.Tests.{by_test}
use Rattle.care.proofs.Families.{same_or_not, below_or_not}
use Rattle.compact.specs.Part.{new_number}
use Rattle.compact.specs.Survivors.{survives}
use Rattle.compactor.specs.Numbers.{rank_word, numbers_of}
use Rattle.compactor.proofs.NumberLaws.{flag_low, numbers_length, word_is}
use Rattle.changeover.specs.Carried.{carried_at, compact_board, new_list}
use Rattle.changeover.proofs.CarriedLaws.{carried_none, length_board, length_new, new_front, new_beyond}

-- ---- the words of one record more, where a rule gives 0 for what the test does not pick

module _ (test : ℕ → Bool) (f : ℕ → ℕ) (none : (i : ℕ) → test i ≡ false → f i ≡ 0) (i : ℕ) where
  abbrev before : List ℕ
  before = picked test f i

  picked_here : word_at (picked test f (suc i)) (rank_of test i) ≡ f i
  picked_here =
      by_test (test i) (λ t. at_rank test f (suc i) i (omega arith) t)
      (λ t.
      ap (λ (l : List ℕ). word_at l (rank_of test i)) (picked_none test f i t)
      ∙ get_or-eq_default before 0 {n = rank_of test i} (let l = length_picked test f i in omega arith) ∙ sym (none i t))

  picked_else : (j : ℕ) → j ≢ rank_of test i → word_at (picked test f (suc i)) j ≡ word_at (picked test f i) j
  picked_else j q =
      by_test (test i)
      (λ t. ap (λ (l : List ℕ). word_at l j) (picked_more test f i t) ∙ go (below_or_not j (length before)))
      (λ t. ap (λ (l : List ℕ). word_at l j) (picked_none test f i t))
    where
      go : (j < length before) ⊎ (length before ≤ j) → word_at (before ++ (f i ∷ [])) j ≡ word_at before j
      go (inl l) = get_or-append before (f i ∷ []) 0 j l
      go (inr l) =
          get_or-eq_default (before ++ (f i ∷ [])) 0 {n = j}
          (let s = length-append before (f i ∷ []) in let p = length_picked test f i in let lt : length before < j = omega (arith, q) in omega arith)
          ∙ sym (get_or-eq_default before 0 {n = j} l)

-- ---- the list as it is being filled

module _ (d : Design) (masks board : List ℕ) where
  abbrev test : ℕ → Bool
  test = survives d masks

  abbrev f : ℕ → ℕ
  f = carried_at d masks board

  -- the words of the first i records stand in front of zeros, and behind them the numbers of the others
  pub record Carrying (list : List ℕ) (i : ℕ) : Type 0 where
    pub size : length list ≡ d.count
    pub low : i ≤ d.count
    pub done : (j : ℕ) → j < i → word_at list j ≡ word_at (picked test f i) j
    pub left : (j : ℕ) → i ≤ j → j < d.count → word_at list j ≡ rank_word test j

  pub carrying_none : (list : List ℕ) → list ≡ numbers_of d masks → Carrying list 0
  carrying_none list e =
      record {
        size = numbers_length d masks list e;
        low = omega arith;
        done = λ j h. absurd (not-suc-le-zero h);
        left = λ j h g. word_is d masks list e j g;
      }

  module _ {list : List ℕ} {i : ℕ} (t : Carrying list i) (h : i < length list) where
    abbrev at : ℕ
    at = word_at list i / 2

    -- the word of a record gives its new number, which is never above the old one
    pub number_is : word_at list i / 2 ≡ rank_of (survives d masks) i
    number_is = let s = t.size in let w = t.left i (omega arith) (omega arith) in let b = flag_low (test i) in omega arith

    pub number_low : word_at list i / 2 ≤ i
    number_low = let n = number_is in let r = rank_le test i in omega arith

    abbrev cleared : List ℕ
    cleared = set list i 0

    cleared_size : length cleared ≡ length list
    cleared_size = length-set list i 0

    -- a place in front: the new number, the record's own, or an earlier one
    at_front : (j : ℕ) → j < suc i → word_at (set cleared at (f i)) j ≡ word_at (picked test f (suc i)) j
    at_front j l = at_number (same_or_not j at)
      where
        at_own : (j ≡ i) ⊎ (j < i) → word_at cleared j ≡ word_at (picked test f i) j
        at_own (inl q) =
            ap (word_at cleared) q ∙ get_or-set_same list i 0 0 h
            ∙ sym (get_or-eq_default (picked test f i) 0 {n = j} (let p = length_picked test f i in let r = rank_le test i in omega arith))
        at_own (inr b) = get_or-set_other list i j 0 0 (λ q. omega arith) ∙ t.done j b

        at_number : (j ≡ at) ⊎ (j ≢ at) → word_at (set cleared at (f i)) j ≡ word_at (picked test f (suc i)) j
        at_number (inl q) =
            ap (word_at (set cleared at (f i))) q
            ∙ get_or-set_same cleared at (f i) 0 (let s = cleared_size in let b = number_low in omega arith)
            ∙ sym (picked_here test f (λ k. carried_none d masks k board) i)
            ∙ ap (word_at (picked test f (suc i))) (sym (q ∙ number_is))
        at_number (inr q) =
            get_or-set_other cleared at j (f i) 0 q ∙ at_own (eq-or-lt_of_le (let b : j ≤ i = omega arith in b))
            ∙ sym (picked_else test f (λ k. carried_none d masks k board) i j (λ p. q (p ∙ sym number_is)))

    pub carrying_next : Carrying (set (set list i 0) (word_at list i / 2) (carried_at d masks board i)) (i + 1)
    carrying_next =
        let b = number_low in
        record {
          size = length-set cleared at (f i) ∙ cleared_size ∙ t.size;
          low = let s = t.size in omega arith;
          done = λ j l. at_front j (omega arith) ∙ ap (λ (k : ℕ). word_at (picked test f k) j) (sym (add-one i));
          left = λ j l g.
              get_or-set_other cleared at j (f i) 0 (λ q. omega arith) ∙ get_or-set_other list i j 0 0 (λ q. omega arith) ∙ t.left j (omega arith) g;
        }

  pub carrying_all : {list : List ℕ} {i : ℕ} → Carrying list i → length list ≤ i → list ≡ new_list d masks board
  unfolding compact_board
  carrying_all {list} {i} t h =
      let s = t.size in
      let l = t.low in
      let q : i ≡ d.count = omega arith in
      ext_get_or 0 list (new_list d masks board) (s ∙ sym (length_new d masks board))
      (λ j g.
      t.done j (omega arith) ∙ ap (λ (k : ℕ). word_at (picked test f k) j) q
      ∙ at_end j (omega arith) (below_or_not j (new_number d masks d.count)))
    where
      at_end : (j : ℕ) → j < d.count → (j < new_number d masks d.count) ⊎ (new_number d masks d.count ≤ j)
          → word_at (compact_board d masks board) j ≡ word_at (new_list d masks board) j
      at_end j b (inl l) =
          ap (λ (m : List ℕ). word_at m j) (sym (new_front d masks board)) ∙ get_or-take (new_number d masks d.count) (new_list d masks board) j 0 l
      at_end j b (inr l) =
          get_or-eq_default (compact_board d masks board) 0 {n = j} (let p = length_board d masks board in omega arith)
          ∙ sym (new_beyond d masks board j l b)
