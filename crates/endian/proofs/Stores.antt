-- Bytes stored over those of a list: what stands there afterwards, what stays, and the part that was lent to the writer of a word.
-- Assumes nothing.
use mathlib.Core.Path.{◌≡◌, refl, sym, ap, ap₂, subst, ◌∙◌}
use mathlib.Core.List.{List, [], ◌∷◌, ◌++◌, append_assoc, append-nil}
use mathlib.Core.Logic.{◌⊎◌, inl, inr}
use Prim.Native.Nat.{ℕ, zero, suc, ◌+◌, ◌-◌, ◌*◌, ◌/◌, ◌%◌, ◌^◌, ◌≤◌, ◌<◌}
use native.Mathlib.Nat.{pow-suc, div-lt_iff_lt-mul, mod-add-div}
use native.Mathlib.Omega.{arith}
use lib.Arith.{lt-one}
use lib.Dec.{lit<}
use lib.ListN.{length, take, drop, get_or, set, length-set, length-drop}
use lib.Seq.{sets, sets-eq, get_or-set_same, get_or-set_other, take_all, drop-length, drop-drop}
use borrow.Rule.Slice.PartMut.{mid_of, post_of, put_mid, Post-is}
use Rattle.endian.specs.Bytes.{number_at, bytes}

-- ---- what stays

pub stored_before : (vs l : List ℕ) (i j : ℕ) → j < i → get_or (sets l i vs) j 0 ≡ get_or l j 0
stored_before [] l i j h = refl
stored_before (v ∷ vs) l i j h = stored_before vs (set l i v) (suc i) j (omega arith) ∙ get_or-set_other l i j v 0 (λ q. omega arith)

stored_after : (vs l : List ℕ) (i j : ℕ) → i + length vs ≤ j → get_or (sets l i vs) j 0 ≡ get_or l j 0
stored_after [] l i j h = refl
stored_after (v ∷ vs) l i j h = stored_after vs (set l i v) (suc i) j (omega arith) ∙ get_or-set_other l i j v 0 (λ q. omega arith)

pub stored_outside : (vs l : List ℕ) (i j : ℕ) → (j < i) ⊎ (i + length vs ≤ j) → get_or (sets l i vs) j 0 ≡ get_or l j 0
stored_outside vs l i j (inl h) = stored_before vs l i j h
stored_outside vs l i j (inr h) = stored_after vs l i j h

-- ---- bytes after bytes

pub stored_more : (vs ws l : List ℕ) (i : ℕ) → sets (sets l i vs) (i + length vs) ws ≡ sets l i (vs ++ ws)
stored_more [] ws l i = ap (λ (j : ℕ). sets l j ws) (omega arith)
stored_more (v ∷ vs) ws l i = ap (λ (j : ℕ). sets (sets (set l i v) (suc i) vs) j ws) (omega arith) ∙ stored_more vs ws (set l i v) (suc i)

-- ---- numbers

-- a number depends on its own bytes alone
pub number_same : (l m : List ℕ) (at size : ℕ) → ((j : ℕ) → at ≤ j → j < at + size → get_or l j 0 ≡ get_or m j 0) → number_at l at size ≡ number_at m at size
number_same l m at zero same = refl
number_same l m at (suc size) same =
    ap₂ (λ (x y : ℕ). x + 256 * y) (same at (omega arith) (omega arith)) (number_same l m (suc at) size (λ j h g. same j (omega arith) (omega arith)))

-- the bytes of a number that are stored say that number
pub number_stored : (size v : ℕ) (l : List ℕ) (at : ℕ) → at + size ≤ length l → v < 256 ^ size → number_at (sets l at (bytes size v)) at size ≡ v
number_stored zero v l at h g = sym (lt-one g)
number_stored (suc size) v l at h g =
    ap₂ (λ (x y : ℕ). x + 256 * y)
    (stored_before (bytes size (v / 256)) (set l at (v % 256)) (suc at) at (omega arith) ∙ get_or-set_same l at (v % 256) 0 (omega arith))
    (number_stored size (v / 256) (set l at (v % 256)) (suc at) (let e = length-set l at (v % 256) in omega arith)
    ((div-lt_iff_lt-mul (lit< tt)).1 (subst (λ (n : ℕ). v < n) (pow-suc 256 size) g)))
    ∙ mod-add-div v 256

-- ---- the part of a list from a place on is lent, and comes back with its first bytes written

module _ (at : ℕ) (d part vs : List ℕ) (h : at + length vs ≤ length d) where
  rest : List ℕ
  rest = drop (at + length vs) d

  part_whole : mid_of at (length d - at) d ≡ drop at d
  part_whole = take_all (length d - at) (drop at d) (let e = length-drop at d in omega arith)

  none_after : post_of at (length d - at) d ≡ []
  none_after = Post-is at (length d) d (omega arith) ∙ drop-length d

  pub part_stored : part ≡ vs ++ drop (length vs) (mid_of at (length d - at) d) → put_mid at (length d - at) d part ≡ sets d at vs
  unfolding rest
  part_stored e =
      ap₂ (λ (l m : List ℕ). take at d ++ (l ++ m)) (e ∙ ap (λ (l : List ℕ). vs ++ drop (length vs) l) part_whole) none_after
      ∙ ap (λ (l : List ℕ). take at d ++ l) (append-nil (vs ++ drop (length vs) (drop at d)) ∙ ap (λ (l : List ℕ). vs ++ l) (drop-drop (length vs) at d))
      ∙ sym (append_assoc (take at d) vs rest)
      ∙ sym (sets-eq vs d at h)
