-- The laws of shifts: what each bit of a shifted word is, and that what a shift asks is enough, and no bit with D 0.
-- Assumes nothing.
use mathlib.Core.Path.{◌≡◌, refl, sym, ap, ap₂, ◌∙◌, subst₂}
use mathlib.Core.Bool.{cond}
use mathlib.Core.Logic.{◌⊎◌, inl, inr}
use Prim.Native.Nat.{ℕ, zero, suc, ◌+◌, ◌-◌, ◌*◌, ◌/◌, ◌%◌, ◌^◌, ◌≤◌, ◌<◌, max}
use native.Mathlib.Nat.{add-zero, add_comm, one-mul, zero-mul, zero-div, zero-mod, mod-lt, mul-mod_left, eq-zero-or-pos, max-zero}
use native.Mathlib.Omega.{arith}
use lib.Bits.{bit_or}
use lib.Dec.{ltb, eqb-suc-zero, lit<}
use lib.Pow.{pow_pos, shl-shr, high, ones_lt, ones_split, high_ones}
use borrow.Author.Tests.{lt-ltb, le-ltb}
use Rattle.bits.specs.Masks.{bit, Agree}
use Rattle.bits.specs.Words.{low_mask, cut, down}
use Rattle.bits.proofs.Agreement.{agree_refl, agree_by_bits, agree_bit, agree_within, agree_cut, agree_concat}
use Rattle.bits.proofs.Digits.{bit_of_or, bit_down, bit_cut, bit_up, bit_low, bit_beyond, bit_cases, one_below}
use Rattle.bits.proofs.Order.{join_left, join_right}
use Rattle.netlist.specs.declared.record.Kind.TheVariants.{LeftShift, RightShift}
use Rattle.signal.specs.Asks.{if_any, up_within, top_if_copied}
use Rattle.signal.specs.Results.{top_bit, emptied, arithmetic_down, result_of}

-- 0 has no bit
no_bit : (i : ℕ) → bit 0 i ≡ 0
no_bit i = bit_beyond {x = 0} 0 i (lit< tt) (omega arith)

-- ---- left shift

-- no bit stands below the places that a word was moved up
below_moved : (x k i : ℕ) → i < k → bit (x * 2 ^ k) i ≡ 0
below_moved x k i h =
    sym (bit_cut (x * 2 ^ k) k i h) ∙ ap (λ (n : ℕ). bit n i) (mul-mod_left x (2 ^ k)) ∙ no_bit i

moved_bit : (x k j : ℕ) → bit (x * 2 ^ k) j ≡ cond (ltb j k) 0 (bit x (j - k))
moved_bit x k j = cases (eq-zero-or-pos (k - j))
  where
    cases : (k - j ≡ 0) ⊎ (0 < k - j) → bit (x * 2 ^ k) j ≡ cond (ltb j k) 0 (bit x (j - k))
    cases (inl h) = rw (le-ltb j k (omega arith)) (ap (bit (x * 2 ^ k)) (omega arith) ∙ bit_up x k (j - k))
    cases (inr h) = rw (lt-ltb j k (omega arith)) (below_moved x k j (omega arith))

-- no bit of a left shift stands beyond the width
pub left_shift_beyond : (a k w wb own x y z j : ℕ) → w ≤ j → bit (result_of (LeftShift a k) w wb own x y z) j ≡ 0
left_shift_beyond a k w wb own x y z j h = bit_beyond w j (mod-lt _ (pow_pos w)) h

-- within it, bit j of a left shift by k is bit j - k of a, and 0 below k
pub left_shift_bit : (a k w wb own x y z j : ℕ) → j < w
    → bit (result_of (LeftShift a k) w wb own x y z) j ≡ cond (ltb j k) 0 (bit x (j - k))
left_shift_bit a k w wb own x y z j h = bit_cut (x * 2 ^ k) w j h ∙ moved_bit x k j

pub agree_left_shift : {D x y : ℕ} (w k : ℕ) → D < 2 ^ w → Agree (down k D) x y → Agree D (cut w (x * 2 ^ k)) (cut w (y * 2 ^ k))
agree_left_shift {D} {x} {y} w k low a =
    agree_cut w low
    (subst₂ (Agree D) (add-zero (x * 2 ^ k)) (add-zero (y * 2 ^ k)) (agree_concat k (pow_pos k) (pow_pos k) a (agree_refl _ 0)))

-- ---- right shift

-- bit j of a right shift by k is bit j + k of a
pub right_shift_bit : (a k w wb own x y z j : ℕ) → bit (result_of (RightShift a k) w wb own x y z) j ≡ bit x (j + k)
right_shift_bit a k w wb own x y z j = bit_down x k j ∙ ap (bit x) (add_comm k j)

-- a bit of D that stays within the width is asked where it was moved to
asked_moved : (D w k i : ℕ) → w ≤ 64 → k + i < w → bit (up_within w k D) (k + i) ≡ bit D i
asked_moved D w k i n h = bit_cut _ w (k + i) h ∙ bit_cut _ 64 (k + i) (omega arith) ∙ bit_up D k i

pub agree_right_shift : {D x y : ℕ} (w k : ℕ) → w ≤ 64 → x < 2 ^ w → y < 2 ^ w → Agree (up_within w k D) x y → Agree D (down k x) (down k y)
agree_right_shift {D} {x} {y} w k n hx hy a = agree_by_bits (λ i e. bit_down x k i ∙ same i e (eq-zero-or-pos (w - (k + i))) ∙ sym (bit_down y k i))
  where
    same : (i : ℕ) → bit D i ≡ 1 → (w - (k + i) ≡ 0) ⊎ (0 < w - (k + i)) → bit x (k + i) ≡ bit y (k + i)
    same i e (inl g) = bit_beyond w (k + i) hx (omega arith) ∙ sym (bit_beyond w (k + i) hy (omega arith))
    same i e (inr g) = agree_bit a (k + i) (asked_moved D w k i n (omega arith) ∙ e)

-- ---- arithmetic right shift

-- the empty places are the k highest
emptied_high : (w k : ℕ) → k < w → emptied w k ≡ low_mask k * 2 ^ (w - k)
emptied_high w k h =
    let j = w - k in
    let e : w ≡ j + k = omega arith in
    ap (λ (n : ℕ). low_mask n - down k (low_mask n)) e
    ∙ ap (λ (n : ℕ). low_mask (j + k) - n) (ap (down k) (ones_split j k) ∙ high (low_mask j) k (ones_lt k))
    ∙ (let p = pow_pos j in let q : 2 ^ (j + k) ≡ 2 ^ (k + j) = ap (λ (n : ℕ). 2 ^ n) (add_comm j k) in omega arith)
    ∙ high_ones k j

emptied_below : (w k j : ℕ) → k < w → k + j < w → bit (emptied w k) j ≡ 0
emptied_below w k j h g = ap (λ (n : ℕ). bit n j) (emptied_high w k h) ∙ below_moved (low_mask k) (w - k) j (omega arith)

emptied_above : (w k j : ℕ) → k < w → w ≤ k + j → j < w → bit (emptied w k) j ≡ 1
emptied_above w k j h g l =
    let i = j - (w - k) in
    let e : j ≡ w - k + i = omega arith in
    ap₂ bit (emptied_high w k h) e ∙ bit_up (low_mask k) (w - k) i ∙ bit_low k i (omega arith)

module _ (w k x : ℕ) where
  -- bit j of an arithmetic right shift by k is the top bit of a where a has no bit j + k
  pub arithmetic_copied : (j : ℕ) → x < 2 ^ w → k < w → w ≤ k + j → j < w → bit (arithmetic_down w k x) j ≡ top_bit w x
  arithmetic_copied j hx h g l = cases (bit_cases x (w - 1))
    where
      beyond : bit (down k x) j ≡ 0
      beyond = bit_down x k j ∙ bit_beyond w (k + j) hx g

      cases : (top_bit w x ≡ 0) ⊎ (top_bit w x ≡ 1) → bit (arithmetic_down w k x) j ≡ top_bit w x
      cases (inl e) = rw e (bit_of_or (down k x) _ j ∙ ap₂ max beyond (no_bit j))
      cases (inr e) = rw e (bit_of_or (down k x) _ j ∙ ap₂ max beyond (emptied_above w k j h g l))

  -- and else that bit of a
  pub arithmetic_moved : (j : ℕ) → k + j < w → bit (arithmetic_down w k x) j ≡ bit x (k + j)
  arithmetic_moved j g = cases (bit_cases x (w - 1))
    where
      cases : (top_bit w x ≡ 0) ⊎ (top_bit w x ≡ 1) → bit (arithmetic_down w k x) j ≡ bit x (k + j)
      cases (inl e) = rw e (bit_of_or (down k x) _ j ∙ ap₂ max (bit_down x k j) (no_bit j) ∙ max-zero (bit x (k + j)))
      cases (inr e) = rw e (bit_of_or (down k x) _ j ∙ ap₂ max (bit_down x k j) (emptied_below w k j (omega arith) g) ∙ max-zero (bit x (k + j)))

-- where D has a bit that shows the copied top bit, the top bit is asked
asked_top : (D w k i : ℕ) → w ≤ k + i → bit D i ≡ 1 → bit (top_if_copied w k D) (w - 1) ≡ 1
asked_top D w k i g e = go (down (w - k) D) refl
  where
    go : (n : ℕ) → down (w - k) D ≡ n → bit (if_any (2 ^ (w - 1)) n) (w - 1) ≡ 1
    go zero q =
        let j = i - (w - k) in
        let p : bit (down (w - k) D) j ≡ 1 = bit_down D (w - k) j ∙ ap (bit D) (omega arith) ∙ e in
        absurd (omega (arith, sym (ap (λ (m : ℕ). bit m j) q) ∙ p, no_bit j))
    go (suc n) q = rw (eqb-suc-zero n) (ap (λ (m : ℕ). m % 2) (ap (λ (m : ℕ). m / 2 ^ (w - 1)) (sym (one-mul (2 ^ (w - 1)))) ∙ shl-shr 1 (w - 1)))

pub agree_arithmetic_shift : {D x y : ℕ} (w k : ℕ) → D < 2 ^ w → k < w → w ≤ 64 → x < 2 ^ w → y < 2 ^ w
    → Agree (bit_or (up_within w k D) (top_if_copied w k D)) x y → Agree D (arithmetic_down w k x) (arithmetic_down w k y)
agree_arithmetic_shift {D} {x} {y} w k low h n hx hy a = agree_by_bits (λ i e. same i e (one_below w i low e) (eq-zero-or-pos (w - (k + i))))
  where
    same : (i : ℕ) → bit D i ≡ 1 → i < w → (w - (k + i) ≡ 0) ⊎ (0 < w - (k + i)) → bit (arithmetic_down w k x) i ≡ bit (arithmetic_down w k y) i
    same i e l (inr p) =
        let g : k + i < w = omega arith in
        arithmetic_moved w k x i g
        ∙ agree_bit (agree_within (join_left (up_within w k D) (top_if_copied w k D)) a) (k + i) (asked_moved D w k i n g ∙ e)
        ∙ sym (arithmetic_moved w k y i g)
    same i e l (inl p) =
        let g : w ≤ k + i = omega arith in
        arithmetic_copied w k x i hx h g l
        ∙ agree_bit (agree_within (join_right (up_within w k D) (top_if_copied w k D)) a) (w - 1) (asked_top D w k i g e)
        ∙ sym (arithmetic_copied w k y i hy h g l)

-- ---- with D 0

-- a shift asks for no bit
module _ (w k : ℕ) where
  pub up_none : up_within w k 0 ≡ 0
  up_none = ap (λ (n : ℕ). n % 2 ^ 64 % 2 ^ w) (zero-mul (2 ^ k)) ∙ zero-mod (2 ^ w)

  pub arithmetic_none : bit_or (up_within w k 0) (top_if_copied w k 0) ≡ 0
  arithmetic_none = ap₂ bit_or up_none (ap (if_any _) (zero-div (2 ^ (w - k))))
