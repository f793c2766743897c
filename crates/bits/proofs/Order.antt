-- Masks ordered by their ones: Within is a partial order with joins, meets and differences, and a low mask bounds a width.
-- Assumes nothing.
use Rattle.std.proofs.Common.{◌≡◌, ℕ, ◌^◌, ◌<◌, ◌≤◌, false, not, eqb, sym, refl, ap, ◌∙◌, subst, le_trans, le_of_eq, lt_of_lt_of_le, le_of_suc-le-suc, lt_of_le_of_lt, mod-eq_of_lt, le_antisymm, arith, pow_mono, lt_of_le_ones, eq-eqb, eqb-true}
use native.Mathlib.Nat.{min-le_left, min-le_right, min-eq_left, le-min, le-max_left, max-le}
use lib.Bits.{bit_and, bit_or, and_le_r, and_comm, or_comm, and_mask, and_self}
use lib.Pow.{ones_lt}
use borrow.Author.Tests.{not-false}
use Rattle.bits.specs.Masks.{bit, Within, exceeds, without}
use Rattle.bits.specs.Words.{low_mask}
use Rattle.bits.proofs.Digits.{bit_lt, bits_ext, bit_of_and, bit_of_or, bit_without}

-- ---- within, bit by bit

pub within_by_bits : {a b : ℕ} → ((i : ℕ) → bit a i ≤ bit b i) → Within a b
within_by_bits {a} {b} h = record { meet = bits_ext (bit_and a b) a (λ i. bit_of_and a b i ∙ min-eq_left (h i)) }

pub within_bit : {a b : ℕ} → Within a b → (i : ℕ) → bit a i ≤ bit b i
within_bit {a} {b} h i =
    le_trans (le_of_eq (ap (λ (n : ℕ). bit n i) (sym h.meet) ∙ bit_of_and a b i)) (min-le_right (bit a i) (bit b i))

-- a one of the smaller mask is a one of the larger
pub within_one : {a b : ℕ} → Within a b → (i : ℕ) → bit a i ≡ 1 → bit b i ≡ 1
within_one {b = b} h i e = le_antisymm (le_of_suc-le-suc (bit_lt b i)) (le_trans (le_of_eq (sym e)) (within_bit h i))

-- ---- the order

pub within_le : {a b : ℕ} → Within a b → a ≤ b
within_le {a} {b} h = le_trans (le_of_eq (sym h.meet)) (and_le_r a b)

pub within_lt : {a b : ℕ} (w : ℕ) → Within a b → b < 2 ^ w → a < 2 ^ w
within_lt w h g = lt_of_le_of_lt (within_le h) g

pub within_refl : (a : ℕ) → Within a a
within_refl a = record { meet = and_self a }

pub within_trans : {a b c : ℕ} → Within a b → Within b c → Within a c
within_trans h g = within_by_bits (λ i. le_trans (within_bit h i) (within_bit g i))

pub within_antisym : {a b : ℕ} → Within a b → Within b a → a ≡ b
within_antisym h g = le_antisymm (within_le h) (within_le g)

pub within_zero : (a : ℕ) → Within 0 a
within_zero a = record { meet = refl }

-- a mask has no one outside another just where it lies within it
pub within_not_exceeds : {a b : ℕ} → Within a b → exceeds a b ≡ false
within_not_exceeds {a} {b} h = ap not (eq-eqb (bit_and a b) a h.meet)

pub not_exceeds_within : (a b : ℕ) → exceeds a b ≡ false → Within a b
not_exceeds_within a b e = record { meet = eqb-true (bit_and a b) a (not-false (eqb (bit_and a b) a) e) }

-- ---- joins

pub join_left : (a b : ℕ) → Within a (bit_or a b)
join_left a b = within_by_bits (λ i. le_trans (le-max_left (bit a i) (bit b i)) (le_of_eq (sym (bit_of_or a b i))))

pub join_right : (a b : ℕ) → Within b (bit_or a b)
join_right a b = subst (λ (n : ℕ). Within b n) (or_comm b a) (join_left b a)

pub join_least : {a b c : ℕ} → Within a c → Within b c → Within (bit_or a b) c
join_least {a} {b} h g = within_by_bits (λ i. le_trans (le_of_eq (bit_of_or a b i)) (max-le (within_bit h i) (within_bit g i)))

-- ---- meets

pub meet_left : (a b : ℕ) → Within (bit_and a b) a
meet_left a b = within_by_bits (λ i. le_trans (le_of_eq (bit_of_and a b i)) (min-le_left (bit a i) (bit b i)))

pub meet_right : (a b : ℕ) → Within (bit_and a b) b
meet_right a b = subst (λ (n : ℕ). Within n b) (and_comm b a) (meet_left b a)

pub meet_greatest : {a b c : ℕ} → Within c a → Within c b → Within c (bit_and a b)
meet_greatest {a} {b} h g = within_by_bits (λ i. le_trans (le-min (within_bit h i) (within_bit g i)) (le_of_eq (sym (bit_of_and a b i))))

pub meet_mono : {a b : ℕ} (k : ℕ) → Within a b → Within (bit_and a k) (bit_and b k)
meet_mono {a} k h = meet_greatest (within_trans (meet_left a k) h) (meet_right a k)

-- ---- differences

pub without_mono : {a b : ℕ} (k : ℕ) → Within a b → Within (without a k) (without b k)
without_mono {a} {b} k h =
    within_by_bits (λ i. let p = bit_without a k i in let q = bit_without b k i in let l = within_bit h i in omega arith)

pub without_within : (a k : ℕ) → Within (without a k) a
without_within a k = within_by_bits (λ i. let p = bit_without a k i in omega arith)

-- ---- low masks

pub within_low : {a : ℕ} (w : ℕ) → a < 2 ^ w → Within a (low_mask w)
within_low {a} w h = record { meet = and_mask a w ∙ mod-eq_of_lt h }

pub low_within : {a : ℕ} (w : ℕ) → Within a (low_mask w) → a < 2 ^ w
low_within w h = lt_of_le_ones w (within_le h)

pub low_mono : {m n : ℕ} → m ≤ n → Within (low_mask m) (low_mask n)
low_mono {m} {n} h = within_low n (lt_of_lt_of_le (ones_lt m) (pow_mono h))
