-- Counts of ones in words of 64 bits: a larger mask has more, and no word has more than its width.
-- Assumes nothing.
use Rattle.std.proofs.Common.{◌≡◌, ℕ, zero, suc, ◌+◌, ◌*◌, ◌/◌, ◌%◌, ◌^◌, ◌<◌, ◌≤◌, sym, ◌∙◌, ap₂, subst₂, zero-le, lt_of_le_of_lt, add-le-add, div-add-mod', div-le_self, arith}
use lib.Arith.{lt-one}
use lib.Count.{ones_in}
use Rattle.bits.specs.Masks.{Within}
use Rattle.bits.specs.Words.{count_ones, down}
use Rattle.bits.proofs.Counts.{half_lt}
use Rattle.bits.proofs.Digits.{bit_zero}
use Rattle.bits.proofs.Order.{within_bit, within_lt}
use Rattle.bits.proofs.Shifts.{down_mono}

-- ---- the lowest bit and the rest

lowest_le : {a b : ℕ} → Within a b → a % 2 ≤ b % 2
lowest_le {a} {b} h = subst₂ ◌≤◌ (bit_zero a) (bit_zero b) (within_bit h 0)

ones_in_mono : {a b : ℕ} (d : ℕ) → Within a b → ones_in d a ≤ ones_in d b
unfolding ones_in
ones_in_mono zero h = zero-le
ones_in_mono {a = a} {b = b} (suc d) h = add-le-add (lowest_le h) (ones_in_mono {a = down 1 a} {b = down 1 b} d (down_mono 1 h))

ones_in_growth : {a b : ℕ} (d : ℕ) → Within a b → b < 2 ^ d → ones_in d a ≡ ones_in d b → a ≡ b
unfolding ones_in
ones_in_growth {a} {b} zero h g e = lt-one (within_lt zero h g) ∙ sym (lt-one g)
ones_in_growth {a} {b} (suc d) h g e =
    let low = lowest_le h in
    let rest = ones_in_mono {a = down 1 a} {b = down 1 b} d (down_mono 1 h) in
    sym (div-add-mod' a 2)
    ∙ ap₂ (λ (q r : ℕ). q * 2 + r) (ones_in_growth {a = down 1 a} {b = down 1 b} d (down_mono 1 h) (half_lt d g) (omega arith)) (omega arith)
    ∙ div-add-mod' b 2

ones_in_le : {x : ℕ} (d w : ℕ) → x < 2 ^ w → ones_in d x ≤ w
unfolding ones_in
ones_in_le zero w h = zero-le
ones_in_le {x} (suc d) zero h = omega (arith, lt-one h, ones_in_le {x = x / 2} d zero (lt_of_le_of_lt (div-le_self x 2) h))
ones_in_le {x} (suc d) (suc w) h = omega (arith, ones_in_le {x = x / 2} d w (half_lt w h))

-- ---- words of 64 bits

pub count_ones_mono : {a b : ℕ} → Within a b → count_ones a ≤ count_ones b
count_ones_mono = ones_in_mono 64

-- no more ones: the same mask
pub growth : {a b : ℕ} → Within a b → b < 2 ^ 64 → count_ones a ≡ count_ones b → a ≡ b
growth = ones_in_growth 64

pub count_ones_le : {x : ℕ} (w : ℕ) → x < 2 ^ w → count_ones x ≤ w
count_ones_le = ones_in_le 64
