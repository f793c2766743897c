-- Masks that are cut, moved up, moved down, or filled up to their highest one: their order, their widths and that one.
-- Assumes nothing.
use Rattle.std.proofs.Common.{◌≡◌, ℕ, suc, ◌+◌, ◌*◌, ◌/◌, ◌^◌, ◌<◌, ◌≤◌, ◌⊎◌, sym, refl, ap, ◌∙◌, subst, ap₂, subst₂, inl, inr, le_trans, le_of_eq, lt_of_lt_of_le, add-zero, mod-eq_of_lt, div-lt_iff_lt-mul, one-mul, one-add, arith, lit<, pow_pos, pow_mono, shl_lt, shl_exact, shr_lt}
use lib.Bits.{bit_and, and_mask, and_block}
use Rattle.bits.specs.Masks.{bit, Within}
use Rattle.bits.specs.Words.{low_mask, cut, up, down, length_in, bit_length}
use Rattle.bits.proofs.Counts.{length_in_holds, length_in_least}
use Rattle.bits.proofs.Digits.{bit_down, bit_cases}
use Rattle.bits.proofs.Order.{within_bit, within_by_bits, within_lt, meet_mono}

-- ---- cut to a width

pub cut_mono : {a b : ℕ} (w : ℕ) → Within a b → Within (cut w a) (cut w b)
cut_mono {a} {b} w h = subst₂ Within (and_mask a w) (and_mask b w) (meet_mono (low_mask w) h)

-- ---- moved up

times_mono : {a b : ℕ} (k : ℕ) → Within a b → Within (a * 2 ^ k) (b * 2 ^ k)
times_mono {a} {b} k h = record {
  meet =
      ap₂ bit_and (sym (add-zero (a * 2 ^ k))) (sym (add-zero (b * 2 ^ k)))
      ∙ and_block k a b 0 0 (pow_pos k) (pow_pos k)
      ∙ add-zero (bit_and a b * 2 ^ k)
      ∙ ap (λ (n : ℕ). n * 2 ^ k) h.meet;
}

pub up_mono : {a b : ℕ} (k : ℕ) → Within a b → Within (up k a) (up k b)
up_mono k h = cut_mono 64 (times_mono k h)

-- no bit leaves the word
pub up_exact : {a : ℕ} (w k : ℕ) → a < 2 ^ w → w + k ≤ 64 → up k a ≡ a * 2 ^ k
up_exact w k = shl_exact w k 64

-- a single one
pub up_one : (k : ℕ) → k < 64 → up k 1 ≡ 2 ^ k
up_one k h = up_exact 1 k (lit< tt) (omega arith) ∙ one-mul (2 ^ k)

pub up_lt : {a : ℕ} (w k v : ℕ) → a < 2 ^ w → w + k ≤ v → v ≤ 64 → up k a < 2 ^ v
up_lt w k v h g l = subst (λ (n : ℕ). n < 2 ^ v) (sym (up_exact w k h (le_trans g l))) (lt_of_lt_of_le (shl_lt w k h) (pow_mono g))

-- ---- moved down

pub down_mono : {a b : ℕ} (k : ℕ) → Within a b → Within (down k a) (down k b)
down_mono {a} {b} k h = within_by_bits (λ i. le_trans (le_of_eq (bit_down a k i)) (le_trans (within_bit h (k + i)) (le_of_eq (sym (bit_down b k i)))))

pub down_lt : {d : ℕ} (m k : ℕ) → d < 2 ^ (m + k) → down k d < 2 ^ m
down_lt = shr_lt

-- ---- up to the highest one

pub length_zero : bit_length 0 ≡ 0
unfolding length_in
length_zero = refl

pub length_le : {d : ℕ} (w : ℕ) → d < 2 ^ w → bit_length d ≤ w
length_le {d} = length_in_least 64 d

pub length_mono : {a b : ℕ} → Within a b → b < 2 ^ 64 → bit_length a ≤ bit_length b
length_mono {b = b} h g = length_le (bit_length b) (within_lt (bit_length b) h (length_in_holds 64 b g))

-- a word has a one at the end of its length
pub length_one : (x n : ℕ) → x < 2 ^ 64 → bit_length x ≡ suc n → bit x n ≡ 1
length_one x n h e = go (bit_cases x n)
  where
    top : x / 2 ^ n < 2
    top = shr_lt 1 n (subst (λ (m : ℕ). x < 2 ^ m) (e ∙ sym (one-add n)) (length_in_holds 64 x h))

    short : x / 2 ^ n < 1 → bit_length x ≤ n
    short l = length_le n (subst (λ (m : ℕ). x < m) (one-mul (2 ^ n)) ((div-lt_iff_lt-mul (pow_pos n)).0 l))

    go : (bit x n ≡ 0) ⊎ (bit x n ≡ 1) → bit x n ≡ 1
    go (inl z) = let m = mod-eq_of_lt top in let l = short (omega arith) in omega arith
    go (inr o) = o
