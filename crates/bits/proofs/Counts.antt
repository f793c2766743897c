-- Counts over a word: its ones are those the kit counts, and its length is the least number of bits that hold it.
-- Assumes nothing.
use Rattle.std.proofs.Common.{◌≡◌, ℕ, zero, suc, ◌+◌, ◌/◌, ◌%◌, ◌^◌, ◌<◌, ◌≤◌, sym, refl, ap, ◌∙◌, subst, suc-le-suc, zero-le, le_of_suc-le-suc, not-suc-le-zero, zero-lt-suc, div-lt_iff_lt-mul, suc-add, pow-suc, zero-add, add-one, shr_lt}
use lib.Arith.{lt-one}
use lib.Count.{ones, ones_in, ones_step, count_leading_zeros}
use Rattle.bits.specs.Words.{length_in}

-- dropping the lowest bit takes one off the length
pub half_lt : {n : ℕ} (k : ℕ) → n < 2 ^ suc k → n / 2 < 2 ^ k
half_lt {n} k h = shr_lt k 1 (subst (λ (x : ℕ). n < 2 ^ x) (sym (add-one k)) h)

half-lt⁻¹ : {n : ℕ} (k : ℕ) → n / 2 < 2 ^ k → n < 2 ^ suc k
half-lt⁻¹ {n} k h = subst (λ (x : ℕ). n < x) (sym (pow-suc 2 k)) ((div-lt_iff_lt-mul (zero-lt-suc 1)).0 h)

-- d bits are enough to count the ones of a number that has no more
pub ones_in_ones : (d x : ℕ) → x < 2 ^ d → ones_in d x ≡ ones x
unfolding ones_in ones
ones_in_ones zero x h = sym (ap ones (lt-one h))
ones_in_ones (suc d) x h = ap (λ (n : ℕ). x % 2 + n) (ones_in_ones d (x / 2) (half_lt d h)) ∙ sym (ones_step x)

pub length_leading : (d x : ℕ) → length_in d x + count_leading_zeros d x ≡ d
unfolding length_in count_leading_zeros
length_leading zero x = refl
length_leading (suc d) zero = zero-add (suc d)
length_leading (suc d) (suc x) = suc-add (length_in d (suc x / 2)) (count_leading_zeros d (suc x / 2)) ∙ ap suc (length_leading d (suc x / 2))

-- the length holds the number
pub length_in_holds : (d x : ℕ) → x < 2 ^ d → x < 2 ^ length_in d x
unfolding length_in
length_in_holds zero x h = h
length_in_holds (suc d) zero h = zero-lt-suc zero
length_in_holds (suc d) (suc x) h = half-lt⁻¹ (length_in d (suc x / 2)) (length_in_holds d (suc x / 2) (half_lt d h))

-- and no shorter one does
pub length_in_least : (d x m : ℕ) → x < 2 ^ m → length_in d x ≤ m
unfolding length_in
length_in_least zero x m h = zero-le
length_in_least (suc d) zero m h = zero-le
length_in_least (suc d) (suc x) zero h = absurd (not-suc-le-zero (le_of_suc-le-suc h))
length_in_least (suc d) (suc x) (suc m) h = suc-le-suc (length_in_least d (suc x / 2) m (half_lt m h))
