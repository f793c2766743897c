-- Words as numbers: low masks, cuts, shifts, sums, differences and products modulo a power of two, ones and lengths.
-- Assumes nothing.
use Rattle.std.specs.Prelude.{ℕ, zero, suc, ◌+◌, ◌-◌, ◌*◌, ◌/◌, ◌%◌, ◌^◌}
use Rattle.std.specs.Int.Count.{ones_in}

-- The mask with the n lowest bits.
abbrev pub low_mask : ℕ → ℕ
low_mask n = 2 ^ n - 1

-- The w lowest bits of x: "modulo 2^w".
abbrev pub cut : ℕ → ℕ → ℕ
cut w x = x % 2 ^ w

-- "moved up by l places". A word has 64 bits; no bit of an extract's mask leaves it, since k + w is at most 64 (`up_exact`).
abbrev pub up : ℕ → ℕ → ℕ
up k x = x * 2 ^ k % 2 ^ 64

abbrev pub down : ℕ → ℕ → ℕ
down k x = x / 2 ^ k

-- "Sums and differences drop the carry beyond the width": what a sum, a difference and a product are modulo 2^w.
abbrev pub sum_at : ℕ → ℕ → ℕ → ℕ
sum_at w x y = (x + y) % 2 ^ w

abbrev pub difference_at : ℕ → ℕ → ℕ → ℕ
difference_at w x y = (x + (2 ^ w - y % 2 ^ w)) % 2 ^ w

abbrev pub product_at : ℕ → ℕ → ℕ → ℕ
product_at w x y = x * y % 2 ^ w

-- "the count of ones" of a word of 64 bits.
abbrev pub count_ones : ℕ → ℕ
count_ones x = ones_in 64 x

-- How many of the d lowest bits of x stand at its highest one or below.
unfoldable pub length_in : ℕ → ℕ → ℕ
length_in zero x = zero
length_in (suc d) zero = zero
length_in (suc d) (suc x) = suc (length_in d (suc x / 2))

-- How many bits a word of 64 bits has "from 0 to the highest one"; none where it is 0.
abbrev pub bit_length : ℕ → ℕ
bit_length x = length_in 64 x
