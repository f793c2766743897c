-- Masks over words: the bits of a word, a mask that lies within another or has a bit outside it, a mask without another, two words that agree on a mask.
-- Assumes nothing.
use Rattle.std.specs.Prelude.{◌≡◌, ℕ, ◌/◌, ◌%◌, ◌^◌, Bool, not, ◌==◌, bit_and, bit_xor}

-- Bit i of a word, counted from 0.
abbrev pub bit : ℕ → ℕ → ℕ
bit x i = x / 2 ^ i % 2

-- Every one of the mask a is a one of the mask b.
pub record Within (a b : ℕ) : Type 0 where
  pub meet : bit_and a b ≡ a

-- Whether the mask a has a one that the mask b has not.
abbrev pub exceeds : ℕ → ℕ → Bool
exceeds a b = not (bit_and a b == a)

-- The ones of the mask a that the mask b has not.
abbrev pub without : ℕ → ℕ → ℕ
without a b = bit_xor a (bit_and b a)

-- The words x and y have equal bits wherever the mask m has a one.
pub record Agree (m x y : ℕ) : Type 0 where
  pub equal : bit_and x m ≡ bit_and y m
