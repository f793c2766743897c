-- The limits of the format.
-- Assumes nothing.
use Rattle.std.specs.Prelude.{ℕ}

-- "The limits 64, 2,048 and 15 kinds are each named in one place." #101 makes the kinds 19.
abbrev pub max_width : ℕ
max_width = 64

abbrev pub max_count : ℕ
max_count = 2048

abbrev pub kind_count : ℕ
kind_count = 19

-- #106: "Multipliers up to 32 bits."
abbrev pub max_multiplier_width : ℕ
max_multiplier_width = 32
