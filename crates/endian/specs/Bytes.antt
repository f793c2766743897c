-- Little-endian numbers: what the bytes of a list say, and the bytes of a number.
-- Assumes nothing.
use Rattle.std.specs.Prelude.{ℕ, zero, suc, ◌+◌, ◌*◌, ◌/◌, ◌%◌, List, [], ◌∷◌, ◌++◌, get_or}

-- "Numbers are little-endian": the number in the `size` bytes from `at` on.
abbrev pub number_at : List ℕ → ℕ → ℕ → ℕ
number_at s at zero = 0
number_at s at (suc size) = get_or s at 0 + 256 * number_at s (suc at) size

-- The `size` bytes that hold a number, lowest first.
abbrev pub bytes : ℕ → ℕ → List ℕ
bytes zero v = []
bytes (suc size) v = v % 256 ∷ bytes size (v / 256)

-- The bytes of a list of words of 64 bits.
unfoldable pub word_bytes : List ℕ → List ℕ
word_bytes [] = []
word_bytes (w ∷ ws) = bytes 8 w ++ word_bytes ws
