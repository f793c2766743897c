-- The loop of `endian::write_words`: after i turns the bytes of the first i words stand at the front.
-- Assumes nothing.
use Rattle.std.proofs.Common.{◌≡◌, ◌*◌, take}
use Rattle.endian.specs.Bytes.{word_bytes}
use Rattle.endian.proofs.write_words.Given as goal

abbrev pub invariant-loop-i : goal.invariant-loop-i
invariant-loop-i l = take (8 * l.i) l.d ≡ word_bytes (take l.i l.words)
