-- The answers of `endian::write_words`: no words have no bytes, and each turn writes the bytes of one word more.
-- Assumes nothing.
use Rattle.std.proofs.Common.{refl, arith}
use Rattle.endian.specs.Bytes.{word_bytes}
use Rattle.endian.proofs.WordBytes.{written_next}
use Rattle.endian.proofs.write_words.Goals as goal

pub loop-i-init : goal.loop-i-init
unfolding word_bytes
loop-i-init c = refl

pub loop-i-preserved : goal.loop-i-preserved
loop-i-preserved c =
    let p = c.requires in
    written_next c.args.words.now c.loop-i.d _ _ c.loop-i.i _ _ (omega arith) (omega arith) (omega arith) c.loop-i.invariant c.write_64.ensures
