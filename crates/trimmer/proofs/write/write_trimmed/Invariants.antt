-- `trimmer::write::write_trimmed` meets its contract: after i turns the keep words of the first i records are cut.
-- Assumes nothing.
use Rattle.trim.proofs.TrimLaws.{Trimming}
use Rattle.trimmer.proofs.write.write_trimmed.Given as goal

abbrev pub invariant-loop-i : goal.invariant-loop-i
invariant-loop-i l = Trimming l.file l.list l.destination l.i
