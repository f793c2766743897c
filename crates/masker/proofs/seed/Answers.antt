-- `masker::seed` meets its contract: after i turns the first i words are the seed's.
-- Assumes nothing.
use native.Mathlib.Omega.{arith}
use Rattle.endian.proofs.ListLaws.{filled_all}
use Rattle.masker.proofs.seed.Goals as goal

pub returns : goal.returns
returns c = filled_all c.loop-i.invariant (omega arith)
