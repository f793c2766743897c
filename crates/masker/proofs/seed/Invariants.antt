-- `masker::seed` meets its contract: after i turns the first i words are the seed's.
-- Assumes nothing.
use Rattle.endian.proofs.ListLaws.{Filled}
use Rattle.netlist.specs.Layout.{design_of, count_of}
use Rattle.care.specs.Least.{output_seed}
use Rattle.masker.proofs.seed.Given as goal

abbrev pub invariant-loop-i : goal.invariant-loop-i
invariant-loop-i l = Filled (output_seed (design_of l.file)) (count_of l.file) l.list l.i
