-- `compactor::survivors::mark_survivors` meets its contract: after i turns there is a 1 at each record that the first i records keep.
-- Assumes nothing.
use Rattle.netlist.specs.Layout.{design_of}
use Rattle.compactor.proofs.MarkLaws.{Marking}
use Rattle.compactor.proofs.survivors.mark_survivors.Given as goal

abbrev pub invariant-loop-i : goal.invariant-loop-i
invariant-loop-i l = Marking (design_of l.file) l.list l.numbers l.i
