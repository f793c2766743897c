-- `compactor::survivors::mark_survivors` meets its contract: after i turns there is a 1 at each record that the first i records keep.
-- Assumes nothing.
use native.Mathlib.Omega.{arith}
use Rattle.netlist.specs.Layout.{design_of}
use Rattle.compactor.proofs.MarkLaws.{marking_none, marking_next, marking_all}
use Rattle.compactor.proofs.survivors.mark_survivors.Goals as goal

pub loop-i-init : goal.loop-i-init
unfolding design_of
loop-i-init c = marking_none _ _ _ c.requires.room c.requires.clear

pub loop-i-preserved : goal.loop-i-preserved
unfolding design_of
loop-i-preserved c = marking_next c.loop-i.invariant (omega arith) c.mark.ensures

pub returns : goal.returns
unfolding design_of
returns c = marking_all c.loop-i.invariant (omega arith)
