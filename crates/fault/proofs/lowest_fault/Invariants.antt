-- `fault::lowest_fault` meets its contract: each turn looks at one more record, and `Searched` is kept.
-- Assumes nothing.
use Rattle.netlist.specs.Layout.{design_of}
use Rattle.fault.proofs.FaultLaws.{Searched}
use Rattle.fault.proofs.lowest_fault.Given as goal

abbrev pub invariant-loop-i : goal.invariant-loop-i
invariant-loop-i l = Searched (design_of l.file) l.list l.i l.low
