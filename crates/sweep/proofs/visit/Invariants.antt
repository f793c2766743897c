-- `sweep::visit` meets its contract: a turn passes a record with D 0 by, or joins what it asks, and `Visited` is kept.
-- Assumes nothing.
use Rattle.netlist.specs.Layout.{design_of}
use Rattle.sweep.specs.Sweep.{Visited}
use Rattle.sweep.proofs.visit.Given as goal

abbrev pub invariant-loop-i : goal.invariant-loop-i
invariant-loop-i l = Visited (design_of l.file) l.low l.i l.high l.initial.list l.list l.initial.marks l.marks
