-- `sweep::sweep` meets its contract: a turn clears a mark and visits the record, and `Swept` is kept.
-- Assumes nothing.
use Prim.Native.Nat.{◌≤◌}
use Rattle.netlist.specs.Layout.{design_of, count_of}
use Rattle.sweep.specs.Sweep.{Swept}
use Rattle.sweep.proofs.sweep.Given as goal

abbrev pub invariant-loop-i : goal.invariant-loop-i
invariant-loop-i l = (l.below ≤ count_of l.file) × Swept (design_of l.file) l.below l.initial.list l.list l.marks

abbrev pub decreases-loop-i : goal.decreases-loop-i
decreases-loop-i l = l.below
