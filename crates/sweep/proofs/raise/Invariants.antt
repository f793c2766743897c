-- `sweep::raise` meets its contract: each sweep stays between the list and every closed family above it, until no mark is left.
-- Assumes nothing.
use Prim.Native.Nat.{◌-◌}
use Rattle.netlist.specs.Layout.{design_of}
use Rattle.care.specs.Least.{width_sum, ones_sum}
use Rattle.sweep.specs.Sweep.{Ready, Between, AllCovered}
use Rattle.sweep.proofs.raise.Given as goal

abbrev pub invariant-loop-marks : goal.invariant-loop-marks
invariant-loop-marks l = Ready l.file l.list × Between (design_of l.file) l.initial.list l.list × AllCovered (design_of l.file) l.list l.marks

abbrev pub decreases-loop-marks : goal.decreases-loop-marks
decreases-loop-marks l = width_sum (design_of l.file) - ones_sum (design_of l.file) l.list
