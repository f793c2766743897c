-- The loop of `masks::print_masks`: the records that have been printed are those of the file.
-- Assumes nothing.
use Rattle.std.proofs.Common.{◌-◌, ◌≤◌}
use Rattle.netlist.specs.Layout.{count_of}
use Rattle.masks.proofs.print_masks.Given as goal

abbrev pub invariant-loop-i : goal.invariant-loop-i
invariant-loop-i g l = l.i ≤ count_of l.file

abbrev pub decreases-loop-i : goal.decreases-loop-i
decreases-loop-i g l = count_of l.file - l.i
