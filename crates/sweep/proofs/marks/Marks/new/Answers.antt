-- `sweep::marks::Marks::new` meets its contract: words that are 0 have no mark.
-- Assumes nothing.
use Prim.Native.Nat.{◌+◌, ◌/◌}
use Rattle.netlist.specs.Limits.{max_count}
use Rattle.sweep.proofs.MarkLaws.{none_marked}
use Rattle.sweep.proofs.marks.Marks.new.Goals as goal

pub returns : goal.returns
returns c = none_marked (max_count / 64 + 1) 0 _
