-- `trimmer::by::judge` meets its contract: where no record is at fault, the list fits and is counted.
-- Assumes nothing.
use native.Mathlib.Omega.{arith}
use Rattle.netlist.specs.Layout.{design_of}
use Rattle.trim.proofs.CallByLaws.{list_fits}
use Rattle.trimmer.proofs.by.judge.Goals as goal

pub tally_of-requires : goal.tally_of-requires
unfolding design_of
tally_of-requires c = let a = c.args in
    let pre = c.requires in
    let e = pre.size in
    (pre.accepted, list_fits (design_of a.file.now) a.list.now _ c.lowest_fault-low.ensures (omega arith) pre.accepted.sound e)
