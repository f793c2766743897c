-- `fault::of_record` meets its contract: with D 0 all is granted, and else the asks are those that the record's mask gives.
-- Assumes nothing.
use Rattle.netlist.specs.Layout.{design_of}
use Rattle.signal.specs.Asks.{asked}
use Rattle.care.proofs.Rounds.{asked_named}
use Rattle.care.specs.Least.{mask_at}
use Rattle.fault.proofs.of_record.Goals as goal

pub of_asks-requires : goal.of_asks-requires
unfolding asked design_of
of_asks-requires c = let a = c.args in
    let d = design_of a.file.now in
    let pre = c.requires in
    rw (c.asked.ensures, c.demand_at-d.ensures) (asked_named d pre.accepted.sound a.list.now pre.size a.i pre.below (mask_at a.list.now a.i))
