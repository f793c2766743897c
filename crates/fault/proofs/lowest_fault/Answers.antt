-- `fault::lowest_fault` meets its contract: each turn looks at one more record, and `Searched` is kept.
-- Assumes nothing.
use native.Mathlib.Omega.{arith}
use Rattle.netlist.proofs.LowestLaws.{lowest_number}
use Rattle.netlist.specs.Layout.{design_of}
use Rattle.fault.proofs.FaultLaws.{searched_all}
use Rattle.fault.proofs.lowest_fault.Goals as goal

pub returns : goal.returns
unfolding design_of
returns c =
    let p = c.requires in
    let e = p.size in
    lowest_number (searched_all (design_of c.args.file.now) p.accepted.sound c.args.list.now _ c.loop-i.low (omega arith) c.loop-i.invariant)
