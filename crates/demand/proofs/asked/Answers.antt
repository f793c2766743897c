-- `demand::asked` meets its contract: it reads the record's kind, whose line holds.
-- Assumes nothing.
use Rattle.netlist.specs.Layout.{design_of}
use Rattle.demand.proofs.Reading.{readable}
use Rattle.demand.proofs.asked.Goals as goal

pub of_kind-requires : goal.of_kind-requires
unfolding design_of
of_kind-requires c = let p = c.requires in rw c.record_at.ensures (readable c.args.file.now p.0 _ p.1)
