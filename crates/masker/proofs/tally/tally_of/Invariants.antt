-- `masker::tally::tally_of` meets its contract: after i turns both sums run over the first i records.
-- Assumes nothing.
use Rattle.netlist.specs.Layout.{design_of}
use Rattle.care.proofs.TallyLaws.{Counted}
use Rattle.masker.proofs.tally.tally_of.Given as goal

abbrev pub invariant-loop-i : goal.invariant-loop-i
invariant-loop-i l = Counted (design_of l.file) l.list l.widths l.ones l.i
