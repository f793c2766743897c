-- `changer::carry::carry` meets its contract: after i turns the words of the first i records stand in front, and the numbers of the others behind.
-- Assumes nothing.
use Rattle.netlist.specs.Layout.{design_of}
use Rattle.changer.proofs.CarryLaws.{Carrying}
use Rattle.changer.proofs.carry.carry.Given as goal

abbrev pub invariant-loop-i : goal.invariant-loop-i
invariant-loop-i l = Carrying (design_of l.file) l.list l.board l.new l.i
