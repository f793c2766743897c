-- `changer::carry::carry` meets its contract: after i turns the words of the first i records stand in front, and the numbers of the others behind.
-- Assumes nothing.
use native.Mathlib.Omega.{arith}
use lib.ListN.{length-set}
use Rattle.netlist.specs.Layout.{design_of}
use Rattle.rules.proofs.Acceptance.{few}
use Rattle.changer.proofs.CarryLaws.{carrying_none, carrying_next, carrying_all, number_low}
use Rattle.changer.proofs.carry.carry.Goals as goal

pub loop-i-init : goal.loop-i-init
loop-i-init c = let args = c.args in
    let pre = c.requires in
    carrying_none (design_of args.file.now) args.list.now args.board.now _ pre.numbered

pub carried_at-requires : goal.carried_at-requires
unfolding design_of
carried_at-requires c = let pre = c.requires in (
  record { accepted = pre.accepted; size = pre.masks; below = omega arith },
  record { accepted = pre.accepted; size = pre.boards; below = omega arith },
)

pub offset_bounds-new-at : goal.offset_bounds-new-at
unfolding design_of
offset_bounds-new-at c = let f = few _ _ c.requires.accepted in
    let n = c.new_number-at.ensures in
    let b = number_low _ _ _ c.loop-i.invariant (omega arith) in
    omega arith

pub bounds-new-at : goal.bounds-new-at
bounds-new-at c = let n = c.new_number-at.ensures in
    let b = number_low _ _ _ c.loop-i.invariant (omega arith) in
    rw length-set (omega arith)

pub loop-i-preserved : goal.loop-i-preserved
loop-i-preserved c = rw (c.new_number-at.ensures, c.carried_at.ensures) (carrying_next _ _ _ c.loop-i.invariant (omega arith))

pub returns : goal.returns
returns c = carrying_all _ _ _ c.loop-i.invariant (omega arith)
