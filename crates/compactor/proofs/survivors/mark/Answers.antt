-- `compactor::survivors::mark` meets its contract: a blank record marks nothing, and any other marks itself and its operands.
-- Assumes nothing.
use mathlib.Core.Path.{sym, subst, ◌∙◌}
use native.Mathlib.Omega.{arith}
use lib.ListN.{length-set}
use Rattle.netlist.specs.Layout.{design_of}
use Rattle.compactor.specs.Numbers.{Marks}
use Rattle.compactor.proofs.MarkLaws.{marks_none, marks_one, marks_kept, kept_none, uses_are, a_place, b_place, c_place}
use Rattle.compactor.proofs.survivors.mark.Goals as goal

pub returns-then-is_blank : goal.returns-then-is_blank
returns-then-is_blank c = let args = c.args in
    subst (Marks args.numbers.now args.numbers.now)
    (sym (kept_none (design_of args.file.now) args.list.now args.i (sym c.is_blank.ensures ∙ c.if-is_blank.true)))
    (marks_none args.numbers.now)

pub offset_bounds-numbers-c : goal.offset_bounds-numbers-c
offset_bounds-numbers-c c =
    let w = c_place c.requires.1 c.new-uses.ensures c.code_at.ensures c.fields_at.ensures c.operand_or-c.ensures in omega arith

pub bounds-numbers-c : goal.bounds-numbers-c
bounds-numbers-c c =
    let w = c_place c.requires.1 c.new-uses.ensures c.code_at.ensures c.fields_at.ensures c.operand_or-c.ensures in omega arith

pub offset_bounds-numbers-b : goal.offset_bounds-numbers-b
offset_bounds-numbers-b c =
    let w = b_place c.requires.1 c.new-uses.ensures c.code_at.ensures c.fields_at.ensures c.operand_or-b.ensures in omega arith

pub bounds-numbers-b : goal.bounds-numbers-b
bounds-numbers-b c =
    let w = b_place c.requires.1 c.new-uses.ensures c.code_at.ensures c.fields_at.ensures c.operand_or-b.ensures in simp length-set (omega arith)

pub offset_bounds-numbers-a : goal.offset_bounds-numbers-a
offset_bounds-numbers-a c =
    let w = a_place c.requires.1 c.new-uses.ensures c.code_at.ensures c.fields_at.ensures c.operand_or-a.ensures in omega arith

pub bounds-numbers-a : goal.bounds-numbers-a
bounds-numbers-a c =
    let w = a_place c.requires.1 c.new-uses.ensures c.code_at.ensures c.fields_at.ensures c.operand_or-a.ensures in simp length-set (omega arith)

pub returns : goal.returns
unfolding design_of
returns c =
    let lent = c.requires.1 in
    let numbers = c.args.numbers.now in
    let uses = c.new-uses.ensures in
    let code = c.code_at.ensures in
    let fields = c.fields_at.ensures in
    let la = a_place lent uses code fields c.operand_or-a.ensures in
    let lb = b_place lent uses code fields c.operand_or-b.ensures in
    let lc = c_place lent uses code fields c.operand_or-c.ensures in
    let size = lent.size in
    let below = lent.below in
    let one = marks_one c.operand_or-c.result (marks_none numbers) lc.0 in
    let two = marks_one c.operand_or-b.result one (let l = one.size in omega arith) in
    let three = marks_one c.operand_or-a.result two (let l = two.size in omega arith) in
    marks_kept (design_of c.args.file.now) c.args.list.now c.args.i c.new-uses.result (uses_are lent uses code fields)
    (sym c.is_blank.ensures ∙ c.if-is_blank.false) c.operand_or-a.ensures c.operand_or-b.ensures c.operand_or-c.ensures
    (marks_one c.args.i three (let l = three.size in omega arith))
