-- `result::result_at` meets its contract: the operand fields, used or not, name records of the file and words of the board.
-- Assumes nothing.
use mathlib.Core.Path.{sym, subst, ◌∙◌}
use Prim.Native.Nat.{ℕ, ◌<◌, ◌≤◌}
use native.Mathlib.Omega.{arith}
use Rattle.netlist.specs.declared.record.Record.{Record}
use Rattle.netlist.specs.Layout.{design_of, count_of, record_at}
use Rattle.rules.proofs.Acceptance.{holds_record}
use Rattle.result.proofs.Reading.{named, result_read}
use Rattle.result.proofs.result_at.Goals as goal

pub width_at-wb-requires : goal.width_at-wb-requires
width_at-wb-requires c =
    let n = named c.requires c.fields_at-a.ensures in
    let size = c.requires.size in holds_record c.args.file.now c.requires.accepted _ (omega arith)

pub offset_bounds-board-a : goal.offset_bounds-board-a
offset_bounds-board-a c = let n = named c.requires c.fields_at-a.ensures in omega arith

pub bounds-board-a : goal.bounds-board-a
bounds-board-a c = let n = named c.requires c.fields_at-a.ensures in omega arith

pub offset_bounds-board-b : goal.offset_bounds-board-b
offset_bounds-board-b c = let n = named c.requires c.fields_at-a.ensures in omega arith

pub bounds-board-b : goal.bounds-board-b
bounds-board-b c = let n = named c.requires c.fields_at-a.ensures in omega arith

pub offset_bounds-board-c : goal.offset_bounds-board-c
offset_bounds-board-c c = let n = named c.requires c.fields_at-a.ensures in omega arith

pub bounds-board-c : goal.bounds-board-c
bounds-board-c c = let n = named c.requires c.fields_at-a.ensures in omega arith

pub result_of-requires : goal.result_of-requires
unfolding design_of record_at
result_of-requires c =
    let own = c.requires.accepted.sound.each c.args.i c.requires.below in
    let n = named c.requires c.fields_at-a.ensures in
    let size = c.requires.size in
    let second_in : c.fields_at-a.result.b < count_of c.args.file.now = omega arith in
    let second = c.requires.accepted.sound.each _ second_in in
    let same = sym c.record_at-kind.ensures in
    let read_same = sym c.width_at-wb.ensures in (
      subst (λ (r : Record). 1 ≤ r.width) same own.positive,
      subst (λ (r : Record). r.width ≤ 64) same own.narrow,
      subst (λ (w : ℕ). 1 ≤ w) read_same second.positive,
      subst (λ (w : ℕ). w ≤ 64) read_same second.narrow,
    )

pub returns : goal.returns
returns c =
    c.result_of.ensures
    ∙ result_read c.args.file.now c.requires.accepted c.args.i c.requires.below c.args.board.now c.record_at-kind.ensures
    c.fields_at-a.ensures c.width_at-wb.ensures
