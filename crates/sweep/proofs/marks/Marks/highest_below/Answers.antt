-- `sweep::marks::Marks::highest_below` meets its contract: words without marks are passed by, and the length of the first one with marks is known.
-- Assumes nothing.
use mathlib.Core.Path.{sym}
use native.Mathlib.Omega.{arith}
use Rattle.sweep.proofs.MarkLaws.{first_found, next_found}
use Rattle.sweep.proofs.marks.Marks.highest_below.Goals as goal

pub returns-then-word-ne0 : goal.returns-then-word-ne0
returns-then-word-ne0 c =
    rw c.bit_length.ensures (rw (sym c.self.view_is)
    (first_found c.self.inside.words c.args.i c.cut_to-word.result (omega arith) (omega arith) (omega arith)))

pub returns-then-word-ne0-2 : goal.returns-then-word-ne0-2
returns-then-word-ne0-2 c =
    rw c.bit_length-then-word-ne0-2.ensures (rw (sym c.self.view_is)
    (next_found c.self.inside.words c.args.i c.loop-at.at (omega arith) (omega arith) (omega arith) (rw c.self.view_is c.loop-at.invariant) (omega arith)))
