-- `sweep::marks::Marks::unmark` meets its contract: a bit is taken out of the word.
-- Assumes nothing.
use mathlib.Core.Path.{sym}
use native.Mathlib.Omega.{arith}
use Rattle.sweep.proofs.MarkLaws.{put_zero}
use Rattle.sweep.proofs.marks.Marks.unmark.Goals as goal

pub returns : goal.returns
returns c = rw c.bit_of.ensures (rw (sym c.self.view_is) (put_zero c.self.inside.words c.args.i (omega arith)))
