-- `sweep::marks::Marks::mark` meets its contract: a bit is joined to the word.
-- Assumes nothing.
use mathlib.Core.Path.{sym}
use native.Mathlib.Omega.{arith}
use Rattle.sweep.proofs.MarkLaws.{put_one}
use Rattle.sweep.proofs.marks.Marks.mark.Goals as goal

pub returns : goal.returns
returns c = rw c.bit_of.ensures (rw (sym c.self.view_is) (put_one c.self.inside.words c.args.i (omega arith)))
