-- `board::load::load` meets its contract: after i turns the first i words are those after a cycle.
-- Assumes nothing.
use native.Mathlib.Omega.{arith}
use Rattle.endian.proofs.ListLaws.{filled_all}
use Rattle.netlist.specs.Layout.{design_of}
use Rattle.clock.specs.Values.{next_of}
use Rattle.board.proofs.load.load.Goals as goal

pub returns : goal.returns
unfolding next_of design_of
returns c = filled_all c.loop-i.invariant (omega arith)
