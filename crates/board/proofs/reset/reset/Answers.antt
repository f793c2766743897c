-- `board::reset::reset` meets its contract: after i turns the first i words are those after a start.
-- Assumes nothing.
use native.Mathlib.Omega.{arith}
use Rattle.endian.proofs.ListLaws.{filled_all}
use Rattle.netlist.specs.Layout.{design_of}
use Rattle.clock.specs.Values.{start_of}
use Rattle.board.proofs.reset.reset.Goals as goal

pub returns : goal.returns
unfolding start_of design_of
returns c = filled_all c.loop-i.invariant (omega arith)
