-- `board::reset::reset` meets its contract: after i turns the first i words are those after a start.
-- Assumes nothing.
use Rattle.endian.proofs.ListLaws.{Filled}
use Rattle.netlist.specs.Layout.{design_of, count_of, role_at}
use Rattle.clock.specs.Values.{start_word}
use Rattle.board.proofs.reset.reset.Given as goal

abbrev pub invariant-loop-i : goal.invariant-loop-i
invariant-loop-i l = Filled (λ j. start_word (role_at (design_of l.file) j)) (count_of l.file) l.list l.i
