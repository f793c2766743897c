-- `simulator::check_words` meets its contract: no word before i is too wide.
-- Assumes nothing.
use Rattle.netlist.specs.Layout.{design_of}
use Rattle.netlist.proofs.LowestLaws.{Clear}
use Rattle.clock.specs.Call.{is_wide}
use Rattle.simulator.proofs.check_words.Given as goal

abbrev pub invariant-loop-i : goal.invariant-loop-i
invariant-loop-i l = Clear (is_wide (design_of l.file) l.board) l.i
