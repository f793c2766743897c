-- `board::values::work_out` meets its contract: after i turns the records below i are worked out.
-- Assumes nothing.
use mathlib.Core.Path.{◌≡◌}
use Rattle.netlist.specs.Layout.{design_of}
use Rattle.clock.specs.Values.{unchanged, values_to}
use Rattle.board.proofs.values.work_out.Given as goal

abbrev pub invariant-loop-i : goal.invariant-loop-i
invariant-loop-i l = l.board ≡ values_to (design_of l.file) unchanged l.initial.board l.i
