-- `sweep::marks::Marks::highest_below` meets its contract: words without marks are passed by, and the length of the first one with marks is known.
-- Assumes nothing.
use Prim.Native.Nat.{◌*◌}
use Rattle.sweep.specs.Marks.{NoneMarked}
use Rattle.sweep.proofs.marks.Marks.highest_below.Given as goal

abbrev pub invariant-loop-at : goal.invariant-loop-at
invariant-loop-at l = NoneMarked l.self (64 * l.at) l.i
