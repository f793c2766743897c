-- `checker::check_records` meets its contract: the records before i passed, so the answer is that of the records from i on.
-- Assumes nothing.
use Rattle.std.proofs.Common.{◌≡◌, ◌-◌}
use Rattle.rules.specs.Check.{check_from}
use Rattle.checker.proofs.check_records.Given as goal

abbrev pub invariant-loop-i : goal.invariant-loop-i
invariant-loop-i l = check_from l.file l.n 0 ≡ check_from l.file (l.n - l.i) l.i
