-- `simulator::cycle` runs the cycle on an accepted file, and both lists have a word for each record.
-- Assumes nothing.
use mathlib.Core.Path.{sym}
use native.Mathlib.Omega.{arith}
use Rattle.rules.proofs.Acceptance.{accepted, lent}
use Rattle.simulator.proofs.cycle.Goals as goal

pub run-requires : goal.run-requires
run-requires c =
    let a = accepted c.args.file.now _ (sym c.in_ok-n.ensures) in
    (lent a (grind arith), lent a (grind arith))
