-- `changer::change_over` changes over an accepted file, and all lists have a word for each record.
-- Assumes nothing.
use mathlib.Core.Path.{sym}
use native.Mathlib.Omega.{arith}
use Rattle.rules.proofs.Acceptance.{accepted, lent}
use Rattle.changer.proofs.change_over.Goals as goal

pub change-requires : goal.change-requires
change-requires c =
    let a = accepted c.args.file.now _ (sym c.in_ok-n.ensures) in
    (lent a (grind arith), (lent a (grind arith), lent a (grind arith)))
