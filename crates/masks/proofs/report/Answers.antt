-- `masks::report` is safe: what is printed as accepted is accepted.
-- Assumes nothing.
use mathlib.Core.Path.{sym}
use Rattle.rules.proofs.Acceptance.{accepted}
use Rattle.masks.proofs.report.Goals as goal

pub print_accepted-requires : goal.print_accepted-requires
print_accepted-requires g c = accepted c.args.file.now _ (sym c.in-Ok.ensures)
