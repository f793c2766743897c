-- `desktop::checking::pcn_check` meets its contract: the answer of check fits into its number.
-- Assumes nothing.
use mathlib.Core.Path.{sym, subst}
use Rattle.answer.specs.Fits.{RefusalFits}
use Rattle.answer.proofs.Fitting.{check_fits}
use Rattle.desktop.proofs.checking.pcn_check.Goals as goal

pub number-requires : goal.number-requires
number-requires c = subst RefusalFits (sym c.check.ensures) (check_fits _)
