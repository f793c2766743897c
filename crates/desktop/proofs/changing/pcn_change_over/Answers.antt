-- `desktop::changing::pcn_change_over` meets its contract: the operation's answer fits into its number, and the lists are those that the operation leaves.
-- Assumes nothing.
use mathlib.Core.Path.{sym, subst}
use Rattle.answer.specs.Fits.{RefusalFits}
use Rattle.answer.proofs.Fitting.{change_over_fits}
use Rattle.desktop.proofs.changing.pcn_change_over.Goals as goal

pub number-requires : goal.number-requires
number-requires c = subst RefusalFits (sym c.change_over.ensures.answer) (change_over_fits _ _ _ _)
