-- `interface::pcn_start` meets its contract: the operation's answer fits into its number, and the lists are those that the operation leaves.
-- Assumes nothing.
use mathlib.Core.Path.{sym, subst}
use Rattle.answer.specs.Fits.{RefusalFits}
use Rattle.answer.proofs.Fitting.{start_fits}
use Rattle.interface.proofs.pcn_start.Goals as goal

pub number-requires : goal.number-requires
number-requires c = subst RefusalFits (sym c.start.ensures.answer) (start_fits _ _)
