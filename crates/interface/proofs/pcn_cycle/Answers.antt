-- `interface::pcn_cycle` meets its contract: the operation's answer fits into its number, and the lists are those that the operation leaves.
-- Assumes nothing.
use mathlib.Core.Path.{sym, subst}
use Rattle.answer.specs.Fits.{RefusalFits}
use Rattle.answer.proofs.Fitting.{cycle_fits}
use Rattle.interface.proofs.pcn_cycle.Goals as goal

pub number-requires : goal.number-requires
number-requires c = subst RefusalFits (sym c.cycle.ensures.answer) (cycle_fits _ _ _)
