-- `interface::pcn_trim_by` meets its contract: the operation's answer fits into its number, and the destination is what the operation leaves.
-- Assumes nothing.
use mathlib.Core.Path.{sym, subst}
use Rattle.answer.proofs.Fitting.{trim_by_fits}
use Rattle.answer.specs.Fits.{TalliedFits}
use Rattle.interface.proofs.pcn_trim_by.Goals as goal

pub number-requires : goal.number-requires
number-requires c = subst TalliedFits (sym c.trim_by.ensures.answer) (trim_by_fits _ _ _)
