-- `desktop::compacting::pcn_compact` meets its contract: the operation's answer fits into its number, and the lists are those that the operation leaves.
-- Assumes nothing.
use mathlib.Core.Path.{sym, subst}
use Rattle.answer.specs.Fits.{RefusalFits}
use Rattle.answer.proofs.Fitting.{compact_fits}
use Rattle.desktop.proofs.compacting.pcn_compact.Goals as goal

pub number-requires : goal.number-requires
number-requires c = subst RefusalFits (sym c.compact.ensures.answer) (compact_fits _ _ _)
