-- `masker::fill` meets its contract: the seed fits the widths, and so do the masks that it is raised to.
-- Assumes nothing.
use mathlib.Core.List.{List}
use mathlib.Core.Path.{sym, ap, subst, ◌∙◌}
use Prim.Native.Nat.{ℕ}
use Rattle.netlist.specs.Layout.{design_of}
use Rattle.care.specs.Least.{least_above, masks_of, Fits}
use Rattle.care.proofs.LeastMasks.{seed_fits, masks_fit}
use Rattle.masker.proofs.fill.Goals as goal

pub raise-requires : goal.raise-requires
unfolding design_of
raise-requires c = let args = c.args in
    let file = args.file.now in
    let s = c.requires.accepted in (
      s,
      subst (λ (l : List ℕ). Fits (design_of file) l)
          (sym c.seed.ensures) (seed_fits (design_of file) s.sound),
    )

pub tally_of-requires : goal.tally_of-requires
unfolding masks_of design_of
tally_of-requires c = let args = c.args in
    let file = args.file.now in
    let s = c.requires.accepted in (
      s,
      subst (λ (l : List ℕ). Fits (design_of file) l) (sym (c.raise.ensures ∙ ap (least_above (design_of file))
          c.seed.ensures))
          (masks_fit (design_of file) s.sound),
    )
