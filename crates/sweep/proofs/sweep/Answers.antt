-- `sweep::sweep` meets its contract: a turn clears a mark and visits the record, and `Swept` is kept.
-- Assumes nothing.
use native.Mathlib.Omega.{arith}
use Rattle.netlist.specs.Layout.{design_of}
use Rattle.sweep.proofs.SweepLaws.{between_fits, sweep_lower, sweep_step}
use Rattle.sweep.proofs.sweep.Goals as goal

pub visit-requires : goal.visit-requires
unfolding design_of
visit-requires c =
    let p = c.requires.0 in
    let w = c.loop-i.invariant.1 in
    let h = c.in-Some.ensures.below in
    let f = between_fits (design_of c.args.file.now) p.accepted.sound _ _ p.fits w.between in
    (record { accepted = p.accepted; fits = f }, omega arith, omega arith)

pub loop-i-preserved : goal.loop-i-preserved
unfolding design_of
loop-i-preserved c =
    let p = c.requires.0 in
    let h = c.in-Some.ensures in
    let b = h.below in (
      omega arith,
      sweep_step (design_of c.args.file.now) p.accepted.sound c.in-Some.i _ _ _ _ _ _ p.fits (sweep_lower c.loop-i.invariant.1 h.none)
          c.unmark.ensures c.visit.ensures c.in-Some.i (λ j a l. absurd (omega arith)),
    )
