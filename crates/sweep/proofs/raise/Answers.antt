-- `sweep::raise` meets its contract: each sweep stays between the list and every closed family above it, until no mark is left.
-- Assumes nothing.
use native.Mathlib.Omega.{arith}
use Rattle.std.proofs.Common.{rules}
use Rattle.netlist.specs.Layout.{design_of}
use Rattle.sweep.proofs.SweepLaws.{between_refl, between_trans, between_fits, uncared_less, added_some, all_visited, settled_all, reached}
use Rattle.sweep.proofs.raise.Goals as goal

pub loop-marks-init : goal.loop-marks-init
unfolding design_of
loop-marks-init c =
    let args = c.args in
    let p = c.requires in
    let d = design_of args.file.now in
    let v = c.visit.ensures in
    let f = between_fits d p.0.sound _ _ p.1 v.between in
    (record { accepted = p.0; fits = f }, between_refl d _ f, all_visited d args.list.now _ c.new-marks.result _ p.1.size v)

pub loop-marks-smaller : goal.loop-marks-smaller
unfolding design_of
loop-marks-smaller c =
    let r = c.loop-marks.invariant.0 in
    let w = c.sweep.ensures in
    let e = c.requires.1.size in
    uncared_less (design_of c.args.file.now) r.accepted.sound _ _ r.fits w.between
    (added_some w (omega arith) c.highest_below.result (search rules) c.highest_below.ensures)

pub loop-marks-preserved : goal.loop-marks-preserved
unfolding design_of
loop-marks-preserved c =
    let v = c.loop-marks.invariant in
    let r = v.0 in
    let d = design_of c.args.file.now in
    let w = c.sweep.ensures in
    (record { accepted = r.accepted; fits = between_fits d r.accepted.sound _ _ r.fits w.between }, between_trans d _ _ _ v.1 w.between, w.covered)

pub returns : goal.returns
unfolding design_of
returns c =
    let p = c.requires in
    let d = design_of c.args.file.now in
    let w = c.sweep.ensures in
    reached d p.0.sound _ p.1 _ (between_trans d _ _ _ c.visit.ensures.between (between_trans d _ _ _ c.loop-marks.invariant.1 w.between))
    (settled_all w p.1.size c.highest_below.result (search rules) c.highest_below.ensures)
