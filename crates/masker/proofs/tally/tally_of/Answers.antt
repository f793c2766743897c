-- `masker::tally::tally_of` meets its contract: after i turns both sums run over the first i records.
-- Assumes nothing.
use mathlib.Core.Path.{refl}
use Prim.Native.Nat.{◌<◌}
use native.Mathlib.Omega.{arith}
use Rattle.endian.specs.Lists.{sum_to}
use Rattle.netlist.specs.Layout.{design_of, count_of, record_at}
use Rattle.rules.proofs.Acceptance.{holds_record}
use Rattle.care.proofs.TallyLaws.{widths_bound, ones_bound, ones_low, counted_next}
use Rattle.masker.proofs.tally.tally_of.Goals as goal

pub loop-i-init : goal.loop-i-init
unfolding sum_to
loop-i-init c = record { widths_are = refl; ones_are = refl }

pub width_at-widths-requires : goal.width_at-widths-requires
unfolding design_of
width_at-widths-requires c = holds_record c.args.file.now c.requires.0 c.loop-i.i (omega arith)

pub overflow_add-widths : goal.overflow_add-widths
unfolding design_of record_at
overflow_add-widths c = let args = c.args in
    let file = args.file.now in
    let loop = c.loop-i in
    let a = c.requires in
    let h : loop.i < count_of file = omega arith in
    let b = widths_bound (design_of file) a.0.sound args.list.now a.1 _ _ loop.i (omega arith) loop.invariant in
    let n = a.0.sound.few in
    let w = (a.0.sound.each loop.i h).narrow in
    omega arith

pub overflow_add-ones : goal.overflow_add-ones
unfolding design_of
overflow_add-ones c = let args = c.args in
    let file = args.file.now in
    let loop = c.loop-i in
    let a = c.requires in
    let h : loop.i < count_of file = omega arith in
    let b = ones_bound (design_of file) a.0.sound args.list.now a.1 _ _ loop.i (omega arith) loop.invariant in
    let n = a.0.sound.few in
    let w = ones_low (design_of file) a.0.sound args.list.now a.1 loop.i h in
    omega arith

pub loop-i-preserved : goal.loop-i-preserved
unfolding design_of record_at
loop-i-preserved c = counted_next (design_of c.args.file.now) c.args.list.now _ _ c.loop-i.i _ _
    c.loop-i.invariant c.width_at-widths.ensures c.count_ones-ones.ensures
