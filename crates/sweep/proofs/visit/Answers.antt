-- `sweep::visit` meets its contract: a turn passes a record with D 0 by, or joins what it asks, and `Visited` is kept.
-- Assumes nothing.
use mathlib.Core.Path.{◌≡◌, sym, ap, subst, ◌∙◌}
use mathlib.Core.List.{List}
use Prim.Native.Nat.{ℕ, suc, ◌-◌, ◌≤◌, ◌<◌}
use native.Mathlib.Omega.{arith}
use lib.ListN.{length}
use Rattle.netlist.specs.Layout.{design_of, Design}
use Rattle.rules.specs.Sound.{Sound}
use Rattle.signal.specs.AskLists.{Named}
use Rattle.signal.specs.Asks.{asks_of, demand_of, asked, Granted}
use Rattle.signal.specs.declared.Ask.{Ask}
use Rattle.signal.proofs.AskedNothing.{asked_none}
use Rattle.care.specs.Least.{grant, mask_at, Fits}
use Rattle.care.proofs.Families.{grant_granted}
use Rattle.care.proofs.Rounds.{asked_named}
use Rattle.sweep.specs.Sweep.{Between, Joins, Visited}
use Rattle.sweep.proofs.NotedLaws.{noted_same, noted_higher}
use Rattle.sweep.proofs.SweepLaws.{between_refl, between_fits, between_grant, visit_step}
use Rattle.sweep.proofs.visit.Goals as goal

-- a turn at the record below j, whose D has been worked out as D
module _ (d : Design) (s : Sound d) (low j high D : ℕ) (before masks marks current : List ℕ) (f : Fits d before) (h : low < j) (l : j ≤ d.count)
    (v : Visited d low j high before masks marks current) (q : D ≡ demand_of (d.at (j - 1)) (mask_at masks (j - 1))) where
  i : ℕ
  i = j - 1

  place : i < d.count
  unfolding i
  place = omega arith

  here : Visited d low (suc i) high before masks marks current
  unfolding i
  here = subst (λ (n : ℕ). Visited d low n high before masks marks current) (omega arith) v

  fits : Fits d masks
  fits = between_fits d s before masks f v.between

  passed_by : D ≡ 0 → Visited d low (j - 1) high before masks marks current
  unfolding i
  passed_by e =
      visit_step d s low i high place before masks masks marks current current f here (between_refl d masks fits)
      (asked_none d.at (mask_at masks) i _ (sym q ∙ e)) (noted_same low i masks current)

  module _ (xs : List Ask) (e : xs ≡ asks_of d.at (d.at (j - 1)).kind D) where
    read : xs ≡ asked d.at (j - 1) (mask_at masks (j - 1))
    unfolding asked
    read = e ∙ ap (asks_of d.at (d.at (j - 1)).kind) q

    named : Named (length masks) (asked d.at (j - 1) (mask_at masks (j - 1)))
    unfolding i
    named = asked_named d s masks fits.size i place (mask_at masks i)

    asks_named : Named (length masks) xs
    asks_named = rw read named

    turn : (after noted : List ℕ) {k : ℕ} → Joins low k xs masks after current noted → k ≤ j - 1 → Visited d low (j - 1) high before after marks noted
    unfolding i
    turn after noted t m =
        let g : after ≡ grant (asked d.at i (mask_at masks i)) masks = t.granted ∙ ap (λ (ys : List Ask). grant ys masks) read in
        visit_step d s low i high place before masks after marks current noted f here
        (subst (Between d masks) (sym g) (between_grant d s masks fits i place))
        (subst (λ (m : List ℕ). Granted (asked d.at i (mask_at masks i)) (mask_at m)) (sym g) (grant_granted (asked d.at i (mask_at masks i)) masks named))
        (noted_higher t.notes m)

pub join_all-requires : goal.join_all-requires
unfolding design_of
join_all-requires c =
    let p = c.requires in
    let loop = c.loop-i in
    let v = loop.invariant in
    let n =
    asks_named (design_of c.args.file.now) p.0.accepted.sound _ loop.i _ _ _ loop.list _ _ p.0.fits (omega arith) (omega arith) v
    c.demand_at-d.ensures _ c.asked-asks.ensures in
    let e = v.between.size in
    (n, omega arith)

pub loop-i-preserved-then-d-ne0 : goal.loop-i-preserved-then-d-ne0
unfolding design_of
loop-i-preserved-then-d-ne0 c =
    let p = c.requires in
    let loop = c.loop-i in
    turn (design_of c.args.file.now) p.0.accepted.sound _ loop.i _ _ _ loop.list _ _ p.0.fits (omega arith) (omega arith) loop.invariant
    c.demand_at-d.ensures _ c.asked-asks.ensures _ _ c.join_all.ensures (omega arith)

pub loop-i-preserved : goal.loop-i-preserved
unfolding design_of
loop-i-preserved c =
    let p = c.requires in
    let loop = c.loop-i in
    passed_by (design_of c.args.file.now) p.0.accepted.sound _ loop.i _ _ _ loop.list _ _ p.0.fits (omega arith) (omega arith) loop.invariant
    c.demand_at-d.ensures (omega arith)
