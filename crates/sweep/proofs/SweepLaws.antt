-- Sweeps: what stays true while records are visited, and what visits and sweeps one after the other come to.
-- Assumes nothing.
use mathlib.Core.Path.{◌≡◌, refl, sym, subst, ◌∙◌}
use mathlib.Core.Logic.{◌≢◌, ◌⊎◌, inl, inr}
use mathlib.Core.Bool.{true, false, true≢false}
use mathlib.Core.List.{List}
use Rattle.std.specs.Prelude.{Option, Some, None, is_some}
use Prim.Native.Nat.{ℕ, suc, ◌+◌, ◌-◌, ◌≤◌, ◌<◌}
use native.Mathlib.Omega.{arith}
use lib.ListN.{length}
use lib.Seq.{ext_get_or}
use Rattle.netlist.specs.Layout.{Design}
use Rattle.rules.specs.Sound.{Sound}
use Rattle.signal.specs.Asks.{Granted, asked}
use Rattle.signal.specs.AskLists.{Named}
use Rattle.care.specs.Least.{mask_at, grant, width_sum, ones_sum, least_above, Fits}
use Rattle.care.proofs.Families.{Inside, inside_refl, inside_trans, same_or_not, below_or_not, granted_more, length_grant, grant_above, grant_least, all_bits, all_closed}
use Rattle.care.proofs.Rounds.{asked_named, closed_grants}
use Rattle.care.proofs.LeastMasks.{list_inside, least_unique, ones_le, ones_grow, no_more, length_least, least_above_least}
use Rattle.sweep.specs.Marks.{mark_at, Put, NoneMarked, Highest}
use Rattle.sweep.specs.Sweep.{Between, Settled, Covered, AllCovered, Passed, Noted, Visited, Swept}

-- ---- lists between, one after the other

pub between_refl : (d : Design) (masks : List ℕ) → Fits d masks → Between d masks masks
between_refl d masks f =
    record { size = refl; above = λ i. (inside_refl (mask_at masks)).each i; below = λ F c i. (list_inside d.count masks F f.size c.seeded).each i }

pub between_trans : (d : Design) (low mid high : List ℕ) → Between d low mid → Between d mid high → Between d low high
between_trans d low mid high a b =
    record {
      size = b.size ∙ a.size;
      above = λ i. (inside_trans (record { each = a.above }) (record { each = b.above })).each i;
      below = λ F c i. b.below F (record { seeded = λ j h. a.below F c j; granted = c.granted }) i;
    }

pub between_fits : (d : Design) → Sound d → (low high : List ℕ) → Fits d low → Between d low high → Fits d high
between_fits d s low high f b =
    record { size = b.size ∙ f.size; narrow = λ i h. b.below (all_bits d) (all_closed d s (mask_at low) f.narrow) i }

-- all that record i asks, joined
pub between_grant : (d : Design) → Sound d → (masks : List ℕ) → Fits d masks → (i : ℕ) → i < d.count → Between d masks (grant (asked d.at i (mask_at masks i)) masks)
between_grant d s masks f i h =
    let xs = asked d.at i (mask_at masks i) in
    let n : Named (length masks) xs = asked_named d s masks f.size i h (mask_at masks i) in
    record {
      size = length_grant xs masks n;
      above = λ j. (grant_above xs masks n).each j;
      below = λ F c j. let l = list_inside d.count masks F f.size c.seeded in (grant_least F xs masks n l (closed_grants d s c masks l i h)).each j;
    }

module _ (d : Design) (s : Sound d) (before after : List ℕ) (f : Fits d before) (b : Between d before after) where
  narrow : Inside (mask_at after) (all_bits d)
  narrow = let g = between_fits d s before after f b in list_inside d.count after (all_bits d) g.size g.narrow

  ones_rise : ones_sum d before ≤ ones_sum d after
  ones_rise = ones_grow d s before after (record { each = b.above })

  -- a mask that changed has more ones
  ones_more : (j : ℕ) → j < d.count → mask_at after j ≢ mask_at before j → ones_sum d before < ones_sum d after
  ones_more j h n = go (below_or_not (ones_sum d before) (ones_sum d after))
    where
      go : (ones_sum d before < ones_sum d after) ⊎ (ones_sum d after ≤ ones_sum d before) → ones_sum d before < ones_sum d after
      go (inl l) = l
      go (inr l) = absurd (n (sym (no_more d s before after (record { each = b.above }) narrow l j h)))

  -- so fewer bits are uncared
  pub uncared_less : ones_sum d before < ones_sum d after → width_sum d - ones_sum d after < width_sum d - ones_sum d before
  uncared_less l = let m = ones_le d s after narrow in omega arith

-- ---- a visit

-- a turn: record i is visited while the masks grow from `masks` to `after`, and all that it asked is granted
module _ (d : Design) (s : Sound d) (low i high : ℕ) (h : i < d.count) (before masks after marks current noted : List ℕ) (f : Fits d before)
    (v : Visited d low (suc i) high before masks marks current) (b : Between d masks after) (g : Granted (asked d.at i (mask_at masks i)) (mask_at after))
    (n : Noted low i masks after current noted) where
  fits : Fits d masks
  fits = between_fits d s before masks f v.between

  -- a record that keeps its mask while the others grow stays settled
  still : (j : ℕ) → mask_at after j ≡ mask_at masks j → Granted (asked d.at j (mask_at masks j)) (mask_at after) → Settled d after j
  still j e q = subst (λ (m : ℕ). Granted (asked d.at j m) (mask_at after)) (sym e) q

  stays : (j : ℕ) → mask_at after j ≡ mask_at masks j → Covered d masks current j → Covered d after noted j
  stays j e (inl m) = inl (n.kept j e ∙ m)
  stays j e (inr q) = inr (still j e (granted_more (record { each = b.above }) (asked d.at j (mask_at masks j)) q))

  earlier : (j : ℕ) → j ≢ i → Passed low i j → Passed low (suc i) j
  earlier j m (inl l) = inl l
  earlier j m (inr l) = inr (omega arith)

  known : (j : ℕ) → j ≢ i → ((i ≤ j) × (j < high)) ⊎ Covered d before marks j → ((suc i ≤ j) × (j < high)) ⊎ Covered d before marks j
  known j m (inl r) = inl (let a = r.0 in let z : suc i ≤ j = omega arith in z, r.1)
  known j m (inr c) = inr c

  unchanged : (j : ℕ) → j < d.count → Passed low i j → ((i ≤ j) × (j < high)) ⊎ Covered d before marks j → mask_at after j ≡ mask_at masks j
      → (j ≡ i) ⊎ (j ≢ i) → Covered d after noted j
  unchanged j k p c e (inl q) = inr (still j e (subst (λ (j : ℕ). Granted (asked d.at j (mask_at masks j)) (mask_at after)) (sym q) g))
  unchanged j k p c e (inr m) = stays j e (v.covered j k (earlier j m p) (known j m c))

  covered_after : (j : ℕ) → j < d.count → Passed low i j → ((i ≤ j) × (j < high)) ⊎ Covered d before marks j
      → (mask_at after j ≡ mask_at masks j) ⊎ (mask_at after j ≢ mask_at masks j) → Covered d after noted j
  covered_after j k p c (inl e) = unchanged j k p c e (same_or_not j i)
  covered_after j k p c (inr m) = inl (n.gained j p m)

  added_before : (j : ℕ) → (mark_at marks j ≡ 1) ⊎ (ones_sum d before < ones_sum d masks) → (mark_at marks j ≡ 1) ⊎ (ones_sum d before < ones_sum d after)
  added_before j (inl m) = inl m
  added_before j (inr l) = inr (let r = ones_rise d s masks after fits b in omega arith)

  added_after : (j : ℕ) → j < d.count → mark_at noted j ≡ 1 → (mask_at after j ≡ mask_at masks j) ⊎ (mask_at after j ≢ mask_at masks j)
      → (mark_at marks j ≡ 1) ⊎ (ones_sum d before < ones_sum d after)
  added_after j k m (inl e) = added_before j (v.added j k (sym (n.kept j e) ∙ m))
  added_after j k m (inr c) =
      inr (let r = ones_rise d s before masks f v.between in let l = ones_more d s masks after fits b j k c in omega arith)

  pub visit_step : Visited d low i high before after marks noted
  visit_step = record {
    between = between_trans d before masks after v.between b;
    covered = λ j k p c. covered_after j k p c (same_or_not (mask_at after j) (mask_at masks j));
    added = λ j k m. added_after j k m (same_or_not (mask_at after j) (mask_at masks j));
  }

-- ---- a sweep

pub sweep_begins : (d : Design) (masks marks : List ℕ) (i : ℕ) → d.count ≤ i → Fits d masks → AllCovered d masks marks → Swept d i masks masks marks
sweep_begins d masks marks i l f c = record { between = between_refl d masks f; covered = c; added = λ j h m. absurd (omega arith) }

-- where no record from `low` on and below i is marked, the sweep has come down to `low`
pub sweep_lower : {d : Design} {low i : ℕ} {before masks marks : List ℕ} → Swept d i before masks marks → NoneMarked marks low i → Swept d low before masks marks
sweep_lower {d} {low} {i} {before} {masks} {marks} w n =
    record { between = w.between; covered = w.covered; added = λ j l a m. added j l a m (below_or_not j i) }
  where
    added : (j : ℕ) → j < d.count → low ≤ j → mark_at marks j ≡ 1 → (j < i) ⊎ (i ≤ j) → ones_sum d before < ones_sum d masks
    added j l a m (inl b) = absurd (let z = n j a b in omega arith)
    added j l a m (inr b) = w.added j l b m

-- a turn: the mark of record i is cleared, and the record is visited
module _ (d : Design) (s : Sound d) (i : ℕ) (before masks after marks cleared noted : List ℕ) (f : Fits d before) (w : Swept d (i + 1) before masks marks)
    (p : Put marks i 0 cleared) (v : Visited d i i (i + 1) masks after cleared noted) where
  cleared_other : (k : ℕ) → k ≢ i → Covered d masks marks k → Covered d masks cleared k
  cleared_other k n (inl m) = inl (p.others k n ∙ m)
  cleared_other k n (inr q) = inr q

  before_visit : (k : ℕ) → k < d.count → (k ≡ i) ⊎ (k ≢ i) → ((i ≤ k) × (k < i + 1)) ⊎ Covered d masks cleared k
  before_visit k l (inl e) = inl (let a : i ≤ k = omega arith in a, let b : k < i + 1 = omega arith in b)
  before_visit k l (inr n) = inr (cleared_other k n (w.covered k l))

  -- a mark that was there already means that a bit was added before
  added_before_visit : (k : ℕ) → k < d.count → i ≤ k → mark_at cleared k ≡ 1 → (k ≡ i) ⊎ (k ≢ i) → ones_sum d before < ones_sum d masks
  added_before_visit k l a m (inl e) = absurd (let z : 0 ≡ 1 = sym p.here ∙ subst (λ (k : ℕ). mark_at cleared k ≡ 1) e m in omega arith)
  added_before_visit k l a m (inr n) = w.added k l (omega arith) (sym (p.others k n) ∙ m)

  added_so_far : (k : ℕ) → k < d.count → i ≤ k → (mark_at cleared k ≡ 1) ⊎ (ones_sum d masks < ones_sum d after) → ones_sum d before < ones_sum d after
  added_so_far k l a (inl m) =
      let b = added_before_visit k l a m (same_or_not k i) in
      let c = ones_rise d s masks after (between_fits d s before masks f w.between) v.between in
      omega arith
  added_so_far k l a (inr m) = let b = ones_rise d s before masks f w.between in omega arith

  down_to_it : Swept d i before after noted
  down_to_it = record {
    between = between_trans d before masks after w.between v.between;
    covered = λ k l. v.covered k l (below_or_not k i) (before_visit k l (same_or_not k i));
    added = λ k l a m. added_so_far k l a (v.added k l m);
  }

  -- the sweep has come down to any `low` from which on no record below i is marked
  pub sweep_step : (low : ℕ) → NoneMarked noted low i → Swept d low before after noted
  sweep_step low n = sweep_lower down_to_it n

-- ---- no mark is left

-- a list between the masks and every closed family above them, and settled itself, is the least one
pub reached : (d : Design) → Sound d → (masks : List ℕ) → Fits d masks → (result : List ℕ) → Between d masks result
    → ((i : ℕ) → i < d.count → Settled d result i) → result ≡ least_above d masks
reached d s masks f result b t =
    ext_get_or 0 result (least_above d masks) (b.size ∙ f.size ∙ sym (length_least d s masks f))
    (λ i h. least_unique d (mask_at masks) (mask_at result) (mask_at (least_above d masks))
    (record { closed = record { seeded = λ i h. b.above i; granted = t }; least = λ F c i h. b.below F c i }) (least_above_least d s masks f) i
    (let e = b.size in let g = f.size in omega arith))

-- every record is covered after a visit of all
pub all_visited : (d : Design) (before after marks noted : List ℕ) {n : ℕ} → n ≡ d.count → Visited d 0 0 n before after marks noted → AllCovered d after noted
all_visited d before after marks noted e v j h = v.covered j h (inr (omega arith)) (inl (let a : 0 ≤ j = omega arith in a, omega arith))

-- and settled after a sweep that leaves none marked
pub settled_all : {d : Design} {before masks marks : List ℕ} → Swept d 0 before masks marks → {n : ℕ} → n ≡ d.count → (r : Option ℕ) → is_some r ≡ false
    → Highest marks n r → (i : ℕ) → i < d.count → Settled d masks i
settled_all {d} {before} {masks} {marks} w e None q none i h = go (w.covered i h)
  where
    go : Covered d masks marks i → Settled d masks i
    go (inl m) = absurd (let z = none i (omega arith) (omega arith) in omega arith)
    go (inr s) = s
settled_all w e (Some m) q h i l = absurd (true≢false q)

-- a sweep that leaves one marked has added a bit
pub added_some : {d : Design} {before masks marks : List ℕ} → Swept d 0 before masks marks → {n : ℕ} → n ≡ d.count → (r : Option ℕ) → is_some r ≡ true
    → Highest marks n r → ones_sum d before < ones_sum d masks
added_some w e None q none = absurd (true≢false (sym q))
added_some w e (Some m) q h = let b = h.below in w.added m (omega arith) (omega arith) h.marked
