-- The masks of a design are closed, lie within every closed family, and are the only such masks.
-- Assumes nothing.
use mathlib.Core.Path.{◌≡◌, refl, sym, ap, subst, ◌∙◌}
use mathlib.Core.Bool.{Bool, true, false, cond}
use mathlib.Core.Logic.{◌⊎◌, inl, inr}
use mathlib.Core.List.{List}
use Prim.Native.Nat.{ℕ, zero, suc, ◌+◌, ◌≤◌, ◌<◌}
use native.Mathlib.Omega.{arith}
use lib.Dec.{eqb}
use lib.ListN.{length, get_or-eq_default}
use borrow.Author.Tests.{eqb-true, eqb-false}
use Rattle.endian.specs.Lists.{words_of}
use Rattle.endian.proofs.ListLaws.{length_words, words_of-word_at, sum_mono, sum_same}
use Rattle.bits.specs.Masks.{Within}
use Rattle.bits.specs.Words.{count_ones}
use Rattle.bits.proofs.Growth.{count_ones_mono, count_ones_le, growth}
use Rattle.bits.proofs.Order.{within_refl, within_antisym, within_zero, low_within}
use Rattle.netlist.specs.Kinds.{is_output}
use Rattle.netlist.specs.Layout.{Design, design_of, role_at}
use Rattle.rules.specs.Sound.{Sound, Acceptance}
use Rattle.rules.proofs.SoundLaws.{word_64}
use Rattle.signal.specs.Asks.{asked, Granted}
use Rattle.care.specs.Least.{Closed, Least, mask_at, output_seed, round_to, width_sum, ones_sum, settle, least_above, masks_from, masks_of, Fits}
use Rattle.care.proofs.Families.{Inside, inside_refl, inside_trans, granted_more, below_or_not, all_bits, all_closed}
use Rattle.care.proofs.Rounds.{closed_grants, length_round, round_above, round_granted, round_least}

-- a list of n masks lies within a family where each of its n words does
pub list_inside : (n : ℕ) (masks : List ℕ) (F : ℕ → ℕ) → length masks ≡ n → ((i : ℕ) → i < n → Within (mask_at masks i) (F i)) → Inside (mask_at masks) F
list_inside n masks F e h = record { each = λ i. go i (below_or_not i n) }
  where
    go : (i : ℕ) → (i < n) ⊎ (n ≤ i) → Within (mask_at masks i) (F i)
    go i (inl l) = h i l
    go i (inr g) = subst (λ (m : ℕ). Within m (F i)) (sym (get_or-eq_default masks 0 (let q : length masks ≤ i = omega arith in q))) (within_zero (F i))

-- two families that are both least agree at every record
pub least_unique : (d : Design) (seed M N : ℕ → ℕ) → Least d seed M → Least d seed N → (i : ℕ) → i < d.count → M i ≡ N i
least_unique d seed M N a b i h = within_antisym (a.least N b.closed i h) (b.least M a.closed i h)

-- what settling gives: closed above the list, and within every closed family above it
record Good (d : Design) (masks result : List ℕ) : Type 0 where
  size : length result ≡ d.count
  above : Inside (mask_at masks) (mask_at result)
  granted : (i : ℕ) → i < d.count → Granted (asked d.at i (mask_at result i)) (mask_at result)
  least : (seed F : ℕ → ℕ) → Closed d seed F → Inside (mask_at masks) F → Inside (mask_at result) F

module _ (d : Design) (s : Sound d) where
  -- the ones of masks within the widths
  pub ones_le : (masks : List ℕ) → Inside (mask_at masks) (all_bits d) → ones_sum d masks ≤ width_sum d
  ones_le masks n =
      sum_mono (λ i. count_ones (mask_at masks i)) (λ i. (d.at i).width) d.count
      (λ i h. count_ones_le (d.at i).width (low_within (d.at i).width (n.each i)))

  pub ones_grow : (masks more : List ℕ) → Inside (mask_at masks) (mask_at more) → ones_sum d masks ≤ ones_sum d more
  ones_grow masks more i =
      sum_mono (λ i. count_ones (mask_at masks i)) (λ i. count_ones (mask_at more i)) d.count (λ j h. count_ones_mono (i.each j))

  -- masks that grow without one more bit stay as they are
  pub no_more : (masks more : List ℕ) → Inside (mask_at masks) (mask_at more) → Inside (mask_at more) (all_bits d) → ones_sum d more ≤ ones_sum d masks
      → (i : ℕ) → i < d.count → mask_at masks i ≡ mask_at more i
  no_more masks more in_more narrow l i h =
      growth (in_more.each i) (word_64 d s i h (mask_at more i) (low_within (d.at i).width (narrow.each i)))
      (sum_same (λ i. count_ones (mask_at masks i)) (λ i. count_ones (mask_at more i)) d.count (λ j k. count_ones_mono (in_more.each j))
      (let g = ones_grow masks more in_more in omega arith) i h)

  module _ (masks : List ℕ) (e : length masks ≡ d.count) (narrow : Inside (mask_at masks) (all_bits d)) where
    whole : List ℕ
    whole = round_to d (mask_at masks) masks d.count

    whole_narrow : Inside (mask_at whole) (all_bits d)
    unfolding whole
    whole_narrow =
        round_least d s (mask_at masks) masks e (all_bits d) narrow
        (closed_grants d s (all_closed d s (mask_at masks) (λ i h. narrow.each i)) masks narrow) d.count (omega arith)

    -- a round that adds no bit grants all that is asked
    stays : ones_sum d whole ≤ ones_sum d masks → Good d masks masks
    unfolding whole
    stays l =
        let same = no_more masks whole (round_above d s (mask_at masks) masks e d.count (omega arith)) whole_narrow l in
        record {
          size = e;
          above = inside_refl (mask_at masks);
          granted = λ i h.
              granted_more
              (list_inside d.count whole (mask_at masks) (length_round d s (mask_at masks) masks e d.count (omega arith))
              (λ j k. subst (λ (m : ℕ). Within m (mask_at masks j)) (same j k) (within_refl (mask_at masks j))))
              (asked d.at i (mask_at masks i)) (round_granted d s (mask_at masks) masks e d.count (omega arith) i h);
          least = λ seed F c i. i;
        }

    goes_on : (result : List ℕ) → Good d whole result → Good d masks result
    unfolding whole
    goes_on result g =
        record {
          size = g.size;
          above = inside_trans (round_above d s (mask_at masks) masks e d.count (omega arith)) g.above;
          granted = g.granted;
          least = λ seed F c i.
              g.least seed F c (round_least d s (mask_at masks) masks e F i (closed_grants d s c masks i) d.count (omega arith));
        }

  settle_good : (turns : ℕ) (masks : List ℕ) → length masks ≡ d.count → Inside (mask_at masks) (all_bits d) → width_sum d ≤ ones_sum d masks + turns
      → Good d masks (settle d turns masks)
  unfolding settle whole
  settle_good zero masks e narrow l =
      stays masks e narrow (let a = ones_le (whole masks e narrow) (whole_narrow masks e narrow) in omega arith)
  settle_good (suc turns) masks e narrow l =
      go (eqb (ones_sum d (whole masks e narrow)) (ones_sum d masks)) refl (settle_good turns (whole masks e narrow) (length_round d s (mask_at masks) masks e d.count (omega arith)) (whole_narrow masks e narrow))
    where
      go : (b : Bool) → eqb (ones_sum d (whole masks e narrow)) (ones_sum d masks) ≡ b
          → (width_sum d ≤ ones_sum d (whole masks e narrow) + turns → Good d (whole masks e narrow) (settle d turns (whole masks e narrow)))
          → Good d masks (cond b masks (settle d turns (whole masks e narrow)))
      go true q next = stays masks e narrow (let p = eqb-true (ones_sum d (whole masks e narrow)) (ones_sum d masks) q in omega arith)
      go false q next = goes_on masks e narrow (settle d turns (whole masks e narrow)) (next (more q))
        where
          more : eqb (ones_sum d (whole masks e narrow)) (ones_sum d masks) ≡ false → width_sum d ≤ ones_sum d (whole masks e narrow) + turns
          more q = let n = eqb-false (ones_sum d (whole masks e narrow)) (ones_sum d masks) q in
              let g = ones_grow masks (whole masks e narrow) (round_above d s (mask_at masks) masks e d.count (omega arith)) in omega arith

  -- the list that settling gives, as a least family above the masks it began with
  module _ (masks : List ℕ) (f : Fits d masks) where
    fits_inside : Inside (mask_at masks) (all_bits d)
    fits_inside = list_inside d.count masks (all_bits d) f.size f.narrow

    good : Good d masks (least_above d masks)
    unfolding least_above
    good = settle_good (width_sum d) masks f.size fits_inside (omega arith)

    pub length_least : length (least_above d masks) ≡ d.count
    length_least = good.size

    pub least_narrow : Fits d (least_above d masks)
    least_narrow = record {
      size = good.size;
      narrow = λ i h. (good.least (mask_at masks) (all_bits d) (all_closed d s (mask_at masks) f.narrow) fits_inside).each i;
    }

    pub least_above_least : Least d (mask_at masks) (mask_at (least_above d masks))
    least_above_least =
        record {
          closed = record { seeded = λ i h. good.above.each i; granted = good.granted };
          least = λ F c i h. (good.least (mask_at masks) F c (list_inside d.count masks F f.size c.seeded)).each i;
        }

-- a seed within the widths, as a list
pub words_fit : (d : Design) (seed : ℕ → ℕ) → ((i : ℕ) → i < d.count → Within (seed i) (all_bits d i)) → Fits d (words_of seed d.count)
words_fit d seed narrow =
    record {
      size = length_words seed d.count;
      narrow = λ i h. subst (λ (m : ℕ). Within m (all_bits d i)) (sym (words_of-word_at seed d.count i h)) (narrow i h);
    }

-- the masks above such a seed are closed above it, within every such family, and within the widths
module _ (d : Design) (s : Sound d) (seed : ℕ → ℕ) (narrow : (i : ℕ) → i < d.count → Within (seed i) (all_bits d i)) where
  pub from_least : Least d seed (mask_at (masks_from d seed))
  from_least =
      let l = least_above_least d s (words_of seed d.count) (words_fit d seed narrow) in
      let same = words_of-word_at seed d.count in
      record {
        closed = record {
          seeded = λ i h. subst (λ (m : ℕ). Within m (mask_at (masks_from d seed) i)) (same i h) (l.closed.seeded i h);
          granted = l.closed.granted;
        };
        least = λ F c i h.
            l.least F (record { seeded = λ j k. subst (λ (m : ℕ). Within m (F j)) (sym (same j k)) (c.seeded j k); granted = c.granted }) i h;
      }

  pub from_fit : Fits d (masks_from d seed)
  from_fit = least_narrow d s (words_of seed d.count) (words_fit d seed narrow)

-- the seed of a design: its outputs
module _ (d : Design) (s : Sound d) where
  seed_within : (i : ℕ) → Within (output_seed d i) (all_bits d i)
  seed_within i = go (is_output (role_at d i))
    where
      go : (b : Bool) → Within (cond b (all_bits d i) 0) (all_bits d i)
      go true = within_refl (all_bits d i)
      go false = within_zero (all_bits d i)

  pub seed_fits : Fits d (words_of (output_seed d) d.count)
  seed_fits = words_fit d (output_seed d) (λ i h. seed_within i)

  -- "M is the smallest family of masks": the masks of a sound design are closed above the outputs, and within every such family
  pub masks_least : Least d (output_seed d) (mask_at (masks_of d))
  unfolding masks_of
  masks_least = from_least d s (output_seed d) (λ i h. seed_within i)

  pub masks_fit : Fits d (masks_of d)
  unfolding masks_of
  masks_fit = from_fit d s (output_seed d) (λ i h. seed_within i)

-- a list that holds the masks of an accepted file has a word for each record
pub masks_length : (file : List ℕ) (n : ℕ) → Acceptance file n → {list : List ℕ} → list ≡ masks_of (design_of file) → length list ≡ n
unfolding design_of
masks_length file n a e = ap length e ∙ (masks_fit (design_of file) a.sound).size ∙ sym a.count
