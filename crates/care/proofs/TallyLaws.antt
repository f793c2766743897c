-- The tally, record by record: the sums so far, and that they are far from the end of a word.
-- Assumes nothing.
use mathlib.Core.Path.{◌≡◌, refl, sym, ap₂, ◌∙◌}
use mathlib.Core.List.{List}
use Prim.Native.Nat.{ℕ, ◌+◌, ◌*◌, ◌^◌, ◌≤◌, ◌<◌}
use native.Mathlib.Nat.{le_trans}
use native.Mathlib.Omega.{arith}
use Rattle.endian.specs.Lists.{sum_to}
use Rattle.endian.proofs.ListLaws.{sum_bound, sum_next}
use Rattle.bits.specs.Words.{count_ones}
use Rattle.bits.proofs.Growth.{count_ones_le}
use Rattle.bits.proofs.Order.{low_within}
use Rattle.netlist.specs.Limits.{max_width}
use Rattle.netlist.specs.Layout.{Design}
use Rattle.rules.specs.Sound.{Sound}
use Rattle.care.specs.Least.{mask_at, width_sum, ones_sum, Fits}

-- the sums over the records below i
pub record Counted (d : Design) (masks : List ℕ) (widths ones i : ℕ) : Type 0 where
  pub widths_are : widths ≡ sum_to (λ j. (d.at j).width) i
  pub ones_are : ones ≡ sum_to (λ j. count_ones (mask_at masks j)) i

module _ (d : Design) (s : Sound d) (masks : List ℕ) (f : Fits d masks) where
  pub ones_low : (i : ℕ) → i < d.count → count_ones (mask_at masks i) ≤ max_width
  ones_low i h = le_trans (count_ones_le (d.at i).width (low_within (d.at i).width (f.narrow i h))) (s.each i h).narrow

  pub widths_bound : (widths ones i : ℕ) → i ≤ d.count → Counted d masks widths ones i → widths ≤ max_width * i
  widths_bound widths ones i h c = let b = sum_bound (λ j. (d.at j).width) max_width i (λ j k. (s.each j (omega arith)).narrow) in let e = c.widths_are in omega arith

  pub ones_bound : (widths ones i : ℕ) → i ≤ d.count → Counted d masks widths ones i → ones ≤ max_width * i
  ones_bound widths ones i h c =
      let b = sum_bound (λ j. count_ones (mask_at masks j)) max_width i (λ j k. ones_low j (omega arith)) in let e = c.ones_are in omega arith

-- both numbers of a tally fit 31 bits
pub tally_low : (d : Design) → Sound d → (masks : List ℕ) → Fits d masks → (width_sum d < 2 ^ 31) × (ones_sum d masks < 2 ^ 31)
tally_low d s masks f =
    let c : Counted d masks (width_sum d) (ones_sum d masks) d.count = record { widths_are = refl; ones_are = refl } in
    let n = s.few in
    let w = widths_bound d s masks f (width_sum d) (ones_sum d masks) d.count (omega arith) c in
    let o = ones_bound d s masks f (width_sum d) (ones_sum d masks) d.count (omega arith) c in
    (omega arith, omega arith)

pub counted_next : (d : Design) (masks : List ℕ) (widths ones i w o : ℕ) → Counted d masks widths ones i → w ≡ (d.at i).width → o ≡ count_ones (mask_at masks i)
    → Counted d masks (widths + w) (ones + o) (i + 1)
counted_next d masks widths ones i w o c e g =
    record {
      widths_are = ap₂ ◌+◌ c.widths_are e ∙ sym (sum_next (λ j. (d.at j).width) i);
      ones_are = ap₂ ◌+◌ c.ones_are g ∙ sym (sum_next (λ j. count_ones (mask_at masks j)) i);
    }
