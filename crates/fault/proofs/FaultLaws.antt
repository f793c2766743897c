-- The search for the lowest record at fault: what stays true while it goes through the records, and what it comes to.
-- Assumes nothing.
use mathlib.Core.Path.{◌≡◌, refl, ap, subst, ◌∙◌}
use mathlib.Core.Bool.{Bool, true, false}
use mathlib.Core.Logic.{◌⊎◌, inl, inr}
use mathlib.Core.List.{List, [], ◌∷◌}
use Prim.Native.Nat.{ℕ, ◌+◌, ◌≤◌, ◌<◌, min}
use native.Mathlib.Nat.{not-suc-le-zero}
use native.Mathlib.Omega.{arith}
use Rattle.bits.specs.Masks.{Within, exceeds}
use Rattle.bits.specs.Words.{low_mask}
use Rattle.bits.proofs.Order.{within_not_exceeds, not_exceeds_within}
use Rattle.netlist.specs.Layout.{Design}
use Rattle.netlist.proofs.LowestLaws.{Lowest, below_next}
use Rattle.rules.specs.Sound.{Sound}
use Rattle.signal.specs.Asks.{ask, asked, Granted}
use Rattle.signal.specs.declared.Ask.{Ask}
use Rattle.care.specs.Called.{called_for, is_faulty}
use Rattle.care.specs.Least.{mask_at, output_seed}
use Rattle.care.proofs.CalledLaws.{GrantedBelow, fewer_below, seed_called, asked_called, lacking_faulty, wide_faulty, clear_below}
use Rattle.care.proofs.Families.{below_or_not}
use Rattle.fault.specs.Fault.{lower_if, ask_fault, asks_fault, own_fault, record_fault}

-- ---- the lower of two

lower_le : (b : Bool) (at low : ℕ) → lower_if b at low ≤ low
lower_le true at low = omega arith
lower_le false at low = omega arith

-- a record below the lower one was found in order
lower_not : (b : Bool) (at low : ℕ) → at < lower_if b at low → b ≡ false
lower_not true at low h = absurd (omega arith)
lower_not false at low h = refl

lower_is : (P : ℕ → Type 0) (b : Bool) (at low : ℕ) → (b ≡ true → P at) → P low → P (lower_if b at low)
lower_is P false at low here before = before
lower_is P true at low here before = go (below_or_not at low)
  where
    go : (at < low) ⊎ (low ≤ at) → P (min at low)
    go (inl h) = subst P (let e : at ≡ min at low = omega arith in e) (here refl)
    go (inr h) = subst P (let e : low ≡ min at low = omega arith in e) before

-- ---- what a record asks

module _ (masks : List ℕ) where
  asks_le : (xs : List Ask) (low : ℕ) → asks_fault masks low xs ≤ low
  unfolding asks_fault
  asks_le [] low = omega arith
  asks_le (x ∷ xs) low =
      let a = asks_le xs (ask_fault masks low x) in
      let b = lower_le (exceeds x.mask (mask_at masks x.operand)) x.operand low in omega arith

  -- records below the lowest one at fault have all that is asked of them
  asks_granted : (xs : List Ask) (low : ℕ) → GrantedBelow (asks_fault masks low xs) xs (mask_at masks)
  unfolding asks_fault
  asks_granted [] low = tt
  asks_granted (x ∷ xs) low = (
    λ h.
        not_exceeds_within x.mask (mask_at masks x.operand)
        (lower_not (exceeds x.mask (mask_at masks x.operand)) x.operand low (let a = asks_le xs (ask_fault masks low x) in omega arith)),
    asks_granted xs (ask_fault masks low x),
  )

  -- where all is granted, nothing is found
  pub asks_none : (xs : List Ask) (low : ℕ) → Granted xs (mask_at masks) → asks_fault masks low xs ≡ low
  unfolding asks_fault
  asks_none [] low g = refl
  asks_none (x ∷ xs) low g =
      ap (λ (b : Bool). asks_fault masks (lower_if b x.operand low) xs) (within_not_exceeds g.0) ∙ asks_none xs low g.1

-- ---- the search

-- the lowest record at fault among those that the first i records and their asks tell of, or the count of records
pub record Searched (d : Design) (masks : List ℕ) (i low : ℕ) : Type 0 where
  pub place : i ≤ d.count
  pub in_range : low ≤ d.count
  pub faulty : low < d.count → is_faulty d (output_seed d) masks low ≡ true
  pub narrow : (j : ℕ) → j < i → j < low → Within (mask_at masks j) (low_mask (d.at j).width)
  pub seeded : (j : ℕ) → j < i → j < low → Within (output_seed d j) (mask_at masks j)
  pub granted : (j : ℕ) → j < i → GrantedBelow low (asked d.at j (mask_at masks j)) (mask_at masks)

pub searched_none : (d : Design) (masks : List ℕ) → Searched d masks 0 d.count
searched_none d masks =
    record {
      place = omega arith;
      in_range = omega arith;
      faulty = λ h. absurd (omega arith);
      narrow = λ j h g. absurd (not-suc-le-zero h);
      seeded = λ j h g. absurd (not-suc-le-zero h);
      granted = λ j h. absurd (not-suc-le-zero h);
    }

module _ (d : Design) (s : Sound d) (masks : List ℕ) where
  abbrev Faulty : ℕ → Type 0
  Faulty r = r < d.count → is_faulty d (output_seed d) masks r ≡ true

  abbrev called : ℕ → ℕ
  called = mask_at (called_for d (output_seed d) masks)

  asks_faulty : (xs : List Ask) (low : ℕ) → Granted xs called → Faulty low → Faulty (asks_fault masks low xs)
  unfolding asks_fault
  asks_faulty [] low g f = f
  asks_faulty (x ∷ xs) low g f =
      asks_faulty xs (ask_fault masks low x) g.1
      (lower_is Faulty (exceeds x.mask (mask_at masks x.operand)) x.operand low
      (λ e h. lacking_faulty d s (output_seed d) masks x.operand x.mask g.0 e) f)

  module _ (i low : ℕ) (h : i < d.count) (w : Searched d masks i low) where
    abbrev wide : Bool
    wide = exceeds (mask_at masks i) (low_mask (d.at i).width)

    abbrev lacks : Bool
    lacks = exceeds (output_seed d i) (mask_at masks i)

    abbrev xs : List Ask
    xs = asked d.at i (mask_at masks i)

    abbrev own : ℕ
    own = own_fault d masks i low

    abbrev r : ℕ
    r = asks_fault masks own xs

    own_le : own ≤ lower_if wide i low
    own_le = lower_le lacks i (lower_if wide i low)

    r_le : r ≤ low
    r_le = let a = asks_le masks xs own in let b = own_le in let c = lower_le wide i low in omega arith

    found : Faulty r
    unfolding asks_fault
    found =
        asks_faulty (ask i (output_seed d i) ∷ xs) (lower_if wide i low) (seed_called d s (output_seed d) masks i h, asked_called d s (output_seed d) masks i h)
        (lower_is Faulty wide i low (λ e g. wide_faulty d s (output_seed d) masks i e) w.faulty)

    pub searched_next : Searched d masks (i + 1) (record_fault d masks i low)
    unfolding record_fault
    searched_next =
        let l = r_le in
        record {
          place = omega arith;
          in_range = let n = w.in_range in omega arith;
          faulty = found;
          narrow = below_next (λ j k g. w.narrow j k (omega arith))
              (λ g. not_exceeds_within _ _ (lower_not wide i low (let a = asks_le masks xs own in let b = own_le in omega arith)));
          seeded = below_next (λ j k g. w.seeded j k (omega arith))
              (λ g. not_exceeds_within _ _ (lower_not lacks i (lower_if wide i low) (let a = asks_le masks xs own in omega arith)));
          granted = below_next (λ j k. fewer_below (mask_at masks) low r l (asked d.at j (mask_at masks j)) (w.granted j k)) (asks_granted masks xs own);
        }

  pub searched_all : (i low : ℕ) → d.count ≤ i → Searched d masks i low → Lowest (is_faulty d (output_seed d) masks) d.count low
  searched_all i low h w =
      let p = w.place in
      let n = w.in_range in
      record {
        low = n;
        picked = w.faulty;
        clear = clear_below d s (output_seed d) masks low n (λ j g. w.narrow j (omega arith) g) (λ j g. w.seeded j (omega arith) g) (λ j g. w.granted j (omega arith));
      }
