-- Families of masks: what joining asks to a list does, and the family of all bits, which grants whatever is asked.
-- Assumes nothing.
use mathlib.Core.Path.{◌≡◌, refl, sym, subst, ◌∙◌}
use mathlib.Core.Bool.{Bool, true, false}
use mathlib.Core.Logic.{◌≢◌, ◌⊎◌, inl, inr}
use mathlib.Core.List.{List, [], ◌∷◌}
use Prim.Native.Nat.{ℕ, ◌≤◌, ◌<◌}
use lib.Bits.{bit_or}
use lib.Dec.{eqb, leb}
use lib.ListN.{length, length-set}
use lib.Seq.{get_or-set_same, get_or-set_other}
use borrow.Author.Tests.{eqb-true, eqb-false, leb-true, leb-false}
use Rattle.bits.specs.Masks.{Within}
use Rattle.bits.specs.Words.{low_mask}
use Rattle.bits.proofs.Order.{within_refl, within_trans, join_left, join_right, join_least}
use Rattle.netlist.specs.Layout.{Design}
use Rattle.rules.specs.Sound.{Sound}
use Rattle.signal.specs.Asks.{Granted, Fit, asked}
use Rattle.signal.specs.declared.Ask.{Ask}
use Rattle.signal.specs.AskLists.{Named}
use Rattle.signal.proofs.RuleLaws.{asked_fit}
use Rattle.care.specs.Least.{Closed, mask_at, grant, joined}

-- a family lies within another
pub record Inside (M F : ℕ → ℕ) : Type 0 where
  pub each : (i : ℕ) → Within (M i) (F i)

pub inside_refl : (M : ℕ → ℕ) → Inside M M
inside_refl M = record { each = λ i. within_refl (M i) }

pub inside_trans : {M N F : ℕ → ℕ} → Inside M N → Inside N F → Inside M F
inside_trans a b = record { each = λ i. within_trans (a.each i) (b.each i) }

pub granted_more : {M N : ℕ → ℕ} → Inside M N → (xs : List Ask) → Granted xs M → Granted xs N
granted_more h [] g = tt
granted_more h (x ∷ xs) g = (within_trans g.0 (h.each x.operand), granted_more h xs g.1)

pub same_or_not : (m n : ℕ) → (m ≡ n) ⊎ (m ≢ n)
same_or_not m n = go (eqb m n) refl
  where
    go : (b : Bool) → eqb m n ≡ b → (m ≡ n) ⊎ (m ≢ n)
    go true e = inl (eqb-true m n e)
    go false e = inr (eqb-false m n e)

pub below_or_not : (m n : ℕ) → (m < n) ⊎ (n ≤ m)
below_or_not m n = go (leb n m) refl
  where
    go : (b : Bool) → leb n m ≡ b → (m < n) ⊎ (n ≤ m)
    go true e = inr (leb-true n m e)
    go false e = inl (leb-false n m e)

-- one ask, joined to a list
module _ (masks : List ℕ) (x : Ask) (h : x.operand < length masks) where
  pub joined_same : mask_at (joined masks x) x.operand ≡ bit_or (mask_at masks x.operand) x.mask
  joined_same = get_or-set_same masks x.operand (bit_or (mask_at masks x.operand) x.mask) 0 h

  pub joined_other : (j : ℕ) → j ≢ x.operand → mask_at (joined masks x) j ≡ mask_at masks j
  joined_other j n = get_or-set_other masks x.operand j (bit_or (mask_at masks x.operand) x.mask) 0 n

  pub joined_above : Inside (mask_at masks) (mask_at (joined masks x))
  joined_above = record { each = λ j. go j (same_or_not j x.operand) }
    where
      go : (j : ℕ) → (j ≡ x.operand) ⊎ (j ≢ x.operand) → Within (mask_at masks j) (mask_at (joined masks x) j)
      go j (inl e) =
          subst (λ (k : ℕ). Within (mask_at masks k) (mask_at (joined masks x) k)) (sym e)
          (subst (λ (m : ℕ). Within (mask_at masks x.operand) m) (sym joined_same) (join_left (mask_at masks x.operand) x.mask))
      go j (inr n) = subst (λ (m : ℕ). Within (mask_at masks j) m) (sym (joined_other j n)) (within_refl (mask_at masks j))

  pub joined_granted : Within x.mask (mask_at (joined masks x) x.operand)
  joined_granted = subst (λ (m : ℕ). Within x.mask m) (sym joined_same) (join_right (mask_at masks x.operand) x.mask)

  pub joined_least : (F : ℕ → ℕ) → Inside (mask_at masks) F → Within x.mask (F x.operand) → Inside (mask_at (joined masks x)) F
  joined_least F i g = record { each = λ j. go j (same_or_not j x.operand) }
    where
      go : (j : ℕ) → (j ≡ x.operand) ⊎ (j ≢ x.operand) → Within (mask_at (joined masks x) j) (F j)
      go j (inl e) =
          subst (λ (k : ℕ). Within (mask_at (joined masks x) k) (F k)) (sym e)
          (subst (λ (m : ℕ). Within m (F x.operand)) (sym joined_same) (join_least (i.each x.operand) g))
      go j (inr n) = subst (λ (m : ℕ). Within m (F j)) (sym (joined_other j n)) (i.each j)

  pub length_joined : length (joined masks x) ≡ length masks
  length_joined = length-set masks x.operand (bit_or (mask_at masks x.operand) x.mask)

  pub still_named : (xs : List Ask) → Named (length masks) xs → Named (length (joined masks x)) xs
  still_named xs n = subst (λ (k : ℕ). Named k xs) (sym length_joined) n

-- all of a list of asks, joined one after the other
pub length_grant : (xs : List Ask) (masks : List ℕ) → Named (length masks) xs → length (grant xs masks) ≡ length masks
unfolding grant
length_grant [] masks n = refl
length_grant (x ∷ xs) masks n = length_grant xs (joined masks x) (still_named masks x n.0 xs n.1) ∙ length_joined masks x n.0

pub grant_above : (xs : List Ask) (masks : List ℕ) → Named (length masks) xs → Inside (mask_at masks) (mask_at (grant xs masks))
unfolding grant
grant_above [] masks n = inside_refl (mask_at masks)
grant_above (x ∷ xs) masks n =
    inside_trans (joined_above masks x n.0) (grant_above xs (joined masks x) (still_named masks x n.0 xs n.1))

pub grant_granted : (xs : List Ask) (masks : List ℕ) → Named (length masks) xs → Granted xs (mask_at (grant xs masks))
unfolding grant
grant_granted [] masks n = tt
grant_granted (x ∷ xs) masks n =
    let m = still_named masks x n.0 xs n.1 in (
      within_trans (joined_granted masks x n.0) ((grant_above xs (joined masks x) m).each x.operand),
      grant_granted xs (joined masks x) m,
    )

pub grant_least : (F : ℕ → ℕ) (xs : List Ask) (masks : List ℕ) → Named (length masks) xs → Inside (mask_at masks) F → Granted xs F → Inside (mask_at (grant xs masks)) F
unfolding grant
grant_least F [] masks n i g = i
grant_least F (x ∷ xs) masks n i g =
    grant_least F xs (joined masks x) (still_named masks x n.0 xs n.1) (joined_least masks x n.0 F i g.0) g.1

-- what a record of a sound design asks names its records, and the family of all bits grants it
pub fit_named : (d : Design) (xs : List Ask) → Fit d xs → Named d.count xs
fit_named d [] f = tt
fit_named d (x ∷ xs) f = (f.0, fit_named d xs f.2)

abbrev pub all_bits : Design → ℕ → ℕ
all_bits d i = low_mask (d.at i).width

fit_granted : (d : Design) (xs : List Ask) → Fit d xs → Granted xs (all_bits d)
fit_granted d [] f = tt
fit_granted d (x ∷ xs) f = (f.1, fit_granted d xs f.2)

pub all_closed : (d : Design) → Sound d → (seed : ℕ → ℕ) → ((i : ℕ) → i < d.count → Within (seed i) (all_bits d i)) → Closed d seed (all_bits d)
all_closed d s seed h = record { seeded = h; granted = λ i k. fit_granted d (asked d.at i (all_bits d i)) (asked_fit d s i k (all_bits d i)) }
