-- A round joins all that the records ask: it grows, grants what was asked, and stays within every closed family.
-- Assumes nothing.
use mathlib.Core.Path.{◌≡◌, sym, subst, ◌∙◌}
use mathlib.Core.Logic.{◌⊎◌, inl, inr}
use mathlib.Core.List.{List}
use Prim.Native.Nat.{ℕ, zero, suc, ◌≤◌, ◌<◌}
use native.Mathlib.Nat.{eq-or-lt_of_le, not-suc-le-zero}
use native.Mathlib.Omega.{arith}
use lib.ListN.{length}
use Rattle.netlist.specs.Layout.{Design}
use Rattle.rules.specs.Sound.{Sound}
use Rattle.signal.specs.Asks.{Granted, asked}
use Rattle.signal.specs.AskLists.{Named}
use Rattle.signal.proofs.RuleLaws.{asked_fit, asked_grow}
use Rattle.care.specs.Least.{Closed, mask_at, round_to}
use Rattle.care.proofs.Families.{Inside, inside_refl, inside_trans, granted_more, length_grant, grant_above, grant_granted, grant_least, fit_named}

module _ (d : Design) (s : Sound d) where
  -- what record i asks names words of a list of n words
  pub asked_named : (list : List ℕ) → length list ≡ d.count → (i : ℕ) → i < d.count → (m : ℕ) → Named (length list) (asked d.at i m)
  asked_named list e i h m =
      subst (λ (n : ℕ). Named n (asked d.at i m)) (sym e) (fit_named d (asked d.at i m) (asked_fit d s i h m))

  -- a closed family above a list grants what a record asks under the list
  pub closed_grants : {seed F : ℕ → ℕ} → Closed d seed F → (masks : List ℕ) → Inside (mask_at masks) F → (i : ℕ) → i < d.count → Granted (asked d.at i (mask_at masks i)) F
  closed_grants {seed} {F} c masks in_F i h = asked_grow d s i h F (in_F.each i) (c.granted i h)

  -- a list with a mask for each record, and all that is asked under a family M joined to it
  module _ (M : ℕ → ℕ) (masks : List ℕ) (e : length masks ≡ d.count) where
    pub length_round : (i : ℕ) → i ≤ d.count → length (round_to d M masks i) ≡ d.count
    unfolding round_to
    length_round zero h = e
    length_round (suc i) h =
        let below = length_round i (omega arith) in
        length_grant (asked d.at i (M i)) (round_to d M masks i) (asked_named (round_to d M masks i) below i h (M i)) ∙ below

    named : (i : ℕ) → i < d.count → Named (length (round_to d M masks i)) (asked d.at i (M i))
    named i h = asked_named (round_to d M masks i) (length_round i (omega arith)) i h (M i)

    pub round_above : (i : ℕ) → i ≤ d.count → Inside (mask_at masks) (mask_at (round_to d M masks i))
    unfolding round_to
    round_above zero h = inside_refl (mask_at masks)
    round_above (suc i) h = inside_trans (round_above i (omega arith)) (grant_above (asked d.at i (M i)) (round_to d M masks i) (named i h))

    pub round_granted : (i : ℕ) → i ≤ d.count → (j : ℕ) → j < i → Granted (asked d.at j (M j)) (mask_at (round_to d M masks i))
    unfolding round_to
    round_granted zero h j k = absurd (not-suc-le-zero k)
    round_granted (suc i) h j k = go (round_granted i (omega arith) j) (eq-or-lt_of_le (let l : j ≤ i = omega arith in l))
      where
        go : (j < i → Granted (asked d.at j (M j)) (mask_at (round_to d M masks i))) → (j ≡ i) ⊎ (j < i)
            → Granted (asked d.at j (M j)) (mask_at (round_to d M masks (suc i)))
        go below (inl q) =
            subst (λ (j : ℕ). Granted (asked d.at j (M j)) (mask_at (round_to d M masks (suc i)))) (sym q)
            (grant_granted (asked d.at i (M i)) (round_to d M masks i) (named i h))
        go below (inr l) = granted_more (grant_above (asked d.at i (M i)) (round_to d M masks i) (named i h)) (asked d.at j (M j)) (below l)

    -- a family that lies above the list and grants all that is asked lies above them together
    module _ (F : ℕ → ℕ) (in_F : Inside (mask_at masks) F) (grants : (j : ℕ) → j < d.count → Granted (asked d.at j (M j)) F) where
      pub round_least : (i : ℕ) → i ≤ d.count → Inside (mask_at (round_to d M masks i)) F
      unfolding round_to
      round_least zero h = in_F
      round_least (suc i) h = grant_least F (asked d.at i (M i)) (round_to d M masks i) (named i h) (round_least i (omega arith)) (grants i h)
