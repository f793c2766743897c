-- What the functions below `raise` promise to each other. No public promise mentions it. No type says `Ready`, which is about a list that is lent.
-- Assumes nothing.
use Rattle.std.specs.Prelude.{◌≡◌, ◌≢◌, ◌⊎◌, List, ℕ, ◌≤◌, ◌<◌, length}
use Rattle.bits.specs.Masks.{Within}
use Rattle.netlist.specs.Layout.{Design, design_of, count_of}
use Rattle.rules.specs.Sound.{Acceptance}
use Rattle.signal.specs.Asks.{asked, Granted}
use Rattle.signal.specs.declared.Ask.{Ask}
use Rattle.care.specs.Least.{Closed, Fits, mask_at, grant, ones_sum}
use Rattle.sweep.specs.Marks.{mark_at}

-- One list lies above another, and below every closed family above that.
pub record Between (d : Design) (low masks : List ℕ) : Type 0 where
  pub size : length masks ≡ length low
  pub above : (i : ℕ) → Within (mask_at low i) (mask_at masks i)
  pub below : (F : ℕ → ℕ) → Closed d (mask_at low) F → (i : ℕ) → Within (mask_at masks i) (F i)

-- All that record i asks under a list of masks is granted.
abbrev pub Settled : Design → List ℕ → ℕ → Type 0
Settled d masks i = Granted (asked d.at i (mask_at masks i)) (mask_at masks)

-- Record i is marked, or it is settled; and so is each record.
abbrev pub Covered : Design → List ℕ → List ℕ → ℕ → Type 0
Covered d masks marks i = (mark_at marks i ≡ 1) ⊎ Settled d masks i

abbrev pub AllCovered : Design → List ℕ → List ℕ → Type 0
AllCovered d masks marks = (j : ℕ) → j < d.count → Covered d masks marks j

-- A visit that goes down to record `low` and stands at record i does not come to record j any more.
abbrev pub Passed : ℕ → ℕ → ℕ → Type 0
Passed low i j = (j < low) ⊎ (i ≤ j)

-- What such a visit does with marks where masks grow: a record whose mask stays keeps its mark, and one that gains a bit after the visit has
-- passed it is marked.
pub record Noted (low i : ℕ) (before after marks noted : List ℕ) : Type 0 where
  pub kept : (j : ℕ) → mask_at after j ≡ mask_at before j → mark_at noted j ≡ mark_at marks j
  pub gained : (j : ℕ) → Passed low i j → mask_at after j ≢ mask_at before j → mark_at noted j ≡ 1

-- What it does when asks are joined to masks: the asks are granted, and marks are noted.
pub record Joins (low i : ℕ) (xs : List Ask) (before after marks noted : List ℕ) : Type 0 where
  pub granted : after ≡ grant xs before
  pub notes : Noted low i before after marks noted

-- The file is accepted, and a list has a mask within the width of each record.
pub record Ready (file masks : List ℕ) : Type 0 where
  pub accepted : Acceptance file (count_of file)
  pub fits : Fits (design_of file) masks

-- What a visit that began at record `high` - 1 and goes down to `low` has done when it stands at i: each record that it has visited is marked or
-- settled, and so is each that was before, but for those that it still comes to. A new mark means that a bit was added.
pub record Visited (d : Design) (low i high : ℕ) (before after marks noted : List ℕ) : Type 0 where
  pub between : Between d before after
  pub covered : (j : ℕ) → j < d.count → Passed low i j → ((i ≤ j) × (j < high)) ⊎ Covered d before marks j → Covered d after noted j
  pub added : (j : ℕ) → j < d.count → mark_at noted j ≡ 1 → (mark_at marks j ≡ 1) ⊎ (ones_sum d before < ones_sum d after)

-- What a sweep down to record i does: each record is marked or settled, and a mark that is left at i or above means that a bit was added.
pub record Swept (d : Design) (i : ℕ) (before after marks : List ℕ) : Type 0 where
  pub between : Between d before after
  pub covered : AllCovered d after marks
  pub added : (j : ℕ) → j < d.count → i ≤ j → mark_at marks j ≡ 1 → ones_sum d before < ones_sum d after
