-- The lowest record at fault, and the lowest so far with one more thing looked at. No public promise mentions it.
-- Assumes nothing.
use Rattle.std.specs.Prelude.{Bool, cond, List, [], ◌∷◌, ℕ, min}
use Rattle.bits.specs.Masks.{exceeds}
use Rattle.bits.specs.Words.{low_mask}
use Rattle.netlist.specs.Layout.{Design}
use Rattle.netlist.specs.Lowest.{lowest}
use Rattle.signal.specs.Asks.{ask, asked}
use Rattle.signal.specs.declared.Ask.{Ask}
use Rattle.care.specs.Called.{is_faulty}
use Rattle.care.specs.Least.{mask_at, output_seed}

-- The lowest record at fault, or the count of records where none is.
abbrev pub lowest_fault : Design → List ℕ → ℕ
lowest_fault d masks = lowest (is_faulty d (output_seed d) masks) (λ i. i) d.count d.count

-- What the search does: `low`, or `at` where that is at fault and lower.
abbrev pub lower_if : Bool → ℕ → ℕ → ℕ
lower_if fault at low = cond fault (min at low) low

-- An ask: its operand is at fault where its mask lacks a bit that is asked for.
abbrev pub ask_fault : List ℕ → ℕ → Ask → ℕ
ask_fault masks low x = lower_if (exceeds x.mask (mask_at masks x.operand)) x.operand low

unfoldable pub asks_fault : List ℕ → ℕ → List Ask → ℕ
asks_fault masks low [] = low
asks_fault masks low (x ∷ xs) = asks_fault masks (ask_fault masks low x) xs

-- Record i itself: it is at fault where its mask leaves its width, or lacks a bit of its seed.
abbrev pub own_fault : Design → List ℕ → ℕ → ℕ → ℕ
own_fault d masks i low =
    ask_fault masks (lower_if (exceeds (mask_at masks i) (low_mask (d.at i).width)) i low) (ask i (output_seed d i))

-- Record i itself, and all that it asks.
unfoldable pub record_fault : Design → List ℕ → ℕ → ℕ → ℕ
record_fault d masks i low = asks_fault masks (own_fault d masks i low) (asked d.at i (mask_at masks i))
