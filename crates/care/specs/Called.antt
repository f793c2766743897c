-- What is called for at each record under a list of masks, and which records' masks break a width or a rule.
-- Assumes nothing.
use Rattle.std.specs.Prelude.{Bool, ◌||◌, List, ℕ}
use Rattle.endian.specs.Lists.{word_at, words_of}
use Rattle.bits.specs.Masks.{exceeds}
use Rattle.bits.specs.Words.{low_mask}
use Rattle.netlist.specs.Layout.{Design}
use Rattle.care.specs.Least.{mask_at, round_to}

-- #105: what is called for at each record: its seed, joined with all that the records ask of it. Each asks with its own mask in the list, so D is
-- the list's.
unfoldable pub called_for : Design → (ℕ → ℕ) → List ℕ → List ℕ
called_for d seed masks = round_to d (mask_at masks) (words_of seed d.count) d.count

-- A "record whose mask lacks a called-for bit or has one outside its width".
unfoldable pub is_faulty : Design → (ℕ → ℕ) → List ℕ → ℕ → Bool
is_faulty d seed masks i =
    exceeds (word_at (called_for d seed masks) i) (mask_at masks i) || exceeds (mask_at masks i) (low_mask (d.at i).width)
