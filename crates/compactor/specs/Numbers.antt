-- The words that tell which records survive and what their new numbers are. No public promise mentions it.
-- Assumes nothing.
use Rattle.std.specs.Prelude.{◌≡◌, Bool, cond, List, [], ◌∷◌, ℕ, ◌+◌, ◌*◌, ◌<◌, length}
use Rattle.endian.specs.Lists.{word_at, words_of}
use Rattle.netlist.specs.Kinds.{uses_of, operands_of, is_in}
use Rattle.netlist.specs.Layout.{Design}
use Rattle.netlist.specs.Picked.{rank_of}
use Rattle.compact.specs.Survivors.{is_blank, survives}

-- 1 where a test picks, and 0 where it does not.
abbrev pub flag_of : Bool → ℕ
flag_of b = cond b 1 0

-- The word of record i: twice how many records below it a test picks, and one more where it picks i too.
abbrev pub rank_word : (ℕ → Bool) → ℕ → ℕ
rank_word test i = 2 * rank_of test i + flag_of (test i)

-- The flags of the survivors, and their numbers.
unfoldable pub flags_of : Design → List ℕ → List ℕ
flags_of d masks = words_of (λ i. flag_of (survives d masks i)) d.count

unfoldable pub numbers_of : Design → List ℕ → List ℕ
numbers_of d masks = words_of (rank_word (survives d masks)) d.count

-- The records that survive for the sake of record i: itself and those that it names, unless it is blank.
unfoldable pub kept_by : Design → List ℕ → ℕ → List ℕ
kept_by d masks i = cond (is_blank d masks i) [] (i ∷ operands_of (uses_of (d.at i).kind))

-- A list after 1 was put at each of some numbers.
pub record Marks (before after js : List ℕ) : Type 0 where
  pub size : length after ≡ length before
  pub each : (j : ℕ) → j < length before → word_at after j ≡ cond (is_in j js) 1 (word_at before j)
