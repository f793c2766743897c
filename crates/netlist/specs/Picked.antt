-- The numbers that a test picks, in rising order: what a rule makes of each, the rank of a number among them, and the number with a rank.
-- Assumes nothing.
use Rattle.std.specs.Prelude.{Bool, cond, List, [], ◌∷◌, ◌++◌, ℕ, zero, suc, length}
use Rattle.endian.specs.Lists.{word_at}

-- "in record order": what f makes of each number below n that a test picks.
unfoldable pub picked : (ℕ → Bool) → (ℕ → ℕ) → ℕ → List ℕ
picked test f zero = []
picked test f (suc n) = picked test f n ++ cond (test n) (f n ∷ []) []

-- How many numbers below i a test picks. Where it picks i too, this is the rank of i among those that it picks, counted from 0.
abbrev pub rank_of : (ℕ → Bool) → ℕ → ℕ
rank_of test i = length (picked test (λ j. j) i)

-- The number with rank r, of those below n.
abbrev pub place_of : (ℕ → Bool) → ℕ → ℕ → ℕ
place_of test n r = word_at (picked test (λ j. j) n) r
