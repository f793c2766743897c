-- The lowest record that a test picks.
-- Assumes nothing.
use Rattle.std.specs.Prelude.{Bool, cond, ℕ, zero, suc}

-- What `found` makes of the lowest number that a test picks, of the `left` numbers from i on, and `none` where it picks none.
unfoldable pub lowest_from : {A : Type 0} → (ℕ → Bool) → (ℕ → A) → A → ℕ → ℕ → A
lowest_from test found none zero i = none
lowest_from test found none (suc left) i = cond (test i) (found i) (lowest_from test found none left (suc i))

-- "(lowest record)": the same of the numbers below n.
abbrev pub lowest : {A : Type 0} → (ℕ → Bool) → (ℕ → A) → A → ℕ → A
lowest test found none n = lowest_from test found none n 0
