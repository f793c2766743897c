-- Lists of asks: which records they name. No rule is stated here, and no promise of an operation mentions it.
-- Assumes nothing.
use Rattle.std.specs.Prelude.{List, [], ◌∷◌, ℕ, ◌<◌}
use Rattle.signal.specs.declared.Ask.{Ask}

-- P is so of each record that is asked.
abbrev pub AskedOf : (ℕ → Type 0) → List Ask → Type 0
AskedOf P [] = Unit {0}
AskedOf P (x ∷ xs) = P x.operand × AskedOf P xs

-- Each ask names one of the first n records.
abbrev pub Named : ℕ → List Ask → Type 0
Named n xs = AskedOf (λ j. j < n) xs
