-- Rules that a file keeps or breaks: what each says, and the test that tells.
-- Assumes nothing.
use Rattle.std.specs.Prelude.{◌≡◌, Bool, true, false, not, ◌&&◌, List, [], ◌∷◌, ℕ, ◌≤◌, ◌<◌, eqb, leb, ltb}

-- A rule about two numbers, or that something is not so.
pub data Rule : Type 0 where
  equal : ℕ → ℕ → Rule
  below : ℕ → ℕ → Rule
  at_most : ℕ → ℕ → Rule
  is_not : Bool → Rule

-- What a rule says, and what a list of rules says.
abbrev pub Holds : Rule → Type 0
Holds (equal x y) = x ≡ y
Holds (below x y) = x < y
Holds (at_most x y) = x ≤ y
Holds (is_not b) = b ≡ false

abbrev pub AllHold : List Rule → Type 0
AllHold [] = Unit {0}
AllHold (r ∷ rs) = Holds r × AllHold rs

-- The same as a test.
abbrev pub test : Rule → Bool
test (equal x y) = eqb x y
test (below x y) = ltb x y
test (at_most x y) = leb x y
test (is_not b) = not b

abbrev pub test_all : List Rule → Bool
test_all [] = true
test_all (r ∷ rs) = test r && test_all rs
