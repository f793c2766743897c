-- Lists of operands: what is so of each of them, and that each of them is in its list.
-- Assumes nothing.
use mathlib.Core.Path.{◌≡◌, refl, ap}
use mathlib.Core.Bool.{Bool, true, false, ◌||◌}
use mathlib.Core.List.{List, [], ◌∷◌}
use Prim.Native.Nat.{ℕ}
use lib.Dec.{eqb}
use borrow.Author.Tests.{eq-eqb}
use Rattle.netlist.specs.Kinds.{is_in}

-- P is so of each number in a list
abbrev pub Each : (ℕ → Type 0) → List ℕ → Type 0
Each P [] = Unit {0}
Each P (j ∷ js) = P j × Each P js

pub each_more : {P Q : ℕ → Type 0} → ((j : ℕ) → P j → Q j) → (js : List ℕ) → Each P js → Each Q js
each_more more [] e = tt
each_more more (j ∷ js) e = (more j e.0, each_more more js e.1)

pub each_both : (P Q : ℕ → Type 0) (js : List ℕ) → Each P js → Each Q js → Each (λ j. P j × Q j) js
each_both P Q [] e f = tt
each_both P Q (j ∷ js) e f = ((e.0, f.0), each_both P Q js e.1 f.1)

or_right : (b c : Bool) → c ≡ true → (b || c) ≡ true
or_right true c e = refl
or_right false c e = e

-- each number of a list is in it
pub each_in : (js : List ℕ) → Each (λ j. is_in j js ≡ true) js
each_in [] = tt
each_in (j ∷ js) =
    (ap (λ (b : Bool). b || is_in j js) (eq-eqb j j refl), each_more (λ i e. or_right (eqb j i) (is_in i js) e) js (each_in js))
