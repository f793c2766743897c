-- Laws of a call of change_over: what it comes to by its answer, and when its lists fit.
-- Assumes nothing.
use mathlib.Core.Path.{◌≡◌, sym, ap, ◌∙◌}
use mathlib.Core.Bool.{Bool, true, false, ◌&&◌}
use mathlib.Core.List.{List}
use mathlib.Core.Logic.{◌≢◌}
use Prim.Native.Nat.{ℕ}
use lib.Dec.{eqb}
use borrow.Author.Tests.{eq-eqb, ne_eqb, eqb-true}
use Rattle.std.specs.Prelude.{Result, is_ok}
use Rattle.netlist.specs.declared.refusal.Refused.{Refused}
use Rattle.netlist.specs.Layout.{design_of}
use Rattle.netlist.specs.Refusals.{leaves}
use Rattle.netlist.proofs.Tests.{and_first, and_second}
use Rattle.care.specs.Least.{masks_of}
use Rattle.clock.specs.Call.{both_have}
use Rattle.clock.proofs.CallLaws.{fit_both, both_fit}
use Rattle.changeover.specs.Call.{all_have, change_over_answer, change_over_call}
use Rattle.changeover.specs.Carried.{new_list}

-- three lists with a word for each of n records
pub all_fit : (list board new n : ℕ) → all_have list board new n ≡ true → (list ≡ n) × ((board ≡ n) × (new ≡ n))
all_fit list board new n e = (eqb-true list n (and_first _ _ e), both_fit board new n (and_second (eqb list n) _ e))

pub fit_all : (list board new n : ℕ) → list ≡ n → board ≡ n → new ≡ n → all_have list board new n ≡ true
fit_all list board new n e g h = rw (eq-eqb list n e, fit_both board new n g h)

-- the mask list has not, or the others have not
pub list_unfit : (list board new n : ℕ) → list ≢ n → all_have list board new n ≡ false
list_unfit list board new n h = ap (λ (b : Bool). b && both_have board new n) (ne_eqb list n h)

pub others_unfit : (list board new n : ℕ) → list ≡ n → both_have board new n ≡ false → all_have list board new n ≡ false
others_unfit list board new n e h = ap (λ (b : Bool). b && both_have board new n) (eq-eqb list n e) ∙ h

-- the answer of a call and what it leaves, by its answer
pub change_ends : (file list board new : List ℕ) {a : Result (Unit {0}) Refused} → change_over_answer file list board new ≡ a
    → (a ≡ (change_over_call file list board new).answer)
    × ((leaves (is_ok a) (masks_of (design_of file)) list ≡ (change_over_call file list board new).list)
    × (leaves (is_ok a) (new_list (design_of file) (masks_of (design_of file)) board) new ≡ (change_over_call file list board new).new))
unfolding change_over_call
change_ends file list board new e = (
  sym e,
  (
    ap (λ (c : Result (Unit {0}) Refused). leaves (is_ok c) (masks_of (design_of file)) list) (sym e),
    ap (λ (c : Result (Unit {0}) Refused). leaves (is_ok c) (new_list (design_of file) (masks_of (design_of file)) board) new) (sym e),
  ),
)
