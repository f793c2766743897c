-- The operation `change_over`: its answer and each lent list afterwards, refused calls included. The sentences are those of #108.
-- Assumes nothing.
use Rattle.std.specs.Prelude.{Bool, ◌&&◌, List, ℕ, eqb, length, Result, is_ok}
use Rattle.netlist.specs.declared.refusal.Refused.{Refused}
use Rattle.netlist.specs.Layout.{design_of}
use Rattle.netlist.specs.Refusals.{leaves}
use Rattle.rules.specs.Check.{check_of}
use Rattle.care.specs.Least.{masks_of}
use Rattle.clock.specs.Call.{answer_after, words_answer, both_have}
use Rattle.changeover.specs.Carried.{new_list}

-- What a call answers, and the mask list and new list that it leaves. The board list is only read.
pub record ChangeOverCall : Type 0 where
  pub answer : Result (Unit {0}) Refused
  pub list : List ℕ
  pub new : List ℕ

-- Whether lists of these lengths all have n places.
abbrev pub all_have : ℕ → ℕ → ℕ → ℕ → Bool
all_have list board new n = eqb list n && both_have board new n

-- "It refuses by 11 and 12 as a cycle does, with 11 for the mask list and the new list too." An accepted call says only that it was accepted (#105).
abbrev pub change_over_answer : List ℕ → List ℕ → List ℕ → List ℕ → Result (Unit {0}) Refused
change_over_answer file list board new =
    answer_after (check_of file) (all_have (length list) (length board) (length new)) (words_answer (design_of file) board)

-- "The call takes the old file, a mask list that it fills as trim does, its board list and a new list".
unfoldable pub change_over_call : List ℕ → List ℕ → List ℕ → List ℕ → ChangeOverCall
change_over_call file list board new =
    let answer = change_over_answer file list board new in
    let masks = masks_of (design_of file) in
    record { answer = answer; list = leaves (is_ok answer) masks list; new = leaves (is_ok answer) (new_list (design_of file) masks board) new }
