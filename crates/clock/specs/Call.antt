-- The operations `start` and `cycle`: their answers and each lent list afterwards, refused calls included.
-- Assumes nothing.
use Rattle.std.specs.Prelude.{Bool, cond, not, ◌&&◌, List, ℕ, ◌^◌, eqb, ltb, length, Result, Ok, Err, is_ok}
use Rattle.endian.specs.Lists.{word_at}
use Rattle.netlist.specs.declared.refusal.Refused.{Refused}
use Rattle.netlist.specs.Kinds.{is_held}
use Rattle.netlist.specs.Layout.{Design, design_of, role_at}
use Rattle.netlist.specs.Lowest.{lowest}
use Rattle.netlist.specs.Refusals.{leaves, refused}
use Rattle.netlist.specs.declared.record.Role.{Role}
use Rattle.netlist.specs.declared.refusal.Refusal.TheVariants.{BadList, WideWord}
use Rattle.rules.specs.Check.{check_of}
use Rattle.clock.specs.Values.{unchanged, values_of, next_of, start_of}

-- The refusals of the file, then 11: "A mask, board or next list has not n words." `fit` tells whether the lists have the length that n records ask for,
-- and `rest` is the answer if they have.
unfoldable pub answer_after : Result ℕ Refused → (ℕ → Bool) → Result (Unit {0}) Refused → Result (Unit {0}) Refused
answer_after (Ok n) fit rest = cond (fit n) rest (Err (refused BadList 0))
answer_after (Err r) fit rest = Err r

-- 12: "Before a cycle, an input's or register's word has a bit at its width or above (lowest record)."
abbrev pub word_is_wide : Role → ℕ → ℕ → Bool
word_is_wide role word w = is_held role && not (ltb word (2 ^ w))

abbrev pub is_wide : Design → List ℕ → ℕ → Bool
is_wide d board i = word_is_wide (role_at d i) (word_at board i) (d.at i).width

unfoldable pub words_answer : Design → List ℕ → Result (Unit {0}) Refused
words_answer d board = lowest (is_wide d board) (λ i. Err (refused WideWord i)) (Ok tt) d.count

-- The answer of a start, and the board that it leaves: a list of words, or one for each of several files.
pub record StartCall (L : Type 0) : Type 0 where
  pub answer : Result (Unit {0}) Refused
  pub board : L

abbrev pub start_answer : List ℕ → List ℕ → Result (Unit {0}) Refused
start_answer file board = answer_after (check_of file) (λ n. eqb (length board) n) (Ok tt)

unfoldable pub start_call : List ℕ → List ℕ → StartCall (List ℕ)
start_call file board =
    let answer = start_answer file board in
    record { answer = answer; board = leaves (is_ok answer) (start_of (design_of file)) board }

-- The answer of a cycle, and what it leaves in the place of the board and of the next states.
pub record CycleCall (L : Type 0) : Type 0 where
  pub answer : Result (Unit {0}) Refused
  pub board : L
  pub next : L

-- Whether lists of these lengths both have n places.
abbrev pub both_have : ℕ → ℕ → ℕ → Bool
both_have board next n = eqb board n && eqb next n

abbrev pub cycle_answer : List ℕ → List ℕ → List ℕ → Result (Unit {0}) Refused
cycle_answer file board next = answer_after (check_of file) (both_have (length board) (length next)) (words_answer (design_of file) board)

-- A cycle in which each value may be changed right after it is worked out, and the plain one.
unfoldable pub cycle_with : (ℕ → ℕ → ℕ) → List ℕ → List ℕ → List ℕ → CycleCall (List ℕ)
cycle_with change file board next =
    let answer = cycle_answer file board next in
    let values = values_of (design_of file) change board in
    record { answer = answer; board = leaves (is_ok answer) values board; next = leaves (is_ok answer) (next_of (design_of file) values) next }

abbrev pub cycle_call : List ℕ → List ℕ → List ℕ → CycleCall (List ℕ)
cycle_call = cycle_with unchanged
