-- Runs of whatever starts and cycles: a list of calls, and what the accepted ones come to. A file is one such thing.
-- Assumes nothing.
use Rattle.std.specs.Prelude.{◌≡◌, Bool, true, false, List, [], ◌∷◌, ◌++◌, ℕ, suc, Result, Ok, Err}
use Rattle.std.proofs.Math.Option.{Option, some}
use Rattle.std.proofs.Math.ListN.{get_elem?}
use Rattle.netlist.specs.declared.refusal.Refused.{Refused}
use Rattle.netlist.specs.Layout.{design_of}
use Rattle.clock.specs.Call.{StartCall, CycleCall, start_call, cycle_with}
use Rattle.clock.specs.Values.{with_inputs}

-- What is run: what a start comes to, and what a cycle comes to. L is what they work on: a board list, or one for each of several files. A cycle
-- is given the number of the call, a word for every input, the board list and a next list.
pub record Machine (L : Type 0) : Type 0 where
  pub start : L → StartCall L
  pub cycle : ℕ → (ℕ → ℕ) → L → L → CycleCall L

-- "a list of calls, each a start or a cycle with a word for every input", "and a next list of any words and any length". The word for an
-- input is given by its record's number.
pub data Call (L : Type 0) : Type 0 where
  start : Call L
  cycle : (ℕ → ℕ) → L → Call L

-- An accepted cycle: the words put at the inputs, and the values, which the old board list holds afterwards.
pub record Cycle (L : Type 0) : Type 0 where
  pub words : ℕ → ℕ
  pub values : L

-- An accepted call.
pub data Step (L : Type 0) : Type 0 where
  started : Step L
  cycled : Cycle L → Step L

-- What a call comes to: the accepted call, or none, and the run's board list afterwards.
pub record Outcome (L : Type 0) : Type 0 where
  pub steps : List (Step L)
  pub board : L

-- "A refused call is no cycle: the run keeps its board list, and the registers' words stay."
abbrev pub outcome : {L : Type 0} → Result (Unit {0}) Refused → Step L → L → L → Outcome L
outcome (Ok done) step new old = record { steps = step ∷ []; board = new }
outcome (Err r) step new old = record { steps = []; board = old }

-- "A start gets the run's board list as the last call left it." "Once the cycle is accepted, that next list is the run's board list, and the
-- old one holds the values of this cycle." This is call j.
unfoldable pub call_on : {L : Type 0} → Machine L → ℕ → L → Call L → Outcome L
call_on machine j board start = let call = machine.start board in outcome call.answer started call.board board
call_on machine j board (cycle words next) =
    let call = machine.cycle j words board next in
    outcome call.answer (cycled (record { words = words; values = call.board })) call.next board

-- The accepted calls of a run, in their order; the calls given here are those from j on.
unfoldable pub run_from : {L : Type 0} → Machine L → ℕ → L → List (Call L) → List (Step L)
run_from machine j board [] = []
run_from machine j board (call ∷ calls) =
    let done = call_on machine j board call in
    done.steps ++ run_from machine (suc j) done.board calls

-- "A run has a file, a board list of n words, at first any words, and a list of calls".
abbrev pub run_of : {L : Type 0} → Machine L → L → List (Call L) → List (Step L)
run_of machine board calls = run_from machine 0 board calls

-- A file is run so. "A cycle gets it with its own words put at the inputs". `change j` tells what becomes of a value in call j right after it
-- is worked out.
abbrev pub of_file : (ℕ → ℕ → ℕ → ℕ) → List ℕ → Machine (List ℕ)
of_file change file =
    record {
      start = start_call file;
      cycle = λ j words board next. cycle_with (change j) file (with_inputs (design_of file) words board) next;
    }

-- The kinds of the accepted calls: whether each is a cycle.
abbrev pub is_cycle : {L : Type 0} → Step L → Bool
is_cycle started = false
is_cycle (cycled c) = true

unfoldable pub kinds_of : {L : Type 0} → List (Step L) → List Bool
kinds_of [] = []
kinds_of (step ∷ steps) = is_cycle step ∷ kinds_of steps

-- The accepted cycles, and the j-th of them, counted from 0, if there are so many.
unfoldable pub cycles_of : {L : Type 0} → List (Step L) → List (Cycle L)
cycles_of [] = []
cycles_of (started ∷ steps) = cycles_of steps
cycles_of (cycled c ∷ steps) = c ∷ cycles_of steps

abbrev pub cycle_at : {L : Type 0} → List (Step L) → ℕ → Option (Cycle L)
cycle_at steps j = get_elem? (cycles_of steps) j

-- "for every j", of "the j-th accepted cycles" of two runs.
abbrev pub EachCycle : {L L' : Type 0} → (Cycle L → Cycle L' → Type 0) → List (Step L) → List (Step L') → Type 0
EachCycle {L} {L'} Holds first second =
    (j : ℕ) (c : Cycle L) (c' : Cycle L') → cycle_at first j ≡ some c → cycle_at second j ≡ some c' → Holds c c'
