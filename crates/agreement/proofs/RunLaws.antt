-- What a call does to a run: an accepted one is a step and moves the run on, and a refused one does nothing. And how many cycles a run has.
-- Assumes nothing.
use mathlib.Core.Path.{◌≡◌, refl, ap}
use mathlib.Core.List.{List, [], ◌∷◌}
use Prim.Native.Nat.{ℕ, suc}
use native.Mathlib.Omega.{arith}
use lib.ListN.{length, drop}
use Rattle.std.specs.Prelude.{Result, Ok, Err}
use Rattle.netlist.specs.declared.refusal.Refused.{Refused}
use Rattle.agreement.specs.Runs.{Machine, start, cycle, Step, started, cycled, Outcome, outcome, call_on, kinds_of, cycles_of}

module _ {L : Type 0} (machine : Machine L) (j : ℕ) (board : L) where
  -- a start, by its answer
  module _ {a : Result (Unit {0}) Refused} (e : (machine.start board).answer ≡ a) where
    start_comes_to : call_on machine j board start ≡ outcome a started (machine.start board).board board
    unfolding call_on
    start_comes_to = ap (λ (b : Result (Unit {0}) Refused). outcome b started (machine.start board).board board) e

  -- a cycle, by its answer
  module _ (words : ℕ → ℕ) (next : L) {a : Result (Unit {0}) Refused} (e : (machine.cycle j words board next).answer ≡ a) where
    cycle_comes_to : let call = machine.cycle j words board next in
        call_on machine j board (cycle words next) ≡ outcome a (cycled (record { words = words; values = call.board })) call.next board
    unfolding call_on
    cycle_comes_to =
        let call = machine.cycle j words board next in
        ap (λ (b : Result (Unit {0}) Refused). outcome b (cycled (record { words = words; values = call.board })) call.next board) e

  -- "A start gets the run's board list as the last call left it."
  pub start_moves : (machine.start board).answer ≡ Ok tt
      → call_on machine j board start ≡ record { steps = started ∷ []; board = (machine.start board).board }
  start_moves e = start_comes_to e

  -- "Once the cycle is accepted, that next list is the run's board list, and the old one holds the values of this cycle."
  pub cycle_moves : (words : ℕ → ℕ) (next : L) → let call = machine.cycle j words board next in
      call.answer ≡ Ok tt
      → call_on machine j board (cycle words next) ≡ record { steps = cycled (record { words = words; values = call.board }) ∷ []; board = call.next }
  cycle_moves words next e = cycle_comes_to words next e

  -- "A refused call is no cycle: the run keeps its board list, and the registers' words stay."
  abbrev stays : Outcome L
  stays = record { steps = []; board = board }

  pub start_stays : (r : Refused) → (machine.start board).answer ≡ Err r → call_on machine j board start ≡ stays
  start_stays r e = start_comes_to e

  pub cycle_stays : (words : ℕ → ℕ) (next : L) (r : Refused) → (machine.cycle j words board next).answer ≡ Err r
      → call_on machine j board (cycle words next) ≡ stays
  cycle_stays words next r e = cycle_comes_to words next e

-- two runs whose accepted calls are of the same kinds have equally many accepted cycles
pub as_many : {L L' : Type 0} (first : List (Step L)) (second : List (Step L')) → kinds_of first ≡ kinds_of second
    → length (cycles_of first) ≡ length (cycles_of second)
unfolding kinds_of cycles_of
as_many [] [] e = refl
as_many [] (step ∷ second) e = absurd (let q = ap length e in omega arith)
as_many (step ∷ first) [] e = absurd (let q = ap length e in omega arith)
as_many (started ∷ first) (started ∷ second) e = as_many first second (ap (drop 1) e)
as_many (started ∷ first) (cycled c ∷ second) e = cc
as_many (cycled c ∷ first) (started ∷ second) e = cc
as_many (cycled c ∷ first) (cycled c' ∷ second) e = ap suc (as_many first second (ap (drop 1) e))
