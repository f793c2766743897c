-- The accepted calls of a run as a chain: each goes on from the board that the one before it left, and refused calls leave no trace.
-- Assumes nothing.
use mathlib.Core.Path.{◌≡◌, refl}
use mathlib.Core.List.{List, [], ◌∷◌, ◌++◌}
use Prim.Native.Nat.{ℕ, suc}
use Rattle.std.specs.Prelude.{Result, Ok, Err}
use Rattle.netlist.specs.declared.refusal.Refused.{Refused}
use Rattle.agreement.specs.Runs.{Machine, Call, start, cycle, Cycle, Step, started, cycled, Outcome, call_on, run_from}
use Rattle.agreement.proofs.RunLaws.{start_moves, cycle_moves, start_stays, cycle_stays}

-- a cycle was accepted on this board, as some call and with some next list
pub record CycledFrom {L : Type 0} (machine : Machine L) (board : L) (c : Cycle L) : Type 0 where
  pub call : ℕ
  pub next : L
  pub accepted : (machine.cycle call c.words board next).answer ≡ Ok tt
  pub values : c.values ≡ (machine.cycle call c.words board next).board

module _ {L : Type 0} (machine : Machine L) where
  abbrev pub Chain : L → List (Step L) → Type 0
  Chain board [] = Unit {0}
  Chain board (started ∷ steps) = ((machine.start board).answer ≡ Ok tt) × Chain (machine.start board).board steps
  Chain board (cycled c ∷ steps) =
      (s : CycledFrom machine board c) × Chain (machine.cycle s.call c.words board s.next).next steps

  -- an accepted call is the next link, and after a refused one the run is where it was
  module _ (j : ℕ) (board : L) (calls : List (Call L)) (rest : (b : L) → Chain b (run_from machine (suc j) b calls)) where
    abbrev On : Outcome L → Type 0
    On done = Chain board (done.steps ++ run_from machine (suc j) done.board calls)

    start_link : (a : Result (Unit {0}) Refused) → (machine.start board).answer ≡ a → On (call_on machine j board start)
    start_link (Ok done) e = rw (start_moves machine j board e) (e, rest (machine.start board).board)
    start_link (Err r) e = rw (start_stays machine j board r e) (rest board)

    cycle_link : (words : ℕ → ℕ) (next : L) (a : Result (Unit {0}) Refused) → (machine.cycle j words board next).answer ≡ a → On (call_on machine j board (cycle words next))
    cycle_link words next (Ok tt) e =
        rw (cycle_moves machine j board words next e)
        (record { call = j; next = next; accepted = e; values = refl }, rest (machine.cycle j words board next).next)
    cycle_link words next (Err r) e = rw (cycle_stays machine j board words next r e) (rest board)

  pub chain_of : (j : ℕ) (board : L) (calls : List (Call L)) → Chain board (run_from machine j board calls)
  unfolding run_from
  chain_of j board [] = tt
  chain_of j board (start ∷ calls) = start_link j board calls (λ b. chain_of (suc j) b calls) (machine.start board).answer refl
  chain_of j board (cycle words next ∷ calls) =
      cycle_link j board calls (λ b. chain_of (suc j) b calls) words next (machine.cycle j words board next).answer refl
