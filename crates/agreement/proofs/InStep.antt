-- Two runs of anything that starts and cycles: where they are tied between calls, or begin with a start, all their accepted cycles are close.
-- Assumes nothing of what tied, alike and close mean.
use mathlib.Core.Path.{◌≡◌, refl, sym, ap}
use mathlib.Core.Bool.{Bool, false}
use mathlib.Core.List.{List, [], ◌∷◌}
use mathlib.Core.Option.{some-injective}
use Prim.Native.Nat.{ℕ, zero, suc}
use native.Mathlib.Omega.{arith}
use lib.ListN.{length, drop}
use Rattle.std.specs.Prelude.{Ok}
use Rattle.agreement.specs.Runs.{Machine, Call, Cycle, Step, started, cycled, run_of, kinds_of, cycles_of, EachCycle}
use Rattle.agreement.proofs.Chains.{CycledFrom, Chain, chain_of}

-- two accepted starts leave boards that are tied; two accepted cycles from tied boards, with words that are alike, give values that are close and
-- leave boards that are tied
pub record InStep {L L' : Type 0} (machine : Machine L) (machine' : Machine L') (Tied : L → L' → Type 0) (Alike : (ℕ → ℕ) → (ℕ → ℕ) → Type 0)
    (Close : L → L' → Type 0) : Type 0 where
  pub starts : (board : L) (board' : L') → (machine.start board).answer ≡ Ok tt → (machine'.start board').answer ≡ Ok tt
      → Tied (machine.start board).board (machine'.start board').board
  pub cycles : (j j' : ℕ) (words words' : ℕ → ℕ) (board next : L) (board' next' : L')
      → let call = machine.cycle j words board next in
      let call' = machine'.cycle j' words' board' next' in
      call.answer ≡ Ok tt → call'.answer ≡ Ok tt → Tied board board' → Alike words words'
      → Close call.board call'.board × Tied call.next call'.next

module _ {L L' : Type 0} {machine : Machine L} {machine' : Machine L'} {Tied : L → L' → Type 0} {Alike : (ℕ → ℕ) → (ℕ → ℕ) → Type 0}
    {Close : L → L' → Type 0} (s : InStep machine machine' Tied Alike Close) where
  abbrev AlikeCycles : List (Step L) → List (Step L') → Type 0
  AlikeCycles first second = EachCycle (λ c c'. Alike c.words c'.words) first second

  abbrev CloseCycles : List (Step L) → List (Step L') → Type 0
  CloseCycles first second = EachCycle (λ c c'. Close c.values c'.values) first second

  -- two links that are cycles
  cycles_on : {board : L} {board' : L'} {c : Cycle L} {c' : Cycle L'} (x : CycledFrom machine board c) (y : CycledFrom machine' board' c')
      → Tied board board' → Alike c.words c'.words
      → Close c.values c'.values
      × Tied (machine.cycle x.call c.words board x.next).next (machine'.cycle y.call c'.words board' y.next).next
  cycles_on {board} {board'} {c} {c'} x y tied alike =
      let both = s.cycles x.call y.call c.words c'.words board x.next board' y.next x.accepted y.accepted tied alike in
      (rw (x.values, y.values) both.0, both.1)

  -- the cycles of this link, or of a later one
  or_later : (c : Cycle L) (c' : Cycle L') (first : List (Step L)) (second : List (Step L')) → Close c.values c'.values
      → CloseCycles first second → CloseCycles (cycled c ∷ first) (cycled c' ∷ second)
  unfolding cycles_of
  or_later c c' first second here later zero d d' e e' =
      rw (sym (some-injective c d e), sym (some-injective c' d' e')) here
  or_later c c' first second here later (suc j) d d' e e' = later j d d' e e'

  -- the two chains, link by link
  pub chains_close : (first : List (Step L)) (second : List (Step L')) (board : L) (board' : L') → Chain machine board first → Chain machine' board' second
      → kinds_of first ≡ kinds_of second → Tied board board' → AlikeCycles first second → CloseCycles first second
  unfolding kinds_of cycles_of
  chains_close [] second board board' x y kinds tied alike = λ j c c' e e'. cc
  chains_close (step ∷ first) [] board board' x y kinds tied alike = absurd (let q = ap length kinds in omega arith)
  chains_close (started ∷ first) (cycled c ∷ second) board board' x y kinds tied alike = cc
  chains_close (cycled c ∷ first) (started ∷ second) board board' x y kinds tied alike = cc
  chains_close (started ∷ first) (started ∷ second) board board' x y kinds tied alike =
      chains_close first second (machine.start board).board (machine'.start board').board x.1 y.1 (ap (drop 1) kinds)
      (s.starts board board' x.0 y.0) alike
  chains_close (cycled c ∷ first) (cycled c' ∷ second) board board' x y kinds tied alike =
      let both = cycles_on x.0 y.0 tied (alike 0 c c' refl refl) in
      or_later c c' first second both.0
      (chains_close first second _ _ x.1 y.1 (ap (drop 1) kinds) both.1 (λ j d d' e e'. alike (suc j) d d' e e'))

  -- and so the two runs
  pub runs_close : (board : L) (board' : L') (calls : List (Call L)) (calls' : List (Call L')) → Tied board board'
      → let first = run_of machine board calls in
      let second = run_of machine' board' calls' in
      kinds_of first ≡ kinds_of second → AlikeCycles first second → CloseCycles first second
  runs_close board board' calls calls' tied kinds alike =
      chains_close _ _ board board' (chain_of machine 0 board calls) (chain_of machine' 0 board' calls') kinds tied alike

  -- two chains that begin with a start are tied from then on, whatever boards they begin with
  from_start : (first : List (Step L)) (second : List (Step L')) (later : List Bool) (board : L) (board' : L') → Chain machine board first
      → Chain machine' board' second → kinds_of first ≡ false ∷ later → kinds_of first ≡ kinds_of second → AlikeCycles first second → CloseCycles first second
  unfolding kinds_of cycles_of
  from_start [] second later board board' x y begins kinds alike = absurd (let q = ap length begins in omega arith)
  from_start (cycled c ∷ first) second later board board' x y begins kinds alike = cc
  from_start (started ∷ first) [] later board board' x y begins kinds alike = absurd (let q = ap length kinds in omega arith)
  from_start (started ∷ first) (cycled c ∷ second) later board board' x y begins kinds alike = cc
  from_start (started ∷ first) (started ∷ second) later board board' x y begins kinds alike =
      chains_close first second _ _ x.1 y.1 (ap (drop 1) kinds) (s.starts board board' x.0 y.0) alike

  pub runs_from_start : (board : L) (board' : L') (calls : List (Call L)) (calls' : List (Call L')) (later : List Bool)
      → let first = run_of machine board calls in
      let second = run_of machine' board' calls' in
      kinds_of first ≡ false ∷ later → kinds_of first ≡ kinds_of second → AlikeCycles first second → CloseCycles first second
  runs_from_start board board' calls calls' later begins kinds alike =
      from_start _ _ later board board' (chain_of machine 0 board calls) (chain_of machine' 0 board' calls') begins kinds alike
