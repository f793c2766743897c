-- Which records are asked: a record whose own word does not count asks records below it, and a register asks its a for D.
-- Assumes nothing. The crates above use these laws and look at no kind.
use mathlib.Core.Path.{◌≡◌, ap}
use mathlib.Core.Bool.{false}
use mathlib.Core.List.{[], ◌∷◌}
use Prim.Native.Nat.{ℕ, ◌<◌}
use Rattle.netlist.specs.Kinds.{uses_of, operands_of, is_held}
use Rattle.netlist.specs.Layout.{Design, role_at}
use Rattle.netlist.specs.declared.record.Kind.{Kind}
use Rattle.netlist.specs.declared.record.Kind.TheVariants.{Input, Constant, Register, Output, Extract, Concat, And, Or, Xor, Mux, Add, Sub, Mul, Equal, Below, LeftShift, RightShift, ArithmeticRightShift, SignedBelow}
use Rattle.netlist.specs.declared.record.Record.{Record}
use Rattle.netlist.specs.declared.record.Role.TheVariants.{Register as register}
use Rattle.netlist.proofs.KindLaws.{register_kind}
use Rattle.netlist.proofs.OperandLists.{Each, each_more}
use Rattle.rules.specs.Sound.{Sound}
use Rattle.rules.proofs.SoundLaws.{names_each}
use Rattle.signal.specs.Asks.{ask, asks_of, demand_of, asked}
use Rattle.signal.specs.AskLists.{AskedOf, Named}
use Rattle.signal.proofs.ResultLaws.{names_below}

-- what is asked is asked of the operands that the kind uses
module _ (P : ℕ → Type 0) (at : ℕ → Record) (D : ℕ) where
  asks_each : (kind : Kind) → Each P (operands_of (uses_of kind)) → AskedOf P (asks_of at kind D)
  unfolding operands_of
  asks_each Input e = e
  asks_each (Constant k) e = e
  asks_each (Register a k) e = e
  asks_each (Output a) e = e
  asks_each (Extract a k) e = e
  asks_each (Concat a b) e = e
  asks_each (And a b) e = e
  asks_each (Or a b) e = e
  asks_each (Xor a b) e = e
  asks_each (Mux a b c) e = e
  asks_each (Add a b) e = e
  asks_each (Sub a b) e = e
  asks_each (Mul a b) e = e
  asks_each (Equal a b) e = e
  asks_each (Below a b) e = e
  asks_each (LeftShift a k) e = e
  asks_each (RightShift a k) e = e
  asks_each (ArithmeticRightShift a k) e = e
  asks_each (SignedBelow a b) e = e

pub asked_each : (P : ℕ → Type 0) (at : ℕ → Record) (i m : ℕ) → Each P (operands_of (uses_of (at i).kind)) → AskedOf P (asked at i m)
unfolding asked
asked_each P at i m e = asks_each P at (demand_of (at i) m) (at i).kind e

pub asked_below : (d : Design) → Sound d → (i : ℕ) → i < d.count → is_held (role_at d i) ≡ false → (m : ℕ) → Named i (asked d.at i m)
asked_below d s i h e m =
    asked_each (λ j. j < i) d.at i m (each_more (λ j n. n.0) (operands_of (uses_of (d.at i).kind)) (names_each d i _ (names_below d s i h e)))

-- "a register's a has D"
pub register_asks : (d : Design) (i a k m : ℕ) → role_at d i ≡ register a k → asked d.at i m ≡ ask a (demand_of (d.at i) m) ∷ []
unfolding asked
register_asks d i a k m e = ap (λ (kind : Kind). asks_of d.at kind (demand_of (d.at i) m)) (register_kind (d.at i).kind a k e)
