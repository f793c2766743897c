-- With D 0 no kind asks for a bit: whatever masks the operands have, all that is asked is granted.
-- Assumes nothing. The crates above use this law and look at no kind.
use mathlib.Core.Path.{◌≡◌, refl, sym, ap, subst}
use Prim.Native.Nat.{ℕ, ◌%◌, ◌^◌}
use native.Mathlib.Nat.{zero-mul, zero-div, zero-mod}
use native.Mathlib.Omega.{arith}
use Rattle.bits.specs.Masks.{Within}
use Rattle.bits.specs.Words.{low_mask}
use Rattle.bits.proofs.Order.{within_trans, within_zero}
use Rattle.bits.proofs.Shifts.{length_zero}
use Rattle.netlist.specs.declared.record.Kind.{Kind}
use Rattle.netlist.specs.declared.record.Kind.TheVariants.{Input, Constant, Register, Output, Extract, Concat, And, Or, Xor, Mux, Add, Sub, Mul, Equal, Below, LeftShift, RightShift, ArithmeticRightShift, SignedBelow}
use Rattle.netlist.specs.declared.record.Record.{Record}
use Rattle.signal.specs.Asks.{up_to_highest, beside, asks_of, demand_of, asked, Granted}
use Rattle.signal.proofs.ConstantLaws.{Cutting, cutting_and, cutting_or, beside_less}
use Rattle.signal.proofs.ShiftLaws.{up_none, arithmetic_none}

low_none : (n : ℕ) → n ≡ 0 → low_mask n ≡ 0
low_none n = ap low_mask

highest_none : up_to_highest 0 ≡ 0
highest_none = low_none _ (let z = length_zero in omega arith)

none : {m n : ℕ} → m ≡ 0 → Within m n
none {n = n} e = subst (λ (m : ℕ). Within m n) (sym e) (within_zero n)

beside_none : {op cut_by : ℕ → ℕ → ℕ} → Cutting op cut_by → (x y : Record) {n : ℕ} → Within (beside cut_by x y 0) n
beside_none c x y {n} = within_trans (beside_less c x y 0) (within_zero n)

module _ (at : ℕ → Record) (M : ℕ → ℕ) where
  asks_none : (kind : Kind) → Granted (asks_of at kind 0) M
  asks_none Input = tt
  asks_none (Constant k) = tt
  asks_none (Register a k) = (none refl, tt)
  asks_none (Output a) = (none refl, tt)
  asks_none (Extract a k) = (none (ap (λ (m : ℕ). m % 2 ^ 64) (zero-mul _)), tt)
  asks_none (Concat a b) = (none (zero-div _), (none (zero-mod _), tt))
  asks_none (And a b) = (beside_none cutting_and _ _, (beside_none cutting_and _ _, tt))
  asks_none (Or a b) = (beside_none cutting_or _ _, (beside_none cutting_or _ _, tt))
  asks_none (Xor a b) = (none refl, (none refl, tt))
  asks_none (Mux a b c) = (none refl, (none refl, (none refl, tt)))
  asks_none (Add a b) = (none highest_none, (none highest_none, tt))
  asks_none (Sub a b) = (none highest_none, (none highest_none, tt))
  asks_none (Mul a b) = (none highest_none, (none highest_none, tt))
  asks_none (Equal a b) = (none refl, (none refl, tt))
  asks_none (Below a b) = (none refl, (none refl, tt))
  asks_none (LeftShift a k) = (none (zero-div _), tt)
  asks_none (RightShift a k) = (none (up_none (at a).width k), tt)
  asks_none (ArithmeticRightShift a k) = (none (arithmetic_none (at a).width k), tt)
  asks_none (SignedBelow a b) = (none refl, (none refl, tt))

  -- the law for a record whose D is 0
  pub asked_none : (i m : ℕ) → demand_of (at i) m ≡ 0 → Granted (asked at i m) M
  unfolding asked
  asked_none i m e = subst (λ (D : ℕ). Granted (asks_of at (at i).kind D) M) (sym e) (asks_none (at i).kind)
