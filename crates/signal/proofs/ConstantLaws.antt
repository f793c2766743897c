-- Masking with a constant: v is the value of a constant, and what an operand is asked beside another grows with D, stays within it and is
-- enough. Assumes nothing.
use mathlib.Core.Path.{◌≡◌, refl, sym, ap, subst, subst₂}
use mathlib.Core.Bool.{Bool, true, false, cond}
use mathlib.Core.Logic.{◌⊎◌, inl, inr}
use Prim.Native.Nat.{ℕ}
use native.Mathlib.Omega.{arith}
use lib.Bits.{bit_and, bit_or, and_comm, or_comm}
use Rattle.bits.specs.Masks.{bit, Within, without, Agree}
use Rattle.bits.proofs.Agreement.{agree_by_bits, agree_bit, agree_and, agree_or}
use Rattle.bits.proofs.Digits.{bit_lt, bit_cases, bit_of_and, bit_of_or, bit_without}
use Rattle.bits.proofs.Order.{within_refl, within_trans, meet_right, meet_greatest, meet_left, without_mono, without_within}
use Rattle.netlist.specs.Kinds.{uses_of, is_constant}
use Rattle.netlist.specs.declared.record.Kind.{Kind}
use Rattle.netlist.specs.declared.record.Record.{Record}
use Rattle.netlist.proofs.KindLaws.{constant_kind}
use Rattle.signal.specs.Asks.{constant_value, both, other_alone, beside}
use Rattle.signal.specs.Results.{result_of, result_at}

-- A record that is a constant has its value: premise of what is enough beside it.
abbrev pub Fixed : Record → ℕ → Type 0
Fixed r value = is_constant r.kind ≡ true → value ≡ constant_value r

-- "The value of a signal is this result with the bits cleared where its keep word has 0": for a constant, v
pub constant_fixed : (at : ℕ → Record) (word : ℕ → ℕ) (i : ℕ) → Fixed (at i) (bit_and (result_at at word i) (at i).keep)
unfolding result_at
constant_fixed at word i e =
    ap (λ (kind : Kind).
    let u = uses_of kind in
    bit_and (result_of kind (at i).width (at u.b).width (word i) (word u.a) (word u.b) (word u.c)) (at i).keep)
    (constant_kind (at i).kind e)

-- ---- an and or an or whose second operand is a constant

-- Why an and may be cut. In the first run the constant has its value v; in the second it may differ from v outside its mask, which has D. Where
-- v has a one, the values of the other operand agree; where v has none, both results have none, whatever these values are.
pub and_constant : {D x x' v v' : ℕ} → Agree (both D v) x x' → Agree D v v' → Agree D (bit_and x v) (bit_and x' v')
and_constant {D} {x} {x'} {v} {v'} h g = agree_by_bits (λ i e. go i e (bit_cases v i))
  where
    go : (i : ℕ) → bit D i ≡ 1 → (bit v i ≡ 0) ⊎ (bit v i ≡ 1) → bit (bit_and x v) i ≡ bit (bit_and x' v') i
    go i e (inl none) =
        let same = agree_bit g i e in let p = bit_of_and x v i in let q = bit_of_and x' v' i in omega arith
    go i e (inr one) =
        let same = agree_bit g i e in
        let asked = bit_of_and v D i in
        let other = agree_bit h i (omega arith) in
        let p = bit_of_and x v i in
        let q = bit_of_and x' v' i in
        omega arith

-- Why an or may be cut: where v has a one, both results have one.
pub or_constant : {D x x' v v' : ℕ} → Agree (without D v) x x' → Agree D v v' → Agree D (bit_or x v) (bit_or x' v')
or_constant {D} {x} {x'} {v} {v'} h g = agree_by_bits (λ i e. go i e (bit_cases v i))
  where
    go : (i : ℕ) → bit D i ≡ 1 → (bit v i ≡ 0) ⊎ (bit v i ≡ 1) → bit (bit_or x v) i ≡ bit (bit_or x' v') i
    go i e (inl none) =
        let same = agree_bit g i e in
        let asked = bit_without D v i in
        let other = agree_bit h i (omega arith) in
        let p = bit_of_or x v i in
        let q = bit_of_or x' v' i in
        omega arith
    go i e (inr one) =
        let same = agree_bit g i e in
        let p = bit_of_or x v i in
        let q = bit_of_or x' v' i in
        let l = bit_lt x i in
        let l' = bit_lt x' i in
        omega arith

-- Why two constants are not cut, "since each might lean on the other": of two constants 0, each cut by the other's value, no bit would be
-- asked, and where both differ in the second run, so does the result.
pub both_cut_differ : Agree (both 1 0) 0 1 × (Agree 1 (bit_and 0 0) (bit_and 1 1) → ⊥)
both_cut_differ = (record { equal = refl }, λ h. let z = h.equal in omega arith)

-- ---- an operand beside another

-- What an operation and its way to cut D have to keep.
pub record Cutting (op cut_by : ℕ → ℕ → ℕ) : Type 0 where
  pub grow : {D E : ℕ} (v : ℕ) → Within D E → Within (cut_by D v) (cut_by E v)
  pub less : (D v : ℕ) → Within (cut_by D v) D
  pub comm : (x y : ℕ) → op x y ≡ op y x
  pub plain : {D x x' y y' : ℕ} → Agree D x x' → Agree D y y' → Agree D (op x y) (op x' y')
  pub constant : {D x x' v v' : ℕ} → Agree (cut_by D v) x x' → Agree D v v' → Agree D (op x v) (op x' v')

pub cutting_and : Cutting bit_and both
cutting_and =
    record {
      grow = λ {D} {E} v h. meet_greatest (meet_left v D) (within_trans (meet_right v D) h);
      less = λ D v. meet_right v D;
      comm = and_comm;
      plain = agree_and;
      constant = and_constant;
    }

pub cutting_or : Cutting bit_or without
cutting_or =
    record {
      grow = without_mono;
      less = without_within;
      comm = or_comm;
      plain = agree_or;
      constant = or_constant;
    }

module _ {op cut_by : ℕ → ℕ → ℕ} (cutting : Cutting op cut_by) (x y : Record) where
  -- what both operands are asked is enough, where in the first run each that is a constant has its value
  pub beside_enough : {D p p' q q' : ℕ} → Fixed x p → Fixed y q → Agree (beside cut_by x y D) p p' → Agree (beside cut_by y x D) q q' → Agree D (op p q) (op p' q')
  unfolding beside
  beside_enough {D} {p} {p'} {q} {q'} = go (is_constant x.kind) (is_constant y.kind)
    where
      go : (s t : Bool) → (s ≡ true → p ≡ constant_value x) → (t ≡ true → q ≡ constant_value y)
          → Agree (cond (other_alone s t) (cut_by D (constant_value y)) D) p p' → Agree (cond (other_alone t s) (cut_by D (constant_value x)) D) q q'
          → Agree D (op p q) (op p' q')
      go true true first second h g = cutting.plain h g
      go false false first second h g = cutting.plain h g
      go false true first second h g = cutting.constant (subst (λ (v : ℕ). Agree (cut_by D v) p p') (sym (second refl)) h) g
      go true false first second h g =
          subst₂ (Agree D) (cutting.comm q p) (cutting.comm q' p')
          (cutting.constant (subst (λ (v : ℕ). Agree (cut_by D v) q q') (sym (first refl)) g) h)

  pub beside_grow : {D E : ℕ} → Within D E → Within (beside cut_by x y D) (beside cut_by x y E)
  unfolding beside
  beside_grow {D} {E} h = go (other_alone (is_constant x.kind) (is_constant y.kind))
    where
      go : (t : Bool) → Within (cond t (cut_by D (constant_value y)) D) (cond t (cut_by E (constant_value y)) E)
      go true = cutting.grow (constant_value y) h
      go false = h

  pub beside_less : (D : ℕ) → Within (beside cut_by x y D) D
  unfolding beside
  beside_less D = go (other_alone (is_constant x.kind) (is_constant y.kind))
    where
      go : (t : Bool) → Within (cond t (cut_by D (constant_value y)) D) D
      go true = cutting.less D (constant_value y)
      go false = within_refl D
