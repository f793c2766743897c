-- No result has more bits than its record, where no word on the board has; so the cut of a concat takes nothing away.
-- Assumes nothing.
use mathlib.Core.Path.{◌≡◌, subst}
use mathlib.Core.Bool.{Bool, true, false, cond}
use Prim.Native.Nat.{ℕ, ◌+◌, ◌*◌, ◌^◌, ◌≤◌, ◌<◌}
use native.Mathlib.Nat.{lt_of_le_of_lt, lt_of_lt_of_le, mod-lt, mod-eq_of_lt, mul-le-mul_right, add-mul}
use native.Mathlib.Omega.{arith}
use lib.Bits.{and_lt, or_lt, xor_lt}
use lib.Dec.{eqb, ltb, lit<}
use lib.Pow.{pow_pos, pow_mono, pow-add, shr_le, ones_sub-lt}
use Rattle.bits.specs.Words.{cut, down}
use Rattle.netlist.specs.Kinds.{uses_of, width_rules}
use Rattle.netlist.specs.Layout.{Design}
use Rattle.netlist.specs.Rules.{AllHold}
use Rattle.netlist.specs.declared.record.Kind.{Kind}
use Rattle.netlist.specs.declared.record.Kind.TheVariants.{Input, Constant, Register, Output, Extract, Concat, And, Or, Xor, Mux, Add, Sub, Mul, Equal, Below, LeftShift, RightShift, ArithmeticRightShift, SignedBelow}
use Rattle.rules.specs.Fit.{width_rules_at}
use Rattle.rules.specs.Sound.{Sound}
use Rattle.rules.proofs.SoundLaws.{operands_below}
use Rattle.signal.specs.Results.{top_bit, signed_at, result_of, result_at}

-- "a above b": nothing of a is lost
pub concat_exact : (wa wb : ℕ) {x y : ℕ} → x < 2 ^ wa → y < 2 ^ wb → cut (wa + wb) (x * 2 ^ wb + y) ≡ x * 2 ^ wb + y
concat_exact wa wb {x} {y} h g = mod-eq_of_lt (let l = mul-le-mul_right (2 ^ wb) h in omega (arith, pow-add 2 wa wb, add-mul x 1 (2 ^ wb)))

choice_narrow : {y z m : ℕ} (b : Bool) → y < m → z < m → cond b y z < m
choice_narrow true h g = h
choice_narrow false h g = g

module _ (w wa wb wc own x y z : ℕ) (positive : 1 ≤ w) (ho : own < 2 ^ w) (hx : x < 2 ^ wa) (hy : y < 2 ^ wb) (hz : z < 2 ^ wc) where
  same : (v u : ℕ) → u ≡ w → v < 2 ^ u → v < 2 ^ w
  same v u e h = subst (λ (n : ℕ). v < 2 ^ n) e h

  one_or_none : (b : Bool) → cond b 1 0 < 2 ^ w
  one_or_none b = lt_of_lt_of_le (choice_narrow b (let l : 1 < 2 ^ 1 = lit< tt in l) (lit< tt)) (pow_mono positive)

  moved : (k : ℕ) → x < 2 ^ w → down k x < 2 ^ w
  moved k h = lt_of_le_of_lt (shr_le x k) h

  results_narrow : (kind : Kind) → (uses_of kind).word < 2 ^ w → AllHold (width_rules kind w wa wb wc) → result_of kind w wb own x y z < 2 ^ w
  results_narrow Input k r = ho
  results_narrow (Constant k) g r = g
  results_narrow (Register a k) g r = ho
  results_narrow (Output a) g r = same x wa r.0 hx
  results_narrow (Extract a k) g r = mod-lt _ (pow_pos w)
  results_narrow (Concat a b) g r = mod-lt _ (pow_pos w)
  results_narrow (And a b) g r = and_lt w x y (same x wa r.0 hx) (same y wb r.1.0 hy)
  results_narrow (Or a b) g r = or_lt w x y (same x wa r.0 hx) (same y wb r.1.0 hy)
  results_narrow (Xor a b) g r = xor_lt w x y (same x wa r.0 hx) (same y wb r.1.0 hy)
  results_narrow (Mux a b c) g r = choice_narrow (eqb x 1) (same y wb r.1.0 hy) (same z wc r.1.1.0 hz)
  results_narrow (Add a b) g r = mod-lt _ (pow_pos w)
  results_narrow (Sub a b) g r = mod-lt _ (pow_pos w)
  results_narrow (Mul a b) g r = mod-lt _ (pow_pos w)
  results_narrow (Equal a b) g r = one_or_none (eqb x y)
  results_narrow (Below a b) g r = one_or_none (ltb x y)
  results_narrow (LeftShift a k) g r = mod-lt _ (pow_pos w)
  results_narrow (RightShift a k) g r = moved k (same x wa r.0 hx)
  results_narrow (ArithmeticRightShift a k) g r =
      or_lt w _ _ (moved k (same x wa r.0 hx)) (choice_narrow (eqb (top_bit w x) 1) (ones_sub-lt w _) (pow_pos w))
  results_narrow (SignedBelow a b) g r = one_or_none (ltb (signed_at wb x) (signed_at wb y))

pub result_narrow : (d : Design) (s : Sound d) (i : ℕ) (h : i < d.count) (word : ℕ → ℕ)
    → ((j : ℕ) → j < d.count → word j < 2 ^ (d.at j).width) → result_at d.at word i < 2 ^ (d.at i).width
unfolding result_at width_rules_at
result_narrow d s i h word narrow =
    let r = s.each i h in
    let o = operands_below d s i h in
    results_narrow _ _ _ _ _ _ _ _ r.positive (narrow i h) (narrow _ o.a) (narrow _ o.b) (narrow _ o.c) (d.at i).kind r.word r.widths
