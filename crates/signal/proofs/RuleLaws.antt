-- The laws of the care rules, kind by kind: what is asked grows with D, and stays within the operands' widths.
-- Assumes nothing. The crates above use these laws and look at no kind.
use mathlib.Core.Path.{◌≡◌, sym, subst}
use Prim.Native.Nat.{ℕ, zero, suc, ◌-◌, ◌^◌, ◌≤◌, ◌<◌}
use native.Mathlib.Nat.{lt_of_le_of_lt, lt_of_lt_of_le, mod-lt}
use native.Mathlib.Omega.{arith}
use lib.Bits.{bit_and, bit_or}
use lib.Dec.{eqb-suc-zero, lit<}
use lib.Pow.{pow_pos, pow_mono, pow-lt, shr_le}
use Rattle.bits.specs.Masks.{Within}
use Rattle.bits.specs.Words.{low_mask, down}
use Rattle.bits.proofs.Order.{within_refl, within_trans, within_zero, within_le, within_low, within_lt, low_mono, join_left, join_right, join_least, meet_right, meet_mono}
use Rattle.bits.proofs.Shifts.{cut_mono, up_mono, up_lt, down_mono, down_lt, length_le, length_mono}
use Rattle.netlist.specs.Limits.{max_width}
use Rattle.netlist.specs.Kinds.{uses_of, width_rules}
use Rattle.netlist.specs.Layout.{Design}
use Rattle.netlist.specs.Rules.{AllHold}
use Rattle.netlist.specs.declared.record.Kind.{Kind}
use Rattle.netlist.specs.declared.record.Kind.TheVariants.{Input, Constant, Register, Output, Extract, Concat, And, Or, Xor, Mux, Add, Sub, Mul, Equal, Below, LeftShift, RightShift, ArithmeticRightShift, SignedBelow}
use Rattle.netlist.specs.declared.record.Record.{Record}
use Rattle.rules.specs.Fit.{width_rules_at}
use Rattle.rules.specs.Sound.{Sound}
use Rattle.rules.proofs.SoundLaws.{OperandsBelow, operands_below, word_64}
use Rattle.signal.specs.Asks.{up_to_highest, if_any, all_if_any, up_within, beside, each_beside, asks_of, demand_of, asked, Granted, Fit}
use Rattle.signal.proofs.ConstantLaws.{Cutting, cutting_and, cutting_or, beside_grow, beside_less}

-- the bits of m if D is not 0: no other bits, and more of D asks for no less
any_within : (m D : ℕ) → Within (if_any m D) m
any_within m zero = within_zero _
any_within m (suc D) = rw (eqb-suc-zero D) (within_refl m)

any_mono : (m D E : ℕ) → Within D E → Within (if_any m D) (if_any m E)
any_mono m zero E h = within_zero _
any_mono m (suc D) zero h = absurd (let l = within_le h in omega arith)
any_mono m (suc D) (suc E) h = rw (eqb-suc-zero D, eqb-suc-zero E) (within_refl _)

join_mono : {a b c e : ℕ} → Within a c → Within b e → Within (bit_or a b) (bit_or c e)
join_mono {c = c} {e = e} h g = join_least (within_trans h (join_left c e)) (within_trans g (join_right c e))

-- what is asked with D is granted where what is asked with more is granted
module _ (at : ℕ → Record) (M : ℕ → ℕ) {D E : ℕ} (h : Within D E) (low : E < 2 ^ 64) where
  carry : {m : ℕ} → Within (up_to_highest E) m → Within (up_to_highest D) m
  carry g = within_trans (low_mono (let l = length_mono h low in omega arith)) g

  any : (w : ℕ) {m : ℕ} → Within (all_if_any w E) m → Within (all_if_any w D) m
  any w g = within_trans (any_mono (low_mask w) D E h) g

  up_in : (w k : ℕ) → Within (up_within w k D) (up_within w k E)
  up_in w k = cut_mono w (up_mono k h)

  each : {op cut_by : ℕ → ℕ → ℕ} → Cutting op cut_by → (a b : ℕ) → Granted (each_beside cut_by at a b E) M → Granted (each_beside cut_by at a b D) M
  each c a b g = (within_trans (beside_grow c _ _ h) g.0, (within_trans (beside_grow c _ _ h) g.1.0, tt))

  pub asks_grow : (kind : Kind) → Granted (asks_of at kind E) M → Granted (asks_of at kind D) M
  asks_grow Input g = tt
  asks_grow (Constant k) g = tt
  asks_grow (Register a k) g = (within_trans h g.0, tt)
  asks_grow (Output a) g = (within_trans h g.0, tt)
  asks_grow (Extract a k) g = (within_trans (up_mono _ h) g.0, tt)
  asks_grow (Concat a b) g = (within_trans (down_mono _ h) g.0, (within_trans (cut_mono _ h) g.1.0, tt))
  asks_grow (And a b) g = each cutting_and a b g
  asks_grow (Or a b) g = each cutting_or a b g
  asks_grow (Xor a b) g = (within_trans h g.0, (within_trans h g.1.0, tt))
  asks_grow (Mux a b c) g = (within_trans (any_mono _ D E h) g.0, (within_trans h g.1.0, (within_trans h g.1.1.0, tt)))
  asks_grow (Add a b) g = (carry g.0, (carry g.1.0, tt))
  asks_grow (Sub a b) g = (carry g.0, (carry g.1.0, tt))
  asks_grow (Mul a b) g = (carry g.0, (carry g.1.0, tt))
  asks_grow (Equal a b) g = (any (at a).width g.0, (any (at b).width g.1.0, tt))
  asks_grow (Below a b) g = (any (at a).width g.0, (any (at b).width g.1.0, tt))
  asks_grow (LeftShift a k) g = (within_trans (down_mono k h) g.0, tt)
  asks_grow (RightShift a k) g = (within_trans (up_in (at a).width k) g.0, tt)
  asks_grow (ArithmeticRightShift a k) g = (
    within_trans (join_mono (up_in (at a).width k) (any_mono _ _ _ (down_mono ((at a).width - k) h))) g.0,
    tt,
  )
  asks_grow (SignedBelow a b) g = (any (at a).width g.0, (any (at b).width g.1.0, tt))

-- a mask of at most one bit
one_bit : (m w : ℕ) → m < 2 → 1 ≤ w → Within m (low_mask w)
one_bit m w h l = within_low w (lt_of_lt_of_le h (pow_mono {i = 1} l))

-- what is asked with a D within the record's width names records of the design and stays within their widths
module _ (d : Design) (w D : ℕ) (h : D < 2 ^ w) where
  same_width : (j : ℕ) → (d.at j).width ≡ w → Within D (low_mask (d.at j).width)
  same_width j e = within_low (d.at j).width (subst (λ (v : ℕ). D < 2 ^ v) (sym e) h)

  beside_width : {op cut_by : ℕ → ℕ → ℕ} → Cutting op cut_by → (x y : Record) (j : ℕ) → (d.at j).width ≡ w
      → Within (beside cut_by x y D) (low_mask (d.at j).width)
  beside_width c x y j e = within_trans (beside_less c x y D) (same_width j e)

  low_bits : (j : ℕ) → (d.at j).width ≡ w → Within (up_to_highest D) (low_mask (d.at j).width)
  low_bits j e = low_mono (let l = length_le w h in omega arith)

  top_low : (u : ℕ) → 1 ≤ u → Within (2 ^ (u - 1)) (low_mask u)
  top_low u l = within_low u (pow-lt {i = u - 1} (omega arith))

  cut_low : (u k : ℕ) → Within (up_within u k D) (low_mask u)
  cut_low u k = within_low u (mod-lt _ (pow_pos u))

  pub asks_fit : (kind : Kind) → OperandsBelow (uses_of kind) d.count → (d.at (uses_of kind).a).width ≤ max_width
      → AllHold (width_rules kind w (d.at (uses_of kind).a).width (d.at (uses_of kind).b).width (d.at (uses_of kind).c).width)
      → Fit d (asks_of d.at kind D)
  asks_fit Input o n r = tt
  asks_fit (Constant k) o n r = tt
  asks_fit (Register a k) o n r = (o.a, same_width a r.0, tt)
  asks_fit (Output a) o n r = (o.a, same_width a r.0, tt)
  asks_fit (Extract a k) o n r = (o.a, within_low (d.at a).width (up_lt w _ (d.at a).width h (omega arith) n), tt)
  asks_fit (Concat a b) o n r = (
    o.a,
    within_low (d.at a).width (down_lt (d.at a).width _ (lt_of_lt_of_le h (pow_mono (omega arith)))),
    (o.b, within_low (d.at b).width (lt_of_lt_of_le (mod-lt D (pow_pos _)) (pow_mono (omega arith))), tt),
  )
  asks_fit (And a b) o n r = (o.a, beside_width cutting_and _ _ a r.0, (o.b, beside_width cutting_and _ _ b r.1.0, tt))
  asks_fit (Or a b) o n r = (o.a, beside_width cutting_or _ _ a r.0, (o.b, beside_width cutting_or _ _ b r.1.0, tt))
  asks_fit (Xor a b) o n r = (o.a, same_width a r.0, (o.b, same_width b r.1.0, tt))
  asks_fit (Mux a b c) o n r = (
    o.a,
    within_trans (any_within _ D) (one_bit _ (d.at a).width (lit< tt) (omega arith)),
    (o.b, same_width b r.1.0, (o.c, same_width c r.1.1.0, tt)),
  )
  asks_fit (Add a b) o n r = (o.a, low_bits a r.0, (o.b, low_bits b r.1.0, tt))
  asks_fit (Sub a b) o n r = (o.a, low_bits a r.0, (o.b, low_bits b r.1.0, tt))
  asks_fit (Mul a b) o n r = (o.a, low_bits a r.0, (o.b, low_bits b r.1.0, tt))
  asks_fit (Equal a b) o n r = (o.a, any_within _ D, (o.b, any_within _ D, tt))
  asks_fit (Below a b) o n r = (o.a, any_within _ D, (o.b, any_within _ D, tt))
  asks_fit (LeftShift a k) o n r = (o.a, within_trans (within_low w (lt_of_le_of_lt (shr_le D k) h)) (low_mono (omega arith)), tt)
  asks_fit (RightShift a k) o n r = (o.a, cut_low (d.at a).width k, tt)
  asks_fit (ArithmeticRightShift a k) o n r = (
    o.a,
    join_least (cut_low (d.at a).width k) (within_trans (any_within _ (down ((d.at a).width - k) D)) (top_low (d.at a).width (omega arith))),
    tt,
  )
  asks_fit (SignedBelow a b) o n r = (o.a, any_within _ D, (o.b, any_within _ D, tt))

-- the two laws for the records of a sound design
module _ (d : Design) (s : Sound d) (i : ℕ) (h : i < d.count) where
  pub asked_grow : (M : ℕ → ℕ) {m n : ℕ} → Within m n → Granted (asked d.at i n) M → Granted (asked d.at i m) M
  unfolding asked
  asked_grow M {m} {n} g granted =
      asks_grow d.at M (meet_mono (d.at i).keep g)
      (word_64 d s i h (bit_and n (d.at i).keep) (within_lt (d.at i).width (meet_right n (d.at i).keep) (s.each i h).keep))
      (d.at i).kind granted

  pub asked_fit : (m : ℕ) → Fit d (asked d.at i m)
  unfolding asked width_rules_at
  asked_fit m =
      let o = operands_below d s i h in
      asks_fit d (d.at i).width (demand_of (d.at i) m) (within_lt (d.at i).width (meet_right m (d.at i).keep) (s.each i h).keep) (d.at i).kind o
      (s.each (uses_of (d.at i).kind).a o.a).narrow (s.each i h).widths
