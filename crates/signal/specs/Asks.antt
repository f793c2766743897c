-- The care rules: what a record asks of its operands, kind by kind.
-- Assumes nothing.
use Rattle.std.specs.Prelude.{Bool, cond, not, ◌&&◌, List, [], ◌∷◌, ℕ, ◌-◌, ◌^◌, ◌<◌, eqb}
use Rattle.std.specs.Int.Bits.{bit_and, bit_or}
use Rattle.bits.specs.Masks.{Within, without}
use Rattle.bits.specs.Words.{low_mask, cut, up, down, bit_length}
use Rattle.netlist.specs.Kinds.{uses_of, is_constant}
use Rattle.netlist.specs.Layout.{Design}
use Rattle.netlist.specs.declared.record.Kind.{Kind}
use Rattle.netlist.specs.declared.record.Kind.TheVariants.{Input, Constant, Register, Output, Extract, Concat, And, Or, Xor, Mux, Add, Sub, Mul, Equal, Below, LeftShift, RightShift, ArithmeticRightShift, SignedBelow}
use Rattle.netlist.specs.declared.record.Record.{Record}
use Rattle.signal.specs.declared.Ask.{Ask}

-- An ask: a mask that is asked of an operand.
abbrev pub ask : ℕ → ℕ → Ask
ask operand mask = record { operand = operand; mask = mask }

-- "every bit from 0 to the highest one in D, and nothing if D is 0"
abbrev pub up_to_highest : ℕ → ℕ
up_to_highest D = low_mask (bit_length D)

-- The bits of m "if D is not 0, and nothing if it is".
abbrev pub if_any : ℕ → ℕ → ℕ
if_any m D = cond (eqb D 0) 0 m

-- "all bits if D is not 0, and nothing if it is", for an operand of w bits
abbrev pub all_if_any : ℕ → ℕ → ℕ
all_if_any w D = if_any (low_mask w) D

-- "D up by k within w"
abbrev pub up_within : ℕ → ℕ → ℕ → ℕ
up_within w k D = cut w (up k D)

-- "bit w - 1 when D has a bit at w - k or above"
abbrev pub top_if_copied : ℕ → ℕ → ℕ → ℕ
top_if_copied w k D = if_any (2 ^ (w - 1)) (down (w - k) D)

-- #104: "With v the constant's value (k and keep word)", bit by bit.
abbrev pub constant_value : Record → ℕ
constant_value r = bit_and (uses_of r.kind).k r.keep

-- "D and v"
abbrev pub both : ℕ → ℕ → ℕ
both D v = bit_and v D

-- "where exactly one operand .. is a constant": the other one is, and this one is not.
abbrev pub other_alone : Bool → Bool → Bool
other_alone this other = other && not this

-- What an operand x is asked beside the other operand y: beside a constant it has D cut by v. "The constant itself has D. If both operands are
-- constants, the old rule holds", and so it does if none is: x has D.
unfoldable pub beside : (ℕ → ℕ → ℕ) → Record → Record → ℕ → ℕ
beside cut_by x y D = cond (other_alone (is_constant x.kind) (is_constant y.kind)) (cut_by D (constant_value y)) D

-- What the operands a and b are asked, each beside the other.
abbrev pub each_beside : (ℕ → ℕ → ℕ) → (ℕ → Record) → ℕ → ℕ → ℕ → List Ask
each_beside cut_by at a b D = ask a (beside cut_by (at a) (at b) D) ∷ ask b (beside cut_by (at b) (at a) D) ∷ []

-- What a record of a kind asks of which operand, with D as 01 defines it. `at` gives the record of each number.
abbrev pub asks_of : (ℕ → Record) → Kind → ℕ → List Ask
asks_of at Input D = []
asks_of at (Constant k) D = []
-- "a register's a has D"
asks_of at (Register a k) D = ask a D ∷ []
-- "an output's a has D"
asks_of at (Output a) D = ask a D ∷ []
-- "extract: a has D moved up by l places, l being k"
asks_of at (Extract a k) D = ask a (up k D) ∷ []
-- "concat: b has the low W(b) bits of D, and a the rest"
asks_of at (Concat a b) D = ask a (down (at b).width D) ∷ ask b (cut (at b).width D) ∷ []
-- "and, or, xor: both operands have D", and by #104 beside a constant "the other has D and v; of an or, D without v"
asks_of at (And a b) D = each_beside both at a b D
asks_of at (Or a b) D = each_beside without at a b D
asks_of at (Xor a b) D = ask a D ∷ ask b D ∷ []
-- "mux: b and c have D", and by #102 "a selector is cared for only when D of its mux is not 0"
asks_of at (Mux a b c) D = ask a (if_any 1 D) ∷ ask b D ∷ ask c D ∷ []
-- "add, sub, mul: both have every bit from 0 to the highest one in D, and nothing if D is 0"
asks_of at (Add a b) D = ask a (up_to_highest D) ∷ ask b (up_to_highest D) ∷ []
asks_of at (Sub a b) D = ask a (up_to_highest D) ∷ ask b (up_to_highest D) ∷ []
asks_of at (Mul a b) D = ask a (up_to_highest D) ∷ ask b (up_to_highest D) ∷ []
-- "equal, below: both have all bits if D is not 0, and nothing if it is"
asks_of at (Equal a b) D = ask a (all_if_any (at a).width D) ∷ ask b (all_if_any (at b).width D) ∷ []
asks_of at (Below a b) D = ask a (all_if_any (at a).width D) ∷ ask b (all_if_any (at b).width D) ∷ []
-- "Care for a is D down by k in 15"
asks_of at (LeftShift a k) D = ask a (down k D) ∷ []
-- "and D up by k within w in 16 and 17", w being W(a); "in 17 also bit w - 1 when D has a bit at w - k or above"
asks_of at (RightShift a k) D = ask a (up_within (at a).width k D) ∷ []
asks_of at (ArithmeticRightShift a k) D = ask a (bit_or (up_within (at a).width k D) (top_if_copied (at a).width k D)) ∷ []
-- "Kind 18 goes as 14 does."
asks_of at (SignedBelow a b) D = ask a (all_if_any (at a).width D) ∷ ask b (all_if_any (at b).width D) ∷ []

-- "D(x) is M(x) and its keep word, bit by bit."
abbrev pub demand_of : Record → ℕ → ℕ
demand_of r m = bit_and m r.keep

-- What record i asks when its mask is m.
unfoldable pub asked : (ℕ → Record) → ℕ → ℕ → List Ask
asked at i m = asks_of at (at i).kind (demand_of (at i) m)

-- A family of masks grants what is asked: each operand's mask has all the bits asked of it.
abbrev pub Granted : List Ask → (ℕ → ℕ) → Type 0
Granted [] M = Unit {0}
Granted (x ∷ xs) M = Within x.mask (M x.operand) × Granted xs M

-- Each ask names a record of the design and stays within its width.
abbrev pub Fit : Design → List Ask → Type 0
Fit d [] = Unit {0}
Fit d (x ∷ xs) = (x.operand < d.count) × Within x.mask (low_mask (d.at x.operand).width) × Fit d xs
