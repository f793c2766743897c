-- The results of records, kind by kind, with what a right shift that copies the top bit and a signed comparison make of a word.
-- Assumes nothing.
use Rattle.std.specs.Prelude.{cond, ℕ, ◌+◌, ◌-◌, ◌*◌, ◌^◌, eqb, ltb}
use Rattle.std.specs.Int.Bits.{bit_and, bit_or, bit_xor}
use Rattle.bits.specs.Masks.{bit}
use Rattle.bits.specs.Words.{low_mask, cut, down, sum_at, difference_at, product_at}
use Rattle.netlist.specs.Kinds.{uses_of}
use Rattle.netlist.specs.declared.record.Kind.{Kind}
use Rattle.netlist.specs.declared.record.Kind.TheVariants.{Input, Constant, Register, Output, Extract, Concat, And, Or, Xor, Mux, Add, Sub, Mul, Equal, Below, LeftShift, RightShift, ArithmeticRightShift, SignedBelow}
use Rattle.netlist.specs.declared.record.Record.{Record}

-- The top bit of a word of w bits.
abbrev pub top_bit : ℕ → ℕ → ℕ
top_bit w x = bit x (w - 1)

-- The places that a shift of w bits down by k leaves empty.
abbrev pub emptied : ℕ → ℕ → ℕ
emptied w k = low_mask w - down k (low_mask w)

-- "right shift that copies the top bit": the word moved down, and in each empty place its top bit.
abbrev pub arithmetic_down : ℕ → ℕ → ℕ → ℕ
arithmetic_down w k x = bit_or (down k x) (cond (eqb (top_bit w x) 1) (emptied w k) 0)

-- "two's complement": a word of w bits stands for x where its top bit is 0, and for x - 2^w where it is 1. Here 2^w is added to either,
-- so that no number is below 0; their order stays.
abbrev pub signed_at : ℕ → ℕ → ℕ
signed_at w x = cond (eqb (top_bit w x) 1) x (x + 2 ^ w)

-- The table's column "result" for a record of w bits: `own` is the record's own word on the board, x, y and z are the values of a, b and
-- c, and wb is W(b).
abbrev pub result_of : Kind → ℕ → ℕ → ℕ → ℕ → ℕ → ℕ → ℕ
-- "the pin's word"
result_of Input w wb own x y z = own
-- "k"
result_of (Constant k) w wb own x y z = k
-- "its state"
result_of (Register a k) w wb own x y z = own
-- "a"
result_of (Output a) w wb own x y z = x
-- "bits k to k + w - 1 of a"
result_of (Extract a k) w wb own x y z = cut w (down k x)
-- "a above b"
result_of (Concat a b) w wb own x y z = cut w (x * 2 ^ wb + y)
-- "bit by bit"
result_of (And a b) w wb own x y z = bit_and x y
result_of (Or a b) w wb own x y z = bit_or x y
result_of (Xor a b) w wb own x y z = bit_xor x y
-- "b if a is 1, else c"
result_of (Mux a b c) w wb own x y z = cond (eqb x 1) y z
-- "modulo 2^w"
result_of (Add a b) w wb own x y z = sum_at w x y
result_of (Sub a b) w wb own x y z = difference_at w x y
result_of (Mul a b) w wb own x y z = product_at w x y
-- "1 if so, else 0; below is unsigned"
result_of (Equal a b) w wb own x y z = cond (eqb x y) 1 0
result_of (Below a b) w wb own x y z = cond (ltb x y) 1 0
-- "left shift": what leaves the width is dropped
result_of (LeftShift a k) w wb own x y z = cut w (x * 2 ^ k)
-- "right shift"
result_of (RightShift a k) w wb own x y z = down k x
-- "right shift that copies the top bit"
result_of (ArithmeticRightShift a k) w wb own x y z = arithmetic_down w k x
-- "signed below, two's complement", of words of W(a) = W(b) bits
result_of (SignedBelow a b) w wb own x y z = cond (ltb (signed_at wb x) (signed_at wb y)) 1 0

-- The result of record i: `at` gives the record of each number, and `word` gives its word on the board, which for an operand is its value.
unfoldable pub result_at : (ℕ → Record) → (ℕ → ℕ) → ℕ → ℕ
result_at at word i =
    let u = uses_of (at i).kind in
    result_of (at i).kind (at i).width (at u.b).width (word i) (word u.a) (word u.b) (word u.c)
