-- All that is said of a kind: its number, the fields it uses, its role in a design, its width rule.
-- Assumes nothing.
use Rattle.std.specs.Prelude.{Bool, true, false, ◌||◌, List, [], ◌∷◌, ℕ, ◌+◌, eqb, get_or, take}
use Rattle.netlist.specs.Rules.{Rule, equal, below, at_most}
use Rattle.netlist.specs.declared.record.Fields.{Fields}
use Rattle.netlist.specs.declared.record.Uses.{Uses}
use Rattle.netlist.specs.declared.record.Kind.{Kind}
use Rattle.netlist.specs.declared.record.Kind.TheVariants.{Input, Constant, Register, Output, Extract, Concat, And, Or, Xor, Mux, Add, Sub, Mul, Equal, Below, LeftShift, RightShift, ArithmeticRightShift, SignedBelow}
use Rattle.netlist.specs.declared.record.Role.{Role}
use Rattle.netlist.specs.declared.record.Role.TheVariants.{Input as input, Register as register, Output as output, Gate as gate}

-- The table's column "kind", in the order of the numbers, each kind with the fields of the column "uses".
abbrev pub kinds : Fields → List Kind
kinds f =
    Input
    ∷ Constant f.k
    ∷ Register f.a f.k
    ∷ Output f.a
    ∷ Extract f.a f.k
    ∷ Concat f.a f.b
    ∷ And f.a f.b
    ∷ Or f.a f.b
    ∷ Xor f.a f.b
    ∷ Mux f.a f.b f.c
    ∷ Add f.a f.b
    ∷ Sub f.a f.b
    ∷ Mul f.a f.b
    ∷ Equal f.a f.b
    ∷ Below f.a f.b
    ∷ LeftShift f.a f.k
    ∷ RightShift f.a f.k
    ∷ ArithmeticRightShift f.a f.k
    ∷ SignedBelow f.a f.b
    ∷ []

-- The kind with a number. A number above 18 reads as an input; a file with one is refused.
unfoldable pub kind_of : ℕ → Fields → Kind
kind_of code f = get_or (kinds f) code Input

-- The number of a kind.
abbrev pub code_of : Kind → ℕ
code_of Input = 0
code_of (Constant k) = 1
code_of (Register a k) = 2
code_of (Output a) = 3
code_of (Extract a k) = 4
code_of (Concat a b) = 5
code_of (And a b) = 6
code_of (Or a b) = 7
code_of (Xor a b) = 8
code_of (Mux a b c) = 9
code_of (Add a b) = 10
code_of (Sub a b) = 11
code_of (Mul a b) = 12
code_of (Equal a b) = 13
code_of (Below a b) = 14
code_of (LeftShift a k) = 15
code_of (RightShift a k) = 16
code_of (ArithmeticRightShift a k) = 17
code_of (SignedBelow a b) = 18

-- "is a constant": a record of kind 1.
abbrev pub is_constant : Kind → Bool
is_constant kind = eqb (code_of kind) 1

-- "a multiplier": a record of kind 12.
abbrev pub is_multiplier : Kind → Bool
is_multiplier kind = eqb (code_of kind) 12

-- The numbers of the shifts.
abbrev pub shift_range : ℕ → List Rule
shift_range code = at_most 15 code ∷ below code 18 ∷ []

-- What a kind uses: no operand, one, two or three, then k; 0 stands for a field that is not used. `word` is the k of a constant or
-- register, which has to fit the width, and 0 elsewhere.
abbrev pub none : ℕ → ℕ → Role → Uses
none k word role = record { count = 0; a = 0; b = 0; c = 0; k = k; word = word; role = role }

abbrev pub one : ℕ → ℕ → ℕ → Role → Uses
one a k word role = record { count = 1; a = a; b = 0; c = 0; k = k; word = word; role = role }

abbrev pub two : ℕ → ℕ → Uses
two a b = record { count = 2; a = a; b = b; c = 0; k = 0; word = 0; role = gate }

abbrev pub three : ℕ → ℕ → ℕ → Uses
three a b c = record { count = 3; a = a; b = b; c = c; k = 0; word = 0; role = gate }

-- The table's column "uses", and the role of each kind.
abbrev pub uses_of : Kind → Uses
uses_of Input = none 0 0 input
uses_of (Constant k) = none k k gate
uses_of (Register a k) = one a k k (register a k)
uses_of (Output a) = one a 0 0 output
uses_of (Extract a k) = one a k 0 gate
uses_of (Concat a b) = two a b
uses_of (And a b) = two a b
uses_of (Or a b) = two a b
uses_of (Xor a b) = two a b
uses_of (Mux a b c) = three a b c
uses_of (Add a b) = two a b
uses_of (Sub a b) = two a b
uses_of (Mul a b) = two a b
uses_of (Equal a b) = two a b
uses_of (Below a b) = two a b
uses_of (LeftShift a k) = one a k 0 gate
uses_of (RightShift a k) = one a k 0 gate
uses_of (ArithmeticRightShift a k) = one a k 0 gate
uses_of (SignedBelow a b) = two a b

-- The table's column "width rule", with wa, wb and wc for W(a), W(b) and W(c).
abbrev pub width_rules : Kind → ℕ → ℕ → ℕ → ℕ → List Rule
width_rules Input w wa wb wc = []
width_rules (Constant k) w wa wb wc = []
width_rules (Register a k) w wa wb wc = equal wa w ∷ []
width_rules (Output a) w wa wb wc = equal wa w ∷ []
width_rules (Extract a k) w wa wb wc = at_most (k + w) wa ∷ []
width_rules (Concat a b) w wa wb wc = equal (wa + wb) w ∷ []
width_rules (And a b) w wa wb wc = equal wa w ∷ equal wb w ∷ []
width_rules (Or a b) w wa wb wc = equal wa w ∷ equal wb w ∷ []
width_rules (Xor a b) w wa wb wc = equal wa w ∷ equal wb w ∷ []
width_rules (Mux a b c) w wa wb wc = equal wa 1 ∷ equal wb w ∷ equal wc w ∷ []
width_rules (Add a b) w wa wb wc = equal wa w ∷ equal wb w ∷ []
width_rules (Sub a b) w wa wb wc = equal wa w ∷ equal wb w ∷ []
width_rules (Mul a b) w wa wb wc = equal wa w ∷ equal wb w ∷ []
width_rules (Equal a b) w wa wb wc = equal wa wb ∷ equal w 1 ∷ []
width_rules (Below a b) w wa wb wc = equal wa wb ∷ equal w 1 ∷ []
-- "each of a by k places with W(a) = w and k < w"
width_rules (LeftShift a k) w wa wb wc = equal wa w ∷ below k w ∷ []
width_rules (RightShift a k) w wa wb wc = equal wa w ∷ below k w ∷ []
width_rules (ArithmeticRightShift a k) w wa wb wc = equal wa w ∷ below k w ∷ []
-- "signed below, two's complement, with the widths of 14"
width_rules (SignedBelow a b) w wa wb wc = equal wa wb ∷ equal w 1 ∷ []

-- Which role is an input.
abbrev pub is_input : Role → Bool
is_input input = true
is_input (register a k) = false
is_input output = false
is_input gate = false

-- Which role is an output.
abbrev pub is_output : Role → Bool
is_output input = false
is_output (register a k) = false
is_output output = true
is_output gate = false

-- Which role is a register's.
abbrev pub is_register : Role → Bool
is_register input = false
is_register (register a k) = true
is_register output = false
is_register gate = false

-- "it holds each pin's word at its input and each state at its register": the roles whose word on the board list counts.
abbrev pub is_held : Role → Bool
is_held input = true
is_held (register a k) = true
is_held output = false
is_held gate = false

-- The operands that a kind uses.
unfoldable pub operands_of : Uses → List ℕ
operands_of u = take u.count (u.a ∷ u.b ∷ u.c ∷ [])

-- Whether a number is in a list, and whether a kind "names" a record: its number is among the operands that the kind uses.
abbrev pub is_in : ℕ → List ℕ → Bool
is_in j [] = false
is_in j (x ∷ xs) = eqb x j || is_in j xs

abbrev pub names : Kind → ℕ → Bool
names kind j = is_in j (operands_of (uses_of kind))

-- #107: "numbers are renewed": the kind with new numbers for its operands. What it does not use, it does not carry.
unfoldable pub renumbered : (ℕ → ℕ) → Kind → Kind
renumbered new kind =
    let u = uses_of kind in
    kind_of (code_of kind) (record { a = new u.a; b = new u.b; c = new u.c; k = u.k })
