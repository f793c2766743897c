-- Laws of the table of kinds: numbers and kinds answer to each other, 1 alone is a constant's number, 12 a multiplier's, 2 a register's and 3 an output's,
-- which kinds have two operands, which are shifts and which are gates, unused fields are 0, k is a word, and what new numbers for the operands leave
-- as it was. Assumes nothing.
use mathlib.Core.Path.{◌≡◌, refl, sym, ap, ◌∙◌}
use mathlib.Core.Bool.{Bool, true, false, cond, false≢true}
use mathlib.Core.List.{List, [], ◌∷◌, ◌++◌, map}
use Prim.Native.Nat.compare
use Prim.Native.Nat.{ℕ, zero, suc, ◌+◌, ◌-◌, ◌^◌, ◌≤◌, ◌<◌}
use native.Mathlib.Omega.{arith}
use borrow.Author.Tests.{eqb-true, ne_eqb, ltb-true, ltb-false}
use lib.Dec.{eqb, ltb, compare_is_eq, lit<}
use lib.ListN.{get_or, take, drop, replicate, get_or-eq_default, get_or-map}
use Rattle.endian.specs.Lists.{words_of, words_from}
use Rattle.endian.proofs.ListLaws.{words_of-word_at}
use Rattle.netlist.specs.Kinds.{kinds, kind_of, code_of, is_constant, is_multiplier, shift_range, uses_of, width_rules, is_output, is_register, operands_of, renumbered, one, two}
use Rattle.netlist.specs.Limits.{kind_count}
use Rattle.netlist.specs.Rules.{Rule, equal, below, AllHold, test_all}
use Rattle.netlist.specs.declared.record.Fields.{Fields}
use Rattle.netlist.specs.declared.record.Kind.{Kind}
use Rattle.netlist.specs.declared.record.Kind.TheVariants.{Input, Constant, Register, Output, Extract, Concat, And, Or, Xor, Mux, Add, Sub, Mul, Equal, Below, LeftShift, RightShift, ArithmeticRightShift, SignedBelow}
use Rattle.netlist.specs.declared.record.Role.TheVariants.{Input as input, Register as register, Gate as gate}
use Rattle.netlist.specs.declared.record.Uses.{Uses}
use Rattle.netlist.proofs.OperandLists.{Each}
use Rattle.netlist.proofs.RoleLaws.{new_role}
use Rattle.netlist.proofs.Tests.{tests_hold}

-- no kind has a number above 18
pub kind_of_beyond : (code : ℕ) (f : Fields) → kind_count ≤ code → kind_of code f ≡ Input
unfolding kind_of
kind_of_beyond code f h = get_or-eq_default (kinds f) Input h

-- a list of one value gives it everywhere, with the same default
everywhere : (m n : ℕ) (b : Bool) → get_or (replicate m b) n b ≡ b
everywhere zero n b = refl
everywhere (suc m) zero b = refl
everywhere (suc m) (suc n) b = everywhere m n b

-- and up to its end, with any default
within : {A : Type 0} (m n : ℕ) (x y : A) → n < m → get_or (replicate m x) n y ≡ x
within zero n x y h = absurd (omega arith)
within (suc m) zero x y h = refl
within (suc m) (suc n) x y h = within m n x y (omega arith)

-- a list where one value alone is true tells a number
alone : (m rest n : ℕ) → get_or (replicate m false ++ (true ∷ replicate rest false)) n false ≡ eqb n m
alone zero rest zero = refl
alone zero rest (suc n) = everywhere rest n false ∙ sym (ne_eqb (suc n) 0 (λ e. omega arith))
alone (suc m) rest zero = sym (ne_eqb 0 (suc m) (λ e. omega arith))
alone (suc m) rest (suc n) = alone m rest n ∙ sym (ap compare_is_eq (compare.suc-suc n m))

-- 1 alone is a constant's number
pub constant_code : (code : ℕ) (f : Fields) → is_constant (kind_of code f) ≡ eqb code 1
unfolding kind_of
constant_code code f = sym (get_or-map is_constant (kinds f) code Input) ∙ alone 1 17 code

-- 12 alone is a multiplier's
pub multiplier_code : (code : ℕ) (f : Fields) → is_multiplier (kind_of code f) ≡ eqb code 12
unfolding kind_of
multiplier_code code f = sym (get_or-map is_multiplier (kinds f) code Input) ∙ alone 12 6 code

-- "names an output": 3 alone is an output's number, and 2 a register's
pub output_code : (code : ℕ) (f : Fields) → is_output (uses_of (kind_of code f)).role ≡ eqb code 3
unfolding kind_of
output_code code f = sym (get_or-map (λ (k : Kind). is_output (uses_of k).role) (kinds f) code Input) ∙ alone 3 15 code

pub register_code : (code : ℕ) (f : Fields) → is_register (uses_of (kind_of code f)).role ≡ eqb code 2
unfolding kind_of
register_code code f = sym (get_or-map (λ (k : Kind). is_register (uses_of k).role) (kinds f) code Input) ∙ alone 2 16 code

-- an input, a register and an output alone have roles of their own
gate_role : (code : ℕ) (f : Fields) → code < kind_count → (code ≡ 0 → ⊥) → (code ≡ 2 → ⊥) → (code ≡ 3 → ⊥) → (uses_of (kind_of code f)).role ≡ gate
unfolding kind_of
gate_role zero f h p q r = absurd (p refl)
gate_role (suc zero) f h p q r = refl
gate_role (suc (suc zero)) f h p q r = absurd (q refl)
gate_role (suc (suc (suc zero))) f h p q r = absurd (r refl)
gate_role (suc (suc (suc (suc n)))) f h p q r =
    sym (get_or-map (λ (k : Kind). (uses_of k).role) (drop 4 (kinds f)) n Input) ∙ within 15 n gate input (omega arith)

pub other_role : (code : ℕ) (f : Fields) → (code ≡ 0 → ⊥) → (code ≡ 2 → ⊥) → (code ≡ 3 → ⊥) → (uses_of (kind_of code f)).role ≡ cond (ltb code kind_count) gate input
other_role code f p q r = go (ltb code kind_count) refl
  where
    go : (t : Bool) → ltb code kind_count ≡ t → (uses_of (kind_of code f)).role ≡ cond t gate input
    go true e = gate_role code f (ltb-true code kind_count e) p q r
    go false e = ap (λ (k : Kind). (uses_of k).role) (kind_of_beyond code f (ltb-false code kind_count e))

-- the width rules of the kinds below 4, by their numbers
pub no_width_rule : (code : ℕ) (f : Fields) → code < 2 → (w wa wb wc : ℕ) → width_rules (kind_of code f) w wa wb wc ≡ []
unfolding kind_of
no_width_rule zero f h w wa wb wc = refl
no_width_rule (suc zero) f h w wa wb wc = refl
no_width_rule (suc (suc n)) f h w wa wb wc = absurd (omega arith)

pub one_width_rule : (code : ℕ) (f : Fields) → 2 ≤ code → code < 4 → (w wa wb wc : ℕ) → width_rules (kind_of code f) w wa wb wc ≡ equal wa w ∷ []
unfolding kind_of
one_width_rule zero f l h w wa wb wc = absurd (omega arith)
one_width_rule (suc zero) f l h w wa wb wc = absurd (omega arith)
one_width_rule (suc (suc zero)) f l h w wa wb wc = refl
one_width_rule (suc (suc (suc zero))) f l h w wa wb wc = refl
one_width_rule (suc (suc (suc (suc n)))) f l h w wa wb wc = absurd (omega arith)

-- a shift uses one operand and k, which has to be below its width
pub record Shift (code : ℕ) (f : Fields) : Type 0 where
  pub uses : uses_of (kind_of code f) ≡ one f.a f.k 0 gate
  pub widths : (w wa wb wc : ℕ) → width_rules (kind_of code f) w wa wb wc ≡ equal wa w ∷ below f.k w ∷ []

pub shifts : (code : ℕ) (f : Fields) → test_all (shift_range code) ≡ true → Shift code f
unfolding kind_of
shifts code f t = let r = tests_hold (shift_range code) t in go (code - 15) (omega (arith, r.1.0)) (omega (arith, r.0))
  where
    go : (n : ℕ) → n < 3 → code ≡ 15 + n → Shift code f
    go zero g e = rw e (record { uses = refl; widths = λ w wa wb wc. refl })
    go (suc zero) g e = rw e (record { uses = refl; widths = λ w wa wb wc. refl })
    go (suc (suc zero)) g e = rw e (record { uses = refl; widths = λ w wa wb wc. refl })
    go (suc (suc (suc n))) g e = absurd (omega arith)

-- the kinds from 5 on, but for the mux and the shifts, use two operands; their width rules, by their numbers
abbrev pub two_rules : ℕ → ℕ → ℕ → ℕ → List Rule
two_rules code w wa wb =
    cond (eqb code 5) (equal (wa + wb) w ∷ [])
    (cond (ltb code 13) (equal wa w ∷ equal wb w ∷ []) (equal wa wb ∷ equal w 1 ∷ []))

pub record TwoOperands (code : ℕ) (f : Fields) : Type 0 where
  pub uses : uses_of (kind_of code f) ≡ two f.a f.b
  pub widths : (w wa wb wc : ℕ) → width_rules (kind_of code f) w wa wb wc ≡ two_rules code w wa wb

abbrev five_on : ℕ → ℕ
five_on n = suc (suc (suc (suc (suc n))))

from_10 : (n : ℕ) (f : Fields) → five_on (five_on n) < kind_count → test_all (shift_range (five_on (five_on n))) ≡ false → TwoOperands (five_on (five_on n)) f
unfolding kind_of
from_10 zero f h s = record { uses = refl; widths = λ w wa wb wc. refl }
from_10 (suc zero) f h s = record { uses = refl; widths = λ w wa wb wc. refl }
from_10 (suc (suc zero)) f h s = record { uses = refl; widths = λ w wa wb wc. refl }
from_10 (suc (suc (suc zero))) f h s = record { uses = refl; widths = λ w wa wb wc. refl }
from_10 (suc (suc (suc (suc zero)))) f h s = record { uses = refl; widths = λ w wa wb wc. refl }
from_10 (suc (suc (suc (suc (suc zero))))) f h s = absurd (false≢true (sym s))
from_10 (suc (suc (suc (suc (suc (suc zero)))))) f h s = absurd (false≢true (sym s))
from_10 (suc (suc (suc (suc (suc (suc (suc zero))))))) f h s = absurd (false≢true (sym s))
from_10 (suc (suc (suc (suc (suc (suc (suc (suc zero)))))))) f h s = record { uses = refl; widths = λ w wa wb wc. refl }
from_10 (suc (suc (suc (suc (suc (suc (suc (suc (suc n))))))))) f h s = absurd (omega arith)

from_5 : (n : ℕ) (f : Fields) → five_on n < kind_count → test_all (shift_range (five_on n)) ≡ false → (five_on n ≡ 9 → ⊥) → TwoOperands (five_on n) f
unfolding kind_of
from_5 zero f h s g = record { uses = refl; widths = λ w wa wb wc. refl }
from_5 (suc zero) f h s g = record { uses = refl; widths = λ w wa wb wc. refl }
from_5 (suc (suc zero)) f h s g = record { uses = refl; widths = λ w wa wb wc. refl }
from_5 (suc (suc (suc zero))) f h s g = record { uses = refl; widths = λ w wa wb wc. refl }
from_5 (suc (suc (suc (suc zero)))) f h s g = absurd (g refl)
from_5 (suc (suc (suc (suc (suc n))))) f h s g = from_10 n f h s

pub two_operands : (code : ℕ) (f : Fields) → 5 ≤ code → code < kind_count → test_all (shift_range code) ≡ false → (code ≡ 9 → ⊥) → TwoOperands code f
two_operands zero f l h s g = absurd (omega arith)
two_operands (suc zero) f l h s g = absurd (omega arith)
two_operands (suc (suc zero)) f l h s g = absurd (omega arith)
two_operands (suc (suc (suc zero))) f l h s g = absurd (omega arith)
two_operands (suc (suc (suc (suc zero)))) f l h s g = absurd (omega arith)
two_operands (suc (suc (suc (suc (suc n))))) f l h s g = from_5 n f h s g

-- a kind is the one with its number and the fields that it uses
abbrev pub used_fields : Uses → Fields
used_fields u = record { a = u.a; b = u.b; c = u.c; k = u.k }

pub kind_back : (k : Kind) → kind_of (code_of k) (used_fields (uses_of k)) ≡ k
unfolding kind_of
kind_back Input = refl
kind_back (Constant k) = refl
kind_back (Register a k) = refl
kind_back (Output a) = refl
kind_back (Extract a k) = refl
kind_back (Concat a b) = refl
kind_back (And a b) = refl
kind_back (Or a b) = refl
kind_back (Xor a b) = refl
kind_back (Mux a b c) = refl
kind_back (Add a b) = refl
kind_back (Sub a b) = refl
kind_back (Mul a b) = refl
kind_back (Equal a b) = refl
kind_back (Below a b) = refl
kind_back (LeftShift a k) = refl
kind_back (RightShift a k) = refl
kind_back (ArithmeticRightShift a k) = refl
kind_back (SignedBelow a b) = refl

-- a constant is the kind with its k
pub constant_kind : (kind : Kind) → is_constant kind ≡ true → kind ≡ Constant (uses_of kind).k
unfolding kind_of
constant_kind kind e = sym (kind_back kind) ∙ ap (λ (code : ℕ). kind_of code (used_fields (uses_of kind))) (eqb-true (code_of kind) 1 e)

pub code_low : (k : Kind) → code_of k < kind_count
code_low Input = lit< tt
code_low (Constant k) = lit< tt
code_low (Register a k) = lit< tt
code_low (Output a) = lit< tt
code_low (Extract a k) = lit< tt
code_low (Concat a b) = lit< tt
code_low (And a b) = lit< tt
code_low (Or a b) = lit< tt
code_low (Xor a b) = lit< tt
code_low (Mux a b c) = lit< tt
code_low (Add a b) = lit< tt
code_low (Sub a b) = lit< tt
code_low (Mul a b) = lit< tt
code_low (Equal a b) = lit< tt
code_low (Below a b) = lit< tt
code_low (LeftShift a k) = lit< tt
code_low (RightShift a k) = lit< tt
code_low (ArithmeticRightShift a k) = lit< tt
code_low (SignedBelow a b) = lit< tt

-- and the number of a kind that a number below 19 gives is that number
pub code_back : (code : ℕ) (f : Fields) → code < kind_count → code_of (kind_of code f) ≡ code
unfolding words_of words_from kind_of
code_back code f h = sym (get_or-map code_of (kinds f) code Input) ∙ words_of-word_at (λ n. n) kind_count code h

-- the operand fields are the operands, and 0 where there is none
pub record Padded (u : Uses) : Type 0 where
  pub first : u.a ≡ get_or (operands_of u) 0 0
  pub second : u.b ≡ get_or (operands_of u) 1 0
  pub third : u.c ≡ get_or (operands_of u) 2 0

pub padded : (k : Kind) → Padded (uses_of k)
unfolding operands_of
padded Input = record { first = refl; second = refl; third = refl }
padded (Constant k) = record { first = refl; second = refl; third = refl }
padded (Register a k) = record { first = refl; second = refl; third = refl }
padded (Output a) = record { first = refl; second = refl; third = refl }
padded (Extract a k) = record { first = refl; second = refl; third = refl }
padded (Concat a b) = record { first = refl; second = refl; third = refl }
padded (And a b) = record { first = refl; second = refl; third = refl }
padded (Or a b) = record { first = refl; second = refl; third = refl }
padded (Xor a b) = record { first = refl; second = refl; third = refl }
padded (Mux a b c) = record { first = refl; second = refl; third = refl }
padded (Add a b) = record { first = refl; second = refl; third = refl }
padded (Sub a b) = record { first = refl; second = refl; third = refl }
padded (Mul a b) = record { first = refl; second = refl; third = refl }
padded (Equal a b) = record { first = refl; second = refl; third = refl }
padded (Below a b) = record { first = refl; second = refl; third = refl }
padded (LeftShift a k) = record { first = refl; second = refl; third = refl }
padded (RightShift a k) = record { first = refl; second = refl; third = refl }
padded (ArithmeticRightShift a k) = record { first = refl; second = refl; third = refl }
padded (SignedBelow a b) = record { first = refl; second = refl; third = refl }

-- only a register has a register's role
pub register_kind : (kind : Kind) (a k : ℕ) → (uses_of kind).role ≡ register a k → kind ≡ Register a k
register_kind Input a k e = cc
register_kind (Constant l) a k e = cc
register_kind (Register b l) a k e = cc
register_kind (Output b) a k e = cc
register_kind (Extract b l) a k e = cc
register_kind (Concat b c) a k e = cc
register_kind (And b c) a k e = cc
register_kind (Or b c) a k e = cc
register_kind (Xor b c) a k e = cc
register_kind (Mux b c d) a k e = cc
register_kind (Add b c) a k e = cc
register_kind (Sub b c) a k e = cc
register_kind (Mul b c) a k e = cc
register_kind (Equal b c) a k e = cc
register_kind (Below b c) a k e = cc
register_kind (LeftShift b l) a k e = cc
register_kind (RightShift b l) a k e = cc
register_kind (ArithmeticRightShift b l) a k e = cc
register_kind (SignedBelow b c) a k e = cc

-- k is a word of 64 bits: it fits its record's width, is a place within its operand, or is below the operand's width
pub k_word : (kind : Kind) (w wa wb wc : ℕ) → AllHold (width_rules kind w wa wb wc) → (uses_of kind).word < 2 ^ 64 → wa ≤ 64 → (uses_of kind).k < 2 ^ 64
k_word Input w wa wb wc h g l = lit< tt
k_word (Constant k) w wa wb wc h g l = g
k_word (Register a k) w wa wb wc h g l = g
k_word (Output a) w wa wb wc h g l = lit< tt
k_word (Extract a k) w wa wb wc h g l = omega arith
k_word (Concat a b) w wa wb wc h g l = lit< tt
k_word (And a b) w wa wb wc h g l = lit< tt
k_word (Or a b) w wa wb wc h g l = lit< tt
k_word (Xor a b) w wa wb wc h g l = lit< tt
k_word (Mux a b c) w wa wb wc h g l = lit< tt
k_word (Add a b) w wa wb wc h g l = lit< tt
k_word (Sub a b) w wa wb wc h g l = lit< tt
k_word (Mul a b) w wa wb wc h g l = lit< tt
k_word (Equal a b) w wa wb wc h g l = lit< tt
k_word (Below a b) w wa wb wc h g l = lit< tt
k_word (LeftShift a k) w wa wb wc h g l = omega arith
k_word (RightShift a k) w wa wb wc h g l = omega arith
k_word (ArithmeticRightShift a k) w wa wb wc h g l = omega arith
k_word (SignedBelow a b) w wa wb wc h g l = lit< tt

-- #107: a kind with new numbers has the number that it had, and what it uses is what it used, with new numbers for its operands
pub renumbered_code : (new : ℕ → ℕ) (kind : Kind) → code_of (renumbered new kind) ≡ code_of kind
unfolding renumbered
renumbered_code new kind = code_back (code_of kind) _ (code_low kind)

abbrev pub new_uses : (ℕ → ℕ) → Uses → Uses
new_uses new u =
    let js = map new (operands_of u) in
    record { count = u.count; a = get_or js 0 0; b = get_or js 1 0; c = get_or js 2 0; k = u.k; word = u.word; role = new_role new u.role }

-- the operands are the old ones with new numbers
pub new_operands : (new : ℕ → ℕ) (u : Uses) → operands_of (new_uses new u) ≡ map new (operands_of u)
unfolding operands_of
new_operands new u = go u.count
  where
    first : ℕ → List ℕ
    first n = take n (u.a ∷ u.b ∷ u.c ∷ [])

    go : (n : ℕ) → take n (get_or (map new (first n)) 0 0 ∷ get_or (map new (first n)) 1 0 ∷ get_or (map new (first n)) 2 0 ∷ []) ≡ map new (first n)
    go zero = refl
    go (suc zero) = refl
    go (suc (suc zero)) = refl
    go (suc (suc (suc zero))) = refl
    go (suc (suc (suc (suc n)))) = refl

pub renumbered_uses : (new : ℕ → ℕ) (kind : Kind) → uses_of (renumbered new kind) ≡ new_uses new (uses_of kind)
unfolding renumbered kind_of operands_of
renumbered_uses new Input = refl
renumbered_uses new (Constant k) = refl
renumbered_uses new (Register a k) = refl
renumbered_uses new (Output a) = refl
renumbered_uses new (Extract a k) = refl
renumbered_uses new (Concat a b) = refl
renumbered_uses new (And a b) = refl
renumbered_uses new (Or a b) = refl
renumbered_uses new (Xor a b) = refl
renumbered_uses new (Mux a b c) = refl
renumbered_uses new (Add a b) = refl
renumbered_uses new (Sub a b) = refl
renumbered_uses new (Mul a b) = refl
renumbered_uses new (Equal a b) = refl
renumbered_uses new (Below a b) = refl
renumbered_uses new (LeftShift a k) = refl
renumbered_uses new (RightShift a k) = refl
renumbered_uses new (ArithmeticRightShift a k) = refl
renumbered_uses new (SignedBelow a b) = refl

-- its width rule is what it was, where each operand that it uses has the width that it had
module _ (new widths widths' : ℕ → ℕ) (w : ℕ) where
  pub widths_renumbered : (kind : Kind) → Each (λ j. widths' (new j) ≡ widths j) (operands_of (uses_of kind))
      → let u = uses_of kind in
      let u' = uses_of (renumbered new kind) in
      width_rules (renumbered new kind) w (widths' u'.a) (widths' u'.b) (widths' u'.c) ≡ width_rules kind w (widths u.a) (widths u.b) (widths u.c)
  unfolding renumbered kind_of operands_of
  widths_renumbered Input same = refl
  widths_renumbered (Constant k) same = refl
  widths_renumbered (Register a k) same = rw same.0
  widths_renumbered (Output a) same = rw same.0
  widths_renumbered (Extract a k) same = rw same.0
  widths_renumbered (Concat a b) same = rw (same.0, same.1.0)
  widths_renumbered (And a b) same = rw (same.0, same.1.0)
  widths_renumbered (Or a b) same = rw (same.0, same.1.0)
  widths_renumbered (Xor a b) same = rw (same.0, same.1.0)
  widths_renumbered (Mux a b c) same = rw (same.0, same.1.0, same.1.1.0)
  widths_renumbered (Add a b) same = rw (same.0, same.1.0)
  widths_renumbered (Sub a b) same = rw (same.0, same.1.0)
  widths_renumbered (Mul a b) same = rw (same.0, same.1.0)
  widths_renumbered (Equal a b) same = rw (same.0, same.1.0)
  widths_renumbered (Below a b) same = rw (same.0, same.1.0)
  widths_renumbered (LeftShift a k) same = rw same.0
  widths_renumbered (RightShift a k) same = rw same.0
  widths_renumbered (ArithmeticRightShift a k) same = rw same.0
  widths_renumbered (SignedBelow a b) same = rw (same.0, same.1.0)
