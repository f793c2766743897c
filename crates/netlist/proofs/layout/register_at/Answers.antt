-- `netlist::layout::register_at` meets its contract: two bytes differ in no bit where they are equal, and in some bit where they are not.
-- Assumes nothing.
use mathlib.Core.Path.{◌≡◌, refl, sym, ap, ◌∙◌}
use mathlib.Core.Bool.{Bool, true, false, cond}
use Prim.Native.Nat.{ℕ, ◌-◌, ◌/◌, ◌^◌, ◌≤◌, ◌<◌}
use native.Mathlib.Omega.{arith}
use borrow.Author.Tests.{eqb-true, eqb-false}
use lib.Bits.{bit_xor, and_le_l, and_le_r, xor_self, xor_add_and, xor_lt}
use lib.Dec.{eqb, lit<}
use Rattle.netlist.specs.Layout.{code_at, fields_at, byte_at, record_at, design_of}
use Rattle.netlist.proofs.KindLaws.{register_code}
use Rattle.netlist.proofs.layout.register_at.Goals as goal

-- the quotient tells whether two bytes are equal
equal-bytes : (x y : ℕ) → x < 2 ^ 8 → y < 2 ^ 8 → (256 - bit_xor x y) / 256 ≡ cond (eqb x y) 1 0
equal-bytes x y h g = go (eqb x y) refl
  where
    go : (t : Bool) → eqb x y ≡ t → (256 - bit_xor x y) / 256 ≡ cond t 1 0
    go true e = ap (λ (n : ℕ). (256 - bit_xor n y) / 256) (eqb-true x y e) ∙ ap (λ (n : ℕ). (256 - n) / 256) (xor_self y)
    go false e =
        let unequal = eqb-false x y e in
        let some : 1 ≤ bit_xor x y = omega (arith, unequal, xor_add_and x y, and_le_l x y, and_le_r x y) in
        omega (arith, some)

pub overflow_sub-result : goal.overflow_sub-result
overflow_sub-result c =
    let small = c.type_inv.file c.record_start-at.result in
    let e = c.from.ensures in
    let l = xor_lt 8 c.from.result 2 (omega arith) (lit< tt) in
    omega (arith, l)

pub returns : goal.returns
unfolding design_of record_at code_at
returns c =
    let file = c.args.file.now in
    let start = c.record_start-at in
    let small = c.type_inv.file start.result in
    ap (λ (n : ℕ). (256 - bit_xor n 2) / 256) c.from.ensures
    ∙ equal-bytes (byte_at file start.result) 2 (omega arith) (lit< tt)
    ∙ ap (λ (n : ℕ). cond (eqb (byte_at file n) 2) 1 0) start.ensures
    ∙ ap (λ (t : Bool). cond t 1 0) (sym (register_code (code_at file c.args.i) (fields_at file c.args.i)))
