-- `board::load::next_word` meets its contract: a word times 1 or 0 by its role, and the first operand field is the one a register loads from.
-- Assumes nothing.
use mathlib.Core.Path.{◌≡◌, refl, ap, ◌∙◌}
use mathlib.Core.Bool.{cond}
use mathlib.Core.List.{List}
use Prim.Native.Nat.{ℕ, ◌*◌}
use native.Mathlib.Nat.{mul-one, mul-zero}
use native.Mathlib.Omega.{arith}
use Rattle.endian.specs.Lists.{word_at}
use Rattle.netlist.specs.Kinds.{uses_of, is_register}
use Rattle.netlist.specs.Layout.{design_of, count_of, fields_at, role_at}
use Rattle.netlist.specs.declared.record.Fields.{Fields}
use Rattle.netlist.specs.declared.record.Kind.{Kind}
use Rattle.netlist.specs.declared.record.Role.{Role}
use Rattle.netlist.specs.declared.record.Role.TheVariants.{Input, Register, Output, Gate}
use Rattle.netlist.proofs.KindLaws.{register_kind}
use Rattle.rules.specs.Lent.{LentAt}
use Rattle.result.proofs.Reading.{Inside, operands_in, fields_read}
use Rattle.clock.specs.Values.{next_word}
use Rattle.board.proofs.load.next_word.Goals as goal

-- the word of a role, where a is what a register of that role loads from
by_role : (values : List ℕ) (role : Role) (a : ℕ) → ((b k : ℕ) → role ≡ Register b k → a ≡ b)
    → word_at values a * cond (is_register role) 1 0 ≡ next_word values role
by_role values Input a h = mul-zero (word_at values a)
by_role values (Register b k) a h = mul-one (word_at values a) ∙ ap (word_at values) (h b k refl)
by_role values Output a h = mul-zero (word_at values a)
by_role values Gate a h = mul-zero (word_at values a)

-- the fields that have been read name records of the file
inside : {file values : List ℕ} {i : ℕ} {f : Fields} → LentAt file values i → f ≡ fields_at file i → Inside (count_of file) f
inside {file = file} {i = i} lent e = operands_in file lent.accepted i lent.below e

pub offset_bounds-values-a : goal.offset_bounds-values-a
unfolding design_of
offset_bounds-values-a c = omega (arith, (inside c.requires c.fields_at-fields.ensures).a, c.requires.accepted.sound.few)

pub bounds-values-a : goal.bounds-values-a
bounds-values-a c = omega (arith, (inside c.requires c.fields_at-fields.ensures).a, c.requires.size)

pub returns : goal.returns
unfolding design_of
returns c =
    let file = c.args.file.now in
    let i = c.args.i in
    let values = c.args.values.now in
    let read = c.fields_at-fields.result in
    let role = role_at (design_of file) i in
    let kind = ((design_of file).at i).kind in
    let loads : (b k : ℕ) → role ≡ Register b k → read.a ≡ b =
    λ b k e. ap (λ (f : Fields). f.a) (fields_read file c.requires.accepted i c.requires.below c.fields_at-fields.ensures)
    ∙ ap (λ (n : Kind). (uses_of n).a) (register_kind kind b k e) in
    ap (λ (n : ℕ). word_at values read.a * n) c.register_at.ensures ∙ by_role values role read.a loads
