-- The verdicts of the header's rules and of a record's rules, as the tests of what the code reads, in their order.
-- Assumes nothing.
use mathlib.Core.Path.{◌≡◌}
use mathlib.Core.Bool.{cond, and-true}
use mathlib.Core.List.{List, [], ◌∷◌}
use Prim.Native.Nat.{ℕ, ◌^◌}
use lib.Dec.{eqb, leb, ltb}
use lib.ListN.{length}
use Rattle.std.specs.Prelude.{Ok, Err}
use Rattle.netlist.specs.Kinds.{kind_of, operands_of, uses_of, width_rules}
use Rattle.netlist.specs.Layout.{design_of, record_at, header_size, record_start, count_of, version_of, code_at, width_at, fields_at, keep_at}
use Rattle.netlist.specs.Limits.{kind_count, max_count}
use Rattle.netlist.specs.Rules.{test_all, below}
use Rattle.netlist.specs.declared.refusal.Refusal.TheVariants.{TooShort, BadMark, BadVersion, TooManyRecords, BadLength, BadKind, BadWidth, BadOperand, BadWidthRule, WideMultiplier, UnusedBit}
use Rattle.rules.specs.Fit.{width_range, multiplier_rules, field_rules, width_rules_at, operand_rules, operand_limit, names_rules, word_rules}
use Rattle.rules.specs.Check.{first_broken, header_rules, mark_rules, record_rules}

pub header_verdict : (file : List ℕ) → first_broken (header_rules file) ≡
    cond (leb header_size (length file)) (cond (test_all (mark_rules file)) (cond (eqb (version_of file) 1) (cond (leb (count_of file) max_count)
    (cond (eqb (length file) (record_start (count_of file))) (Ok tt) (Err BadLength)) (Err TooManyRecords)) (Err BadVersion)) (Err BadMark)) (Err TooShort)
unfolding first_broken header_rules
header_verdict file = simp and-true

-- the rules of a record, as the tests of what was read of it
pub record_verdict : (file : List ℕ) (i : ℕ) → first_broken (record_rules file i) ≡
    (let code = code_at file i in
    let w = width_at file i in
    let f = fields_at file i in
    let u = uses_of (kind_of code f) in
    cond (ltb code kind_count) (cond (test_all (width_range w))
    (cond (test_all (names_rules (design_of file) (operand_limit u.role (count_of file) i) (operands_of u)))
    (cond (test_all (width_rules (kind_of code f) w (width_at file u.a) (width_at file u.b) (width_at file u.c)))
    (cond (test_all (multiplier_rules (kind_of code f) w)) (cond (test_all (field_rules f u))
    (cond (test_all (below (keep_at file i) (2 ^ w) ∷ below u.word (2 ^ w) ∷ [])) (Ok tt) (Err UnusedBit)) (Err UnusedBit))
    (Err WideMultiplier)) (Err BadWidthRule)) (Err BadOperand)) (Err BadWidth)) (Err BadKind))
unfolding first_broken record_rules operand_rules width_rules_at word_rules design_of record_at
record_verdict file i = simp and-true
