-- The rules within a record: its width, operands, width rule, the limit of a multiplier, fields and words. What breaks them is refused with 7 to 10 and 15.
-- Assumes nothing.
use Rattle.std.specs.Prelude.{cond, List, [], ◌∷◌, ℕ, ◌^◌}
use Rattle.netlist.specs.Kinds.{uses_of, width_rules, is_multiplier, is_output, operands_of}
use Rattle.netlist.specs.Limits.{max_width, max_multiplier_width}
use Rattle.netlist.specs.Layout.{Design, role_at}
use Rattle.netlist.specs.Rules.{Rule, equal, below, at_most, is_not}
use Rattle.netlist.specs.declared.record.Fields.{Fields}
use Rattle.netlist.specs.declared.record.Kind.{Kind}
use Rattle.netlist.specs.declared.record.Record.{Record}
use Rattle.netlist.specs.declared.record.Role.{Role}
use Rattle.netlist.specs.declared.record.Role.TheVariants.{Input, Register, Output, Gate}
use Rattle.netlist.specs.declared.record.Uses.{Uses}

-- 7: "The width is 0 or above 64."
abbrev pub width_range : ℕ → List Rule
width_range w = at_most 1 w ∷ at_most w max_width ∷ []

-- 8: "A used operand is not below n for a register, or not below the record's own number for any other kind, or names an output."
abbrev pub operand_limit : Role → ℕ → ℕ → ℕ
operand_limit Input n i = i
operand_limit (Register a k) n i = n
operand_limit Output n i = i
operand_limit Gate n i = i

unfoldable pub names_rules : Design → ℕ → List ℕ → List Rule
names_rules d limit [] = []
names_rules d limit (j ∷ js) = below j limit ∷ is_not (is_output (role_at d j)) ∷ names_rules d limit js

unfoldable pub operand_rules : Design → ℕ → List Rule
operand_rules d i =
    let u = uses_of (d.at i).kind in
    names_rules d (operand_limit u.role d.count i) (operands_of u)

-- 9: "The width rule of the kind is broken."
unfoldable pub width_rules_at : Design → ℕ → List Rule
width_rules_at d i =
    let u = uses_of (d.at i).kind in
    width_rules (d.at i).kind (d.at i).width (d.at u.a).width (d.at u.b).width (d.at u.c).width

-- 15: "when a multiplier is wider than 32 bits, directly after 9 in that record".
abbrev pub multiplier_rules : Kind → ℕ → List Rule
multiplier_rules kind w = cond (is_multiplier kind) (at_most w max_multiplier_width ∷ []) []

-- 10: "An unused operand or unused k is not zero": each field is the one that the kind uses, or 0.
unfoldable pub field_rules : Fields → Uses → List Rule
field_rules f u = equal f.a u.a ∷ equal f.b u.b ∷ equal f.c u.c ∷ equal f.k u.k ∷ []

-- 10: "or the keep word, or the k of a constant or register, has a bit at w or above."
unfoldable pub word_rules : Record → List Rule
word_rules r = below r.keep (2 ^ r.width) ∷ below (uses_of r.kind).word (2 ^ r.width) ∷ []
