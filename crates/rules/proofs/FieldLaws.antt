-- The rule on fields says that a record's fields are just those that its kind uses.
-- Assumes nothing.
use mathlib.Core.Path.{◌≡◌}
use Rattle.netlist.specs.Rules.{AllHold}
use Rattle.netlist.specs.declared.record.Fields.{Fields}
use Rattle.netlist.specs.declared.record.Uses.{Uses}
use Rattle.netlist.proofs.KindLaws.{used_fields}
use Rattle.rules.specs.Fit.{field_rules}

pub fields_used : (f : Fields) (u : Uses) → AllHold (field_rules f u) → f ≡ used_fields u
unfolding field_rules
fields_used f u h =
    let a : f.a ≡ u.a = h.0 in
    let b : f.b ≡ u.b = h.1.0 in
    let c : f.c ≡ u.c = h.1.1.0 in
    let k : f.k ≡ u.k = h.1.1.1.0 in
    rw (a, b, c, k)
