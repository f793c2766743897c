-- Laws of sound designs: operand fields name records of the design, k fits a word, a register has the width of its a, and a design that is
-- the same in all its records is sound too. Assumes nothing.
use mathlib.Core.Path.{◌≡◌, sym, ap, subst, ◌∙◌}
use mathlib.Core.List.{List, [], ◌∷◌, map}
use mathlib.Core.Bool.{false}
use Prim.Native.Nat.{ℕ, ◌^◌, ◌≤◌, ◌<◌}
use native.Mathlib.Nat.{lt_of_lt_of_le}
use native.Mathlib.Omega.{arith}
use lib.Pow.{pow_mono}
use Rattle.netlist.specs.Limits.{max_width}
use Rattle.netlist.specs.Kinds.{operands_of, is_output, uses_of, width_rules}
use Rattle.netlist.specs.Layout.{Design, role_at}
use Rattle.netlist.specs.Rules.{AllHold}
use Rattle.netlist.specs.declared.record.Kind.{Kind}
use Rattle.netlist.specs.declared.record.Record.{Record}
use Rattle.netlist.specs.declared.record.Role.TheVariants.{Register as register}
use Rattle.netlist.specs.declared.record.Uses.{Uses}
use Rattle.netlist.proofs.KindLaws.{padded, register_kind, k_word}
use Rattle.netlist.proofs.OperandLists.{Each}
use Rattle.netlist.proofs.Tests.{hold_tests}
use Rattle.rules.specs.Fit.{operand_limit, names_rules, operand_rules, width_rules_at, multiplier_rules}
use Rattle.rules.specs.Sound.{Sound, SoundRecord, SameDesign}
use Rattle.rules.proofs.OperandLaws.{operand_below}
use Rattle.rules.proofs.CheckLaws.{limit_le}

-- the operand fields of what a kind uses lie below n
pub record OperandsBelow (u : Uses) (n : ℕ) : Type 0 where
  pub a : u.a < n
  pub b : u.b < n
  pub c : u.c < n

module _ (d : Design) (s : Sound d) (i : ℕ) (h : i < d.count) where
  pub limit_count : operand_limit (uses_of (d.at i).kind).role d.count i ≤ d.count
  limit_count = limit_le (uses_of (d.at i).kind).role d.count i (omega arith)

  pub operands_below : OperandsBelow (uses_of (d.at i).kind) d.count
  unfolding operand_rules
  operands_below =
      let u = uses_of (d.at i).kind in
      let p = padded (d.at i).kind in
      let below = operand_below d (operand_limit u.role d.count i) d.count (operands_of u) limit_count (omega arith)
      (hold_tests (operand_rules d i) (s.each i h).operands) in
      record {
        a = subst (λ (j : ℕ). j < d.count) (sym p.first) (below 0);
        b = subst (λ (j : ℕ). j < d.count) (sym p.second) (below 1);
        c = subst (λ (j : ℕ). j < d.count) (sym p.third) (below 2);
      }

  -- a word within a record's width is a word of 64 bits
  pub word_64 : (x : ℕ) → x < 2 ^ (d.at i).width → x < 2 ^ 64
  word_64 x g = lt_of_lt_of_le g (pow_mono (s.each i h).narrow)

pub k_64 : (d : Design) (s : Sound d) (i : ℕ) (h : i < d.count) → (uses_of (d.at i).kind).k < 2 ^ 64
unfolding width_rules_at
k_64 d s i h =
    let u = uses_of (d.at i).kind in
    let r = s.each i h in
    k_word (d.at i).kind (d.at i).width (d.at u.a).width (d.at u.b).width (d.at u.c).width r.widths
    (word_64 d s i h u.word r.word) (s.each u.a (operands_below d s i h).a).narrow

-- a register's a is a record of the design and has the register's width, and its reset state has no more bits
pub record Loads (d : Design) (i a k : ℕ) : Type 0 where
  pub below : a < d.count
  pub width : (d.at a).width ≡ (d.at i).width
  pub reset : k < 2 ^ (d.at i).width

pub register_loads : (d : Design) (s : Sound d) (i : ℕ) (h : i < d.count) (a k : ℕ) → role_at d i ≡ register a k → Loads d i a k
unfolding width_rules_at
register_loads d s i h a k e =
    let q = register_kind (d.at i).kind a k e in
    record {
      below = subst (λ (kind : Kind). (uses_of kind).a < d.count) q (operands_below d s i h).a;
      width =
          (subst
          (λ (kind : Kind). AllHold (let u = uses_of kind in width_rules kind (d.at i).width (d.at u.a).width (d.at u.b).width (d.at u.c).width))
          q (s.each i h).widths).0;
      reset = subst (λ (kind : Kind). (uses_of kind).word < 2 ^ (d.at i).width) q (s.each i h).word;
    }

-- what the operands' rules say of each operand
abbrev pub Nameable : Design → ℕ → ℕ → Type 0
Nameable d limit j = (j < limit) × (is_output (role_at d j) ≡ false)

pub names_each : (d : Design) (limit : ℕ) (js : List ℕ) → AllHold (names_rules d limit js) → Each (Nameable d limit) js
unfolding names_rules
names_each d limit [] a = tt
names_each d limit (j ∷ js) a = ((a.0, a.1.0), names_each d limit js a.1.1)

-- and of operands with new numbers
pub each_names : (e : Design) (limit : ℕ) (new : ℕ → ℕ) (js : List ℕ) → Each (λ j. Nameable e limit (new j)) js → AllHold (names_rules e limit (map new js))
unfolding names_rules
each_names e limit new [] a = tt
each_names e limit new (j ∷ js) a = (a.0.0, (a.0.1, each_names e limit new js a.1))

-- the rules look only at which records below the limit are outputs
pub names_same : (d e : Design) (limit : ℕ) → ((j : ℕ) → j < limit → is_output (role_at d j) ≡ is_output (role_at e j)) → (js : List ℕ)
    → AllHold (names_rules d limit js) → AllHold (names_rules e limit js)
unfolding names_rules
names_same d e limit same [] a = tt
names_same d e limit same (j ∷ js) a = (a.0, (sym (same j a.0) ∙ a.1.0, names_same d e limit same js a.1.1))

module _ (d e : Design) (same : SameDesign d e) (s : Sound d) (i : ℕ) (h : i < d.count) where
  operands_same : AllHold (operand_rules e i)
  unfolding operand_rules
  operands_same =
      subst (λ (r : Record). AllHold (names_rules e (operand_limit (uses_of r.kind).role e.count i) (operands_of (uses_of r.kind)))) (same.each i h)
      (subst (λ (n : ℕ). AllHold (names_rules e (operand_limit (uses_of (d.at i).kind).role n i) (operands_of (uses_of (d.at i).kind)))) same.count
      (names_same d e (operand_limit (uses_of (d.at i).kind).role d.count i)
      (λ j g. ap (λ (r : Record). is_output (uses_of r.kind).role) (same.each j (let l = limit_count d s i h in omega arith)))
      (operands_of (uses_of (d.at i).kind)) (s.each i h).operands))

  widths_same : AllHold (width_rules_at e i)
  unfolding width_rules_at
  widths_same =
      let b = operands_below d s i h in
      subst (λ (r : Record). AllHold (let u = uses_of r.kind in width_rules r.kind r.width (e.at u.a).width (e.at u.b).width (e.at u.c).width))
      (same.each i h)
      (rw (sym (same.each _ b.a), sym (same.each _ b.b), sym (same.each _ b.c)) (s.each i h).widths)

  pub record_same : SoundRecord e i
  record_same =
      let r = s.each i h in
      let q = same.each i h in
      record {
        positive = subst (λ (r : Record). 1 ≤ r.width) q r.positive;
        narrow = subst (λ (r : Record). r.width ≤ max_width) q r.narrow;
        operands = operands_same;
        widths = widths_same;
        multiplier = subst (λ (r : Record). AllHold (multiplier_rules r.kind r.width)) q r.multiplier;
        keep = subst (λ (r : Record). r.keep < 2 ^ r.width) q r.keep;
        word = subst (λ (r : Record). (uses_of r.kind).word < 2 ^ r.width) q r.word;
      }
