-- Laws of the check: the order of the rules, a verdict from the tests made so far, and the rules of a record as the code has them at hand.
-- Assumes nothing.
use mathlib.Core.Path.{◌≡◌, refl, sym, ap, ◌∙◌}
use mathlib.Core.Bool.{Bool, true, false, cond}
use mathlib.Core.List.{List, [], ◌∷◌}
use Prim.Native.Nat.{ℕ, suc, ◌+◌, ◌-◌, ◌^◌, ◌≤◌, ◌<◌}
use native.Mathlib.Nat.{le_refl}
use native.Mathlib.Numerals.{add-one}
use native.Mathlib.Omega.{arith}
use Rattle.std.specs.Prelude.{Result, Ok, Err}
use Rattle.netlist.specs.Kinds.{kind_of, operands_of, uses_of, width_rules}
use Rattle.netlist.specs.Layout.{design_of, record_at, count_of, code_at, width_at, fields_at, keep_at}
use Rattle.netlist.specs.Refusals.{number_of}
use Rattle.netlist.specs.Rules.{Rule, below, test_all, AllHold}
use Rattle.netlist.specs.declared.refusal.Refusal.{Refusal}
use Rattle.netlist.specs.declared.record.Fields.{Fields}
use Rattle.netlist.specs.declared.record.Role.{Role}
use Rattle.netlist.specs.declared.record.Role.TheVariants.{Input, Register, Output, Gate}
use Rattle.netlist.specs.declared.record.Uses.{Uses}
use Rattle.netlist.proofs.Tests.{tests_hold, hold_tests}
use Rattle.rules.specs.Fit.{operand_limit, names_rules, operand_rules, width_rules_at, word_rules}
use Rattle.rules.specs.Check.{header_rules, record_rules, first_broken, refuse_at, check_from}

-- "What is refused, in checking order": the refusals are tried in the order of their numbers, but for 15, "directly after 9"
abbrev pub numbers_of : List (Refusal × List Rule) → List ℕ
numbers_of [] = []
numbers_of (e ∷ es) = number_of e.0 ∷ numbers_of es

pub header_order : (file : List ℕ) → numbers_of (header_rules file) ≡ 1 ∷ 2 ∷ 3 ∷ 4 ∷ 5 ∷ []
unfolding header_rules
header_order file = refl

pub record_order : (file : List ℕ) (i : ℕ) → numbers_of (record_rules file i) ≡ 6 ∷ 7 ∷ 8 ∷ 9 ∷ 15 ∷ 10 ∷ 10 ∷ []
unfolding record_rules
record_order file i = refl

-- rules that hold leave the verdict to those after them; rules that do not are the verdict
pub holding : (e : Refusal × List Rule) (es : List (Refusal × List Rule)) {v : Result (Unit {0}) Refusal} → test_all e.1 ≡ true → v ≡ first_broken es → v ≡ first_broken (e ∷ es)
unfolding first_broken
holding e es p q = q ∙ ap (λ (t : Bool). cond t (first_broken es) (Err e.0)) (sym p)

pub broken : (e : Refusal × List Rule) (es : List (Refusal × List Rule)) → test_all e.1 ≡ false → Err e.0 ≡ first_broken (e ∷ es)
unfolding first_broken
broken e es p = ap (λ (t : Bool). cond t (first_broken es) (Err e.0)) (sym p)

pub none_broken : Ok tt ≡ first_broken []
unfolding first_broken
none_broken = refl

-- a list of rules passes just where all of its rules hold
abbrev pub Kept : List (Refusal × List Rule) → Type 0
Kept [] = Unit {0}
Kept (e ∷ es) = AllHold e.1 × Kept es

pub pass_kept : (es : List (Refusal × List Rule)) → first_broken es ≡ Ok tt → Kept es
unfolding first_broken
pass_kept [] p = tt
pass_kept (e ∷ es) p = go (test_all e.1) refl p (pass_kept es)
  where
    go : (t : Bool) → test_all e.1 ≡ t → cond t (first_broken es) (Err e.0) ≡ Ok tt → (first_broken es ≡ Ok tt → Kept es) → Kept (e ∷ es)
    go true q p rest = (tests_hold e.1 q, rest p)
    go false q p rest = cc

pub kept_pass : (es : List (Refusal × List Rule)) → Kept es → Ok tt ≡ first_broken es
kept_pass [] k = none_broken
kept_pass (e ∷ es) k = holding e es (hold_tests e.1 k.0) (kept_pass es k.1)

-- one record more is checked
pub check_step : (file : List ℕ) (n i : ℕ) → i < n → check_from file (n - i) i ≡ refuse_at i (first_broken (record_rules file i)) (check_from file (n - (i + 1)) (i + 1))
unfolding check_from
check_step file n i h =
    ap (λ (m : ℕ). check_from file m i) (let e : n - i ≡ suc (n - (i + 1)) = omega arith in e)
    ∙ ap (λ (m : ℕ). refuse_at i (first_broken (record_rules file i)) (check_from file (n - (i + 1)) m)) (sym (add-one i))

-- an operand's limit lies within the count
pub limit_le : (role : Role) (n i : ℕ) → i ≤ n → operand_limit role n i ≤ n
limit_le Input n i h = h
limit_le (Register a k) n i h = le_refl n
limit_le Output n i h = h
limit_le Gate n i h = h

-- what was read of a record, and what its kind uses, stand for the design's
module _ (file : List ℕ) (i : ℕ) (u : Uses) (eu : u ≡ uses_of (record_at file i).kind) where
  pub operand_rules_are : (n limit : ℕ) → n ≡ count_of file → limit ≡ operand_limit u.role n i → names_rules (design_of file) limit (operands_of u) ≡ operand_rules (design_of file) i
  unfolding operand_rules design_of
  operand_rules_are n limit en el = rw (el, en, eu)

  module _ (w : ℕ) (ew : w ≡ width_at file i) where
    pub width_rules_are : (code : ℕ) (f : Fields) → code ≡ code_at file i → f ≡ fields_at file i → (wa wb wc : ℕ) → wa ≡ width_at file u.a → wb ≡ width_at file u.b → wc ≡ width_at file u.c → width_rules (kind_of code f) w wa wb wc ≡ width_rules_at (design_of file) i
    unfolding width_rules_at design_of record_at
    width_rules_are code f ec ef wa wb wc ea eb e = rw (ea, eb, e, eu, ec, ef, ew)

    pub word_rules_are : (keep : ℕ) → keep ≡ keep_at file i → below keep (2 ^ w) ∷ below u.word (2 ^ w) ∷ [] ≡ word_rules ((design_of file).at i)
    unfolding word_rules design_of record_at
    word_rules_are keep ek = rw (ek, eu, ew)
