-- The part of a design that a test picks: what each of its records is, and that it is sound where it has all that its records name.
-- Assumes nothing.
use mathlib.Core.Path.{◌≡◌, refl, sym, ap, subst, ◌∙◌}
use mathlib.Core.Bool.{Bool, true}
use Prim.Native.Nat.{ℕ, ◌^◌, ◌≤◌, ◌<◌}
use native.Mathlib.Omega.{arith}
use Rattle.netlist.specs.Kinds.{uses_of, operands_of, is_output, renumbered}
use Rattle.netlist.specs.Layout.{Design, role_at}
use Rattle.netlist.specs.Limits.{max_width}
use Rattle.netlist.specs.Picked.{rank_of}
use Rattle.netlist.specs.Rules.{AllHold}
use Rattle.netlist.specs.declared.record.Record.{Record}
use Rattle.netlist.specs.declared.record.Role.{Role}
use Rattle.netlist.specs.declared.record.Role.TheVariants.{Input, Register, Output, Gate}
use Rattle.netlist.specs.declared.record.Uses.{Uses}
use Rattle.netlist.proofs.KindLaws.{new_uses, new_operands, renumbered_code, renumbered_uses, widths_renumbered}
use Rattle.netlist.proofs.OperandLists.{Each, each_more, each_both}
use Rattle.netlist.proofs.PickedLaws.{rank_le, rank_lt, place_rank, Ranked, ranked}
use Rattle.netlist.proofs.RoleLaws.{new_role, new_output}
use Rattle.rules.specs.Fit.{operand_limit, names_rules, operand_rules, width_rules_at, multiplier_rules}
use Rattle.rules.specs.Sound.{Sound, SoundRecord, SameDesign}
use Rattle.rules.proofs.SoundLaws.{Nameable, names_each, each_names, limit_count}
use Rattle.compact.specs.Part.{renumbered_record, part}

-- a design has just the records of another that a test picks, in their order and with new numbers
pub record PartOf (test : ℕ → Bool) (d e : Design) : Type 0 where
  pub count : e.count ≡ rank_of test d.count
  pub each : (i : ℕ) → i < d.count → test i ≡ true → e.at (rank_of test i) ≡ renumbered_record (rank_of test) (d.at i)

pub part_of : (test : ℕ → Bool) (d : Design) → PartOf test d (part test d)
unfolding part
part_of test d =
    record {
      count = refl;
      each = λ i h e. ap (λ (j : ℕ). renumbered_record (rank_of test) (d.at j)) (place_rank test d.count i h e);
    }

-- it has no more records, and each that is picked has its rank there
module _ {test : ℕ → Bool} {d e : Design} (p : PartOf test d e) where
  pub part_few : e.count ≤ d.count
  part_few = let q = p.count in let l = rank_le test d.count in omega arith

  pub part_below : (i : ℕ) → i < d.count → test i ≡ true → rank_of test i < e.count
  part_below i h t = let q = p.count in let l = rank_lt test i d.count h t in omega arith

  -- a design that is the same in all its records is such a part too
  pub part_same : (f : Design) → SameDesign e f → PartOf test d f
  part_same f same =
      record {
        count = sym same.count ∙ p.count;
        each = λ i h t. sym (same.each (rank_of test i) (part_below i h t)) ∙ p.each i h t;
      }

-- what its records are
module _ {test : ℕ → Bool} {d e : Design} (p : PartOf test d e) (i : ℕ) (h : i < d.count) (t : test i ≡ true) where
  pub width_part : (e.at (rank_of test i)).width ≡ (d.at i).width
  width_part = ap (λ (r : Record). r.width) (p.each i h t)

  pub kind_part : (e.at (rank_of test i)).kind ≡ renumbered (rank_of test) (d.at i).kind
  kind_part = ap (λ (r : Record). r.kind) (p.each i h t)

  pub uses_part : uses_of (e.at (rank_of test i)).kind ≡ new_uses (rank_of test) (uses_of (d.at i).kind)
  uses_part = ap uses_of kind_part ∙ renumbered_uses (rank_of test) (d.at i).kind

  pub role_part : role_at e (rank_of test i) ≡ new_role (rank_of test) (role_at d i)
  role_part = ap (λ (u : Uses). u.role) uses_part

-- a part has all that its records name
abbrev pub NamesInside : (ℕ → Bool) → Design → Type 0
NamesInside test d = (i : ℕ) → i < d.count → test i ≡ true → Each (λ j. test j ≡ true) (operands_of (uses_of (d.at i).kind))

-- an operand below its limit has a new number below the new limit
limit_part : (test : ℕ → Bool) (n i j : ℕ) (role : Role) → test j ≡ true → j < operand_limit role n i
    → rank_of test j < operand_limit (new_role (rank_of test) role) (rank_of test n) (rank_of test i)
limit_part test n i j Input t l = rank_lt test j i l t
limit_part test n i j (Register a k) t l = rank_lt test j n l t
limit_part test n i j Output t l = rank_lt test j i l t
limit_part test n i j Gate t l = rank_lt test j i l t

module _ (test : ℕ → Bool) (d e : Design) (s : Sound d) (inside : NamesInside test d) (p : PartOf test d e) where
  module _ (i : ℕ) (h : i < d.count) (t : test i ≡ true) where
    abbrev new : ℕ → ℕ
    new = rank_of test

    abbrev u : Uses
    u = uses_of (d.at i).kind

    -- each operand: below its limit, no output, and in the part
    operand : Each (λ j. Nameable d (operand_limit u.role d.count i) j × (test j ≡ true)) (operands_of u)
    unfolding operand_rules
    operand =
        each_both (Nameable d (operand_limit u.role d.count i)) (λ j. test j ≡ true) (operands_of u)
        (names_each d (operand_limit u.role d.count i) (operands_of u) (s.each i h).operands) (inside i h t)

    low : (j : ℕ) → Nameable d (operand_limit u.role d.count i) j → j < d.count
    low j n = let l = limit_count d s i h in let b = n.0 in omega arith

    names_part : AllHold (operand_rules e (new i))
    unfolding operand_rules
    names_part =
        subst (λ (v : Uses). AllHold (names_rules e (operand_limit v.role e.count (new i)) (operands_of v))) (sym (uses_part p i h t))
        (subst (λ (n : ℕ). AllHold (names_rules e (operand_limit (new_role new u.role) n (new i)) (operands_of (new_uses new u)))) (sym p.count)
        (rw (new_operands new u)
        (each_names e _ new (operands_of u)
        (each_more
        (λ j n. (
          limit_part test d.count i j u.role n.1 n.0.0,
          ap is_output (role_part p j (low j n.0) n.1) ∙ new_output new (role_at d j) ∙ n.0.1,
        ))
        (operands_of u) operand))))

    widths_part : AllHold (width_rules_at e (new i))
    unfolding width_rules_at
    widths_part =
        rw (
          kind_part p i h t,
          width_part p i h t,
          widths_renumbered new (λ j. (d.at j).width) (λ j. (e.at j).width) (d.at i).width (d.at i).kind
              (each_more (λ j n. width_part p j (low j n.0) n.1) (operands_of u) operand),
        )
        (s.each i h).widths

    record_part : SoundRecord e (new i)
    record_part =
        let r = s.each i h in
        let q = sym (p.each i h t) in
        record {
          positive = subst (λ (r : Record). 1 ≤ r.width) q r.positive;
          narrow = subst (λ (r : Record). r.width ≤ max_width) q r.narrow;
          operands = names_part;
          widths = widths_part;
          multiplier = multiplier_part;
          keep = subst (λ (r : Record). r.keep < 2 ^ r.width) q r.keep;
          word = word_part;
        }
      where
        multiplier_part : AllHold (multiplier_rules (e.at (new i)).kind (e.at (new i)).width)
        multiplier_part = rw (kind_part p i h t, width_part p i h t, renumbered_code new (d.at i).kind) (s.each i h).multiplier

        word_part : (uses_of (e.at (new i)).kind).word < 2 ^ (e.at (new i)).width
        word_part = rw (uses_part p i h t, width_part p i h t) (s.each i h).word

  -- such a part of a sound design is sound
  pub part_sound : Sound e
  part_sound =
      record {
        few = let l = part_few p in let f = s.few in omega arith;
        each = λ r l. go r (ranked test d.count r (let q = p.count in omega arith));
      }
    where
      go : (r : ℕ) → Ranked test d.count r → SoundRecord e r
      go r t = subst (SoundRecord e) t.rank (record_part t.place t.below t.picks)
