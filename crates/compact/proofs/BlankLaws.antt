-- Constants in the place of records: what the records are then, and that a sound design stays sound where no output gives way to one.
-- Assumes nothing.
use mathlib.Core.Path.{◌≡◌, sym, ap, subst, ◌∙◌}
use mathlib.Core.Bool.{Bool, true, false, cond}
use Prim.Native.Nat.{ℕ, ◌^◌, ◌≤◌, ◌<◌}
use lib.Pow.{pow_pos}
use Rattle.netlist.specs.Kinds.{uses_of, operands_of, width_rules, is_output}
use Rattle.netlist.specs.Layout.{Design, role_at}
use Rattle.netlist.specs.Limits.{max_width}
use Rattle.netlist.specs.Rules.{AllHold}
use Rattle.netlist.specs.declared.record.Record.{Record}
use Rattle.netlist.proofs.Tests.{by_test}
use Rattle.rules.specs.Fit.{operand_limit, names_rules, operand_rules, width_rules_at, multiplier_rules}
use Rattle.rules.specs.Sound.{Sound, SoundRecord}
use Rattle.rules.proofs.SoundLaws.{names_same}
use Rattle.compact.specs.Survivors.{blank, with_blanks}

module _ (test : ℕ → Bool) (d : Design) where
  abbrev e : Design
  e = with_blanks test d

  -- a record that is picked, and one that is not
  pub blank_here : (i : ℕ) → test i ≡ true → (with_blanks test d).at i ≡ blank (d.at i).width
  unfolding with_blanks
  blank_here i t = ap (λ (b : Bool). cond b (blank (d.at i).width) (d.at i)) t

  pub none_here : (i : ℕ) → test i ≡ false → (with_blanks test d).at i ≡ d.at i
  unfolding with_blanks
  none_here i t = ap (λ (b : Bool). cond b (blank (d.at i).width) (d.at i)) t

  pub width_stays : (i : ℕ) → ((with_blanks test d).at i).width ≡ (d.at i).width
  width_stays i =
      by_test (test i) (λ t. ap (λ (r : Record). r.width) (blank_here i t)) (λ t. ap (λ (r : Record). r.width) (none_here i t))

  module _ (s : Sound d) (outputs : (i : ℕ) → test i ≡ true → is_output (role_at d i) ≡ false) where
    output_stays : (i : ℕ) → is_output (role_at d i) ≡ is_output (role_at e i)
    output_stays i =
        by_test (test i)
        (λ t. outputs i t ∙ sym (ap (λ (r : Record). is_output (uses_of r.kind).role) (blank_here i t)))
        (λ t. sym (ap (λ (r : Record). is_output (uses_of r.kind).role) (none_here i t)))

    module _ (i : ℕ) (h : i < d.count) where
      -- the rules of a record in this design
      abbrev Names : Record → Type 0
      Names r = AllHold (names_rules e (operand_limit (uses_of r.kind).role d.count i) (operands_of (uses_of r.kind)))

      abbrev Widths : Record → Type 0
      Widths r = let u = uses_of r.kind in AllHold (width_rules r.kind r.width (e.at u.a).width (e.at u.b).width (e.at u.c).width)

      -- a constant keeps them, and so does a record that stays
      blank_sound : test i ≡ true → SoundRecord e i
      unfolding with_blanks operand_rules width_rules_at operands_of names_rules
      blank_sound t =
          let r = s.each i h in
          let q = sym (blank_here i t) in
          record {
            positive = subst (λ (r : Record). 1 ≤ r.width) q r.positive;
            narrow = subst (λ (r : Record). r.width ≤ max_width) q r.narrow;
            operands = subst Names q tt;
            widths = subst Widths q tt;
            multiplier = subst (λ (r : Record). AllHold (multiplier_rules r.kind r.width)) q tt;
            keep = subst (λ (r : Record). r.keep < 2 ^ r.width) q (pow_pos (d.at i).width);
            word = subst (λ (r : Record). (uses_of r.kind).word < 2 ^ r.width) q (pow_pos (d.at i).width);
          }

      stay_sound : test i ≡ false → SoundRecord e i
      unfolding with_blanks operand_rules width_rules_at
      stay_sound t =
          let r = s.each i h in
          let q = sym (none_here i t) in
          let u = uses_of (d.at i).kind in
          record {
            positive = subst (λ (r : Record). 1 ≤ r.width) q r.positive;
            narrow = subst (λ (r : Record). r.width ≤ max_width) q r.narrow;
            operands = subst Names q (names_same d e (operand_limit u.role d.count i) (λ j g. output_stays j) (operands_of u) r.operands);
            widths = subst Widths q (rw (width_stays u.a, width_stays u.b, width_stays u.c) r.widths);
            multiplier = subst (λ (r : Record). AllHold (multiplier_rules r.kind r.width)) q r.multiplier;
            keep = subst (λ (r : Record). r.keep < 2 ^ r.width) q r.keep;
            word = subst (λ (r : Record). (uses_of r.kind).word < 2 ^ r.width) q r.word;
          }

    pub blanks_sound : Sound (with_blanks test d)
    unfolding with_blanks
    blanks_sound = record { few = s.few; each = λ i h. by_test (test i) (blank_sound i h) (stay_sound i h) }
