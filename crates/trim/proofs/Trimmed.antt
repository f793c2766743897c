-- The trimmed file of an accepted one is accepted, and it holds the design with keep words D.
-- Assumes nothing.
use mathlib.Core.Path.{◌≡◌, refl, sym, ap, subst, ◌∙◌}
use mathlib.Core.List.{List}
use Prim.Native.Nat.{ℕ, ◌+◌, ◌-◌, ◌≤◌, ◌<◌}
use native.Mathlib.Nat.{add-zero}
use native.Mathlib.Omega.{arith}
use lib.Dec.{lit<}
use lib.ListN.{length}
use Rattle.std.specs.Prelude.{Ok}
use Rattle.endian.specs.Bytes.{number_at}
use Rattle.endian.proofs.Stores.{number_same}
use Rattle.bits.proofs.Order.{meet_right, within_lt}
use Rattle.netlist.specs.Kinds.{uses_of, operands_of}
use Rattle.netlist.specs.Layout.{Design, design_of, record_at, code_at, width_at, fields_at, keep_at, count_of, byte_at, record_start}
use Rattle.netlist.specs.Rules.{AllHold}
use Rattle.rules.specs.Fit.{operand_limit, field_rules, operand_rules, width_rules_at}
use Rattle.rules.specs.Check.{check_of, header_rules, record_rules}
use Rattle.rules.specs.Sound.{Sound, SoundRecord, SameDesign}
use Rattle.rules.proofs.Acceptance.{accepted, accepted_kept, kept_accepted, rule_facts, facts_rules}
use Rattle.rules.proofs.CheckLaws.{Kept}
use Rattle.rules.proofs.SoundLaws.{word_64, names_same, record_same}
use Rattle.care.specs.Least.{mask_at}
use Rattle.trim.specs.Trimmed.{trimmed_by, trim_design, Outside}
use Rattle.trim.proofs.TrimLaws.{before_keep, in_header, length_trim, trim_outside, trim_keep}

-- a sound design stays sound when its keep words are cut
module _ (d : Design) (s : Sound d) (masks : List ℕ) where
  cut_sound : (i : ℕ) → i < d.count → SoundRecord (trim_design d masks) i
  unfolding trim_design operand_rules width_rules_at
  cut_sound i h =
      let r = s.each i h in
      let u = uses_of (d.at i).kind in
      record {
        positive = r.positive;
        narrow = r.narrow;
        operands = names_same d (trim_design d masks) (operand_limit u.role d.count i) (λ j g. refl) (operands_of u) r.operands;
        widths = r.widths;
        multiplier = r.multiplier;
        keep = within_lt (d.at i).width (meet_right (mask_at masks i) (d.at i).keep) r.keep;
        word = r.word;
      }

  pub trim_sound : Sound (trim_design d masks)
  unfolding trim_design
  trim_sound = record { few = s.few; each = cut_sound }

module _ (file : List ℕ) (n : ℕ) (e : check_of file ≡ Ok n) (masks : List ℕ) where
  abbrev other : List ℕ
  other = trimmed_by file masks

  -- "It changes only bytes 16 to 23 of each record"
  pub byte_same : (p : ℕ) → Outside (count_of file) p → byte_at other p ≡ byte_at file p
  unfolding trimmed_by
  byte_same p out = trim_outside file masks (count_of file) p out

  numbers_same : (at size : ℕ) → ((p : ℕ) → at ≤ p → p < at + size → Outside (count_of file) p) → number_at other at size ≡ number_at file at size
  numbers_same at size out = number_same other file at size (λ p h g. byte_same p (out p h g))

  first : (p : ℕ) → p < 8 → byte_at other p ≡ byte_at file p
  first p h = byte_same p (in_header (count_of file) p h)

  header_same : (at size : ℕ) → at + size ≤ 8 → number_at other at size ≡ number_at file at size
  header_same at size h = numbers_same at size (λ p g l. in_header (count_of file) p (omega arith))

  field_same : (i o size : ℕ) → o + size ≤ 16 → number_at other (record_start i + o) size ≡ number_at file (record_start i + o) size
  field_same i o size h = numbers_same (record_start i + o) size before
    where
      before : (p : ℕ) → record_start i + o ≤ p → p < record_start i + o + size → Outside (count_of file) p
      before p g l =
          subst (Outside (count_of file)) (let q : record_start i + (p - record_start i) ≡ p = omega arith in q)
          (before_keep (count_of file) i (p - record_start i) (omega arith))

  pub count_same : count_of other ≡ count_of file
  count_same = header_same 6 2 (omega arith)

  code_same : (i : ℕ) → code_at other i ≡ code_at file i
  unfolding code_at
  code_same i = byte_same (record_start i) (subst (Outside (count_of file)) (add-zero (record_start i)) (before_keep (count_of file) i 0 (omega arith)))

  width_same : (i : ℕ) → width_at other i ≡ width_at file i
  unfolding width_at
  width_same i = byte_same (record_start i + 1) (before_keep (count_of file) i 1 (omega arith))

  fields_same : (i : ℕ) → fields_at other i ≡ fields_at file i
  unfolding fields_at
  fields_same i = rw (field_same i 2 2 (omega arith), field_same i 4 2 (omega arith), field_same i 6 2 (omega arith), field_same i 8 8 (omega arith))

  sound : Sound (design_of file)
  sound = (accepted file n e).sound

  pub size_same : length other ≡ length file
  unfolding trimmed_by
  size_same = length_trim file masks (count_of file)

  -- "the new keep word is D"
  pub keep_cut : (i : ℕ) → i < count_of file → keep_at other i ≡ ((trim_design (design_of file) masks).at i).keep
  unfolding trimmed_by keep_at trim_design design_of
  keep_cut i h =
      let a = accepted file n e in
      trim_keep file masks (count_of file) i h (let l = a.size in let c = a.count in omega arith)
      (word_64 (design_of file) a.sound i h _ ((trim_sound (design_of file) a.sound masks).each i h).keep)

  -- it holds the design with keep words D
  pub holds_cut : SameDesign (trim_design (design_of file) masks) (design_of other)
  unfolding trim_design design_of record_at
  holds_cut = record { count = sym count_same; each = λ i h. rw (code_same i, fields_same i, width_same i, keep_cut i h) }

  -- and it is accepted
  header_kept : Kept (header_rules other)
  unfolding header_rules
  header_kept =
      let k = (accepted_kept file n e).header in
      let l = size_same in
      let c = count_same in
      let mark = k.1.0 in (
        (let g = k.0.0 in omega arith, tt),
        (
          (first 0 (lit< tt) ∙ mark.0, (first 1 (lit< tt) ∙ mark.1.0, (first 2 (lit< tt) ∙ mark.1.1.0, (first 5 (lit< tt) ∙ mark.1.1.1.0, tt)))),
          (
            (header_same 3 2 (omega arith) ∙ k.1.1.0.0, tt),
            ((let g = k.1.1.1.0.0 in omega arith, tt), ((let g = k.1.1.1.1.0.0 in omega arith, tt), tt)),
          ),
        ),
      )

  fields_kept : (i : ℕ) → i < count_of file → AllHold (field_rules (fields_at other i) (uses_of ((design_of other).at i).kind))
  unfolding design_of record_at
  fields_kept i h = rw (code_same i, fields_same i) (rule_facts file i ((accepted_kept file n e).each i h)).fields

  record_kept : (i : ℕ) → i < count_of file → Kept (record_rules other i)
  unfolding design_of trim_design
  record_kept i h =
      let code = (rule_facts file i ((accepted_kept file n e).each i h)).code in
      let q = code_same i in
      facts_rules other i
      (record {
        code = omega arith;
        sound = record_same (trim_design (design_of file) masks) (design_of other) holds_cut (trim_sound (design_of file) sound masks) i h;
        fields = fields_kept i h;
      })

  pub trim_accepted : check_of other ≡ Ok n
  trim_accepted =
      kept_accepted other (record { header = header_kept; each = λ i h. record_kept i (let q = count_same in omega arith) })
      ∙ ap Ok (count_same ∙ sym (accepted file n e).count)
