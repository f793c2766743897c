-- The compacted design: it is sound, what each of its records is, and that its file is accepted, holds it, and is no longer than the old one.
-- Assumes nothing.
use mathlib.Core.Path.{◌≡◌, ap, ◌∙◌}
use mathlib.Core.Bool.{true, false}
use mathlib.Core.List.{List}
use Prim.Native.Nat.{ℕ, ◌≤◌, ◌<◌}
use native.Mathlib.Omega.{arith}
use lib.ListN.{length}
use Rattle.std.specs.Prelude.{Ok}
use Rattle.netlist.specs.Kinds.{kind_of, renumbered}
use Rattle.netlist.specs.Layout.{Design, design_of, record_start, role_at}
use Rattle.rules.specs.Check.{check_of}
use Rattle.rules.specs.Encode.{StandsFor}
use Rattle.rules.specs.Sound.{Sound}
use Rattle.rules.proofs.Acceptance.{accepted}
use Rattle.rules.proofs.Encoded.{encoded}
use Rattle.rules.proofs.EncodedBytes.{length_encode}
use Rattle.care.specs.Least.{mask_at, masks_of}
use Rattle.trim.specs.Trimmed.{trim_record, trim_design}
use Rattle.trim.proofs.Trimmed.{trim_sound}
use Rattle.compact.specs.Survivors.{is_blank, blank, with_blanks, blanked, survives}
use Rattle.compact.specs.Part.{renumbered_record, compact, new_number, compacted}
use Rattle.compact.proofs.BlankLaws.{blank_here, none_here, blanks_sound}
use Rattle.compact.proofs.PartLaws.{PartOf, part_of, part_few, part_same, part_sound}
use Rattle.compact.proofs.SurvivorLaws.{no_output, blank_no_port, names_survive}

module _ (d : Design) (s : Sound d) (masks : List ℕ) where
  pub blanked_sound : Sound (blanked d masks)
  unfolding blanked trim_design
  blanked_sound =
      blanks_sound (is_blank d masks) (trim_design d masks) (trim_sound d s masks) (λ i e. no_output (role_at d i) (blank_no_port d masks i e))

  pub compact_part : PartOf (survives d masks) (blanked d masks) (compact d masks)
  unfolding compact
  compact_part = part_of (survives d masks) (blanked d masks)

  pub compact_sound : Sound (compact d masks)
  compact_sound = part_sound (survives d masks) (blanked d masks) (compact d masks) blanked_sound (names_survive d masks) compact_part

  -- the count of survivors
  pub compact_count : (compact d masks).count ≡ new_number d masks d.count
  unfolding compact blanked with_blanks trim_design
  compact_count = compact_part.count

  pub compact_few : (compact d masks).count ≤ d.count
  unfolding compact blanked with_blanks trim_design
  compact_few = part_few compact_part

  -- the record of a survivor, at its new number
  module _ (i : ℕ) (h : i < d.count) (t : survives d masks i ≡ true) where
    pub record_is : (compact d masks).at (new_number d masks i) ≡ renumbered_record (new_number d masks) ((blanked d masks).at i)
    unfolding blanked with_blanks trim_design
    record_is = compact_part.each i h t

    -- "becomes a constant of its width with k and keep word 0, naming nothing"
    pub blank_becomes : is_blank d masks i ≡ true → (compact d masks).at (new_number d masks i) ≡ blank (d.at i).width
    unfolding blanked trim_design renumbered kind_of
    blank_becomes e =
        record_is ∙ ap (renumbered_record (new_number d masks)) (blank_here (is_blank d masks) (trim_design d masks) i e)

    -- "Others carry their trimmed keep words", and "numbers are renewed"
    pub other_becomes : is_blank d masks i ≡ false
        → (compact d masks).at (new_number d masks i) ≡ renumbered_record (new_number d masks) (trim_record (d.at i) (mask_at masks i))
    unfolding blanked trim_design
    other_becomes e = record_is ∙ ap (renumbered_record (new_number d masks)) (none_here (is_blank d masks) (trim_design d masks) i e)

-- the file that holds it
module _ (file : List ℕ) (n : ℕ) (e : check_of file ≡ Ok n) where
  abbrev d : Design
  d = design_of file

  abbrev masks : List ℕ
  masks = masks_of d

  pub stands : StandsFor (compacted file) (compact (design_of file) (masks_of (design_of file)))
  stands = encoded (compact d masks) (compact_sound d (accepted file n e).sound masks)

  -- its design is a part of the old one with constants in the place of blanks
  pub holds_part : PartOf (survives (design_of file) (masks_of (design_of file))) (blanked (design_of file) (masks_of (design_of file))) (design_of (compacted file))
  holds_part = part_same (compact_part d (accepted file n e).sound masks) (design_of (compacted file)) stands.same

  pub length_compacted : length (compacted file) ≡ record_start (new_number (design_of file) (masks_of (design_of file)) n)
  unfolding design_of
  length_compacted =
      let a = accepted file n e in
      length_encode (compact d masks) ∙ ap record_start (compact_count d a.sound masks ∙ ap (new_number d masks) (let c = a.count in omega arith))

  -- compacting never makes a file longer
  pub not_longer : length (compacted file) ≤ length file
  unfolding design_of
  not_longer =
      let a = accepted file n e in
      let l = length_encode (compact d masks) in
      let f = compact_few d a.sound masks in
      let c = a.count in
      let q = a.size in
      omega arith
