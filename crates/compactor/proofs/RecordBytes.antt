-- The bytes of a survivor from three words: a constant for a blank, and else the record with new numbers.
-- Assumes nothing.
use mathlib.Core.Path.{◌≡◌, refl, sym, ap, ap₂, subst, ◌∙◌}
use mathlib.Core.Bool.{true, false}
use mathlib.Core.List.{List, ◌∷◌, ◌++◌, map}
use Prim.Native.Nat.{ℕ, ◌+◌, ◌*◌, ◌/◌, ◌%◌, ◌<◌}
use native.Mathlib.Omega.{arith}
use lib.Bits.{bit_and}
use lib.Dec.{lit<}
use lib.ListN.{length, get_or, get_or-map}
use Rattle.endian.specs.Bytes.{bytes}
use Rattle.endian.specs.Lists.{word_at}
use Rattle.endian.proofs.LittleEndian.{bytes_parts}
use Rattle.netlist.specs.Kinds.{kind_of, code_of, uses_of, operands_of, renumbered}
use Rattle.netlist.specs.Layout.{Design, design_of, record_at, code_at, fields_at, count_of}
use Rattle.netlist.specs.declared.record.Fields.{Fields}
use Rattle.netlist.specs.declared.record.Kind.{Kind}
use Rattle.netlist.specs.declared.record.Record.{Record}
use Rattle.netlist.proofs.KindLaws.{used_fields, renumbered_code, renumbered_uses, padded, code_back}
use Rattle.netlist.proofs.PickedLaws.{rank_le}
use Rattle.rules.specs.Encode.{encode_record}
use Rattle.rules.specs.Sound.{Acceptance}
use Rattle.rules.proofs.Acceptance.{few}
use Rattle.rules.proofs.FieldLaws.{fields_used}
use Rattle.rules.proofs.SoundLaws.{OperandsBelow, operands_below}
use Rattle.care.specs.Least.{mask_at}
use Rattle.trim.specs.Trimmed.{trim_record, trim_design}
use Rattle.compact.specs.Part.{renumbered_record, new_number}
use Rattle.compact.specs.Survivors.{is_blank, blanked, survives}
use Rattle.compact.proofs.BlankLaws.{blank_here, none_here}
use Rattle.compact.proofs.SurvivorLaws.{blank_mask}
use Rattle.compactor.specs.Bytes.{front_of, three_words, survivor_bytes}
use Rattle.compactor.specs.Numbers.{numbers_of}
use Rattle.compactor.proofs.NumberLaws.{rank_zero, numbers_length, half_is}

-- the bytes of the first word
pub front_bytes : (code width a b c : ℕ) → code < 256 → width < 256 → a < 65536 → b < 65536
    → bytes 8 (front_of code width a b c) ≡ code ∷ width ∷ bytes 2 a ++ bytes 2 b ++ bytes 2 c
front_bytes code width a b c hc hw ha hb =
    bytes_parts 1 7 code (width + 256 * (a + 65536 * (b + 65536 * c))) hc
    ∙ ap₂ ◌∷◌ (let e : code % 256 ≡ code = omega arith in e)
    (bytes_parts 1 6 width (a + 65536 * (b + 65536 * c)) hw
    ∙ ap₂ ◌∷◌ (let e : width % 256 ≡ width = omega arith in e)
    (bytes_parts 2 4 a (b + 65536 * c) ha ∙ ap (λ (l : List ℕ). bytes 2 a ++ l) (bytes_parts 2 2 b c hb)))

-- what a kind uses with new numbers, where the new number of 0 is 0: a field that is not used stays 0
module _ (new : ℕ → ℕ) (z : new 0 ≡ 0) (kind : Kind) where
  abbrev js : List ℕ
  js = operands_of (uses_of kind)

  field : (at : ℕ) (x : ℕ) → x ≡ get_or js at 0 → get_or (map new js) at 0 ≡ new x
  field at x e = ap (get_or (map new js) at) (sym z) ∙ get_or-map new js at 0 ∙ ap new (sym e)

  pub new_fields : used_fields (uses_of (renumbered new kind))
      ≡ record { a = new (uses_of kind).a; b = new (uses_of kind).b; c = new (uses_of kind).c; k = (uses_of kind).k }
  new_fields =
      let p = padded kind in
      ap used_fields (renumbered_uses new kind)
      ∙ rw (field 0 (uses_of kind).a p.first, field 1 (uses_of kind).b p.second, field 2 (uses_of kind).c p.third)

-- the bytes of a record by its number of kind and its fields
abbrev field_bytes : ℕ → ℕ → Fields → ℕ → List ℕ
field_bytes code width f keep = code ∷ width ∷ bytes 2 f.a ++ bytes 2 f.b ++ bytes 2 f.c ++ bytes 8 f.k ++ bytes 8 keep

by_fields : (r : Record) → encode_record r ≡ field_bytes (code_of r.kind) r.width (used_fields (uses_of r.kind)) r.keep
unfolding encode_record
by_fields r = refl

module _ (file masks : List ℕ) (i : ℕ) where
  abbrev d : Design
  d = design_of file

  abbrev new : ℕ → ℕ
  new = new_number d masks

  -- a blank, whose mask is 0
  pub blank_bytes : (keep : ℕ) → is_blank d masks i ≡ true → (record_at file i).width < 256 → keep ≡ bit_and (mask_at masks i) (record_at file i).keep
      → three_words (1 + 256 * (record_at file i).width) 0 keep ≡ survivor_bytes d masks i
  unfolding survivor_bytes three_words blanked trim_design encode_record renumbered kind_of design_of
  blank_bytes keep b h e =
      let w = (record_at file i).width in
      let zero : keep ≡ 0 = e ∙ ap (λ (m : ℕ). bit_and m (record_at file i).keep) (blank_mask d masks i b) in
      ap₂ (λ (l : List ℕ) (x : ℕ). l ++ bytes 8 0 ++ bytes 8 x)
      (ap (bytes 8) (let q : 1 + 256 * w ≡ front_of 1 w 0 0 0 = omega arith in q) ∙ front_bytes 1 w 0 0 0 (lit< tt) h (lit< tt) (lit< tt)) zero
      ∙ sym (ap (λ (r : Record). encode_record (renumbered_record new r)) (blank_here (is_blank d masks) (trim_design d masks) i b))

  -- any other, with the new numbers of its operands
  module _ (accepted : Acceptance file (count_of file)) (h : i < count_of file) where
    abbrev f : Fields
    f = fields_at file i

    abbrev r : Record
    r = record_at file i

    -- its fields are those that its kind uses
    used : f ≡ used_fields (uses_of r.kind)
    used = fields_used f (uses_of r.kind) (accepted.fields i h)

    -- its operands, used or not, are records of the file, and their new numbers fit two bytes
    fields_below : OperandsBelow (uses_of (record_at file i).kind) (count_of file)
    unfolding design_of
    fields_below = operands_below d accepted.sound i h

    below : (x : ℕ) → x < count_of file → new x < 65536
    below x l = let e = rank_le (survives d masks) x in let g = few file (count_of file) accepted in omega arith

    a_below : (fields_at file i).a < count_of file
    a_below = subst (λ (g : Fields). g.a < count_of file) (sym used) fields_below.a

    b_below : (fields_at file i).b < count_of file
    b_below = subst (λ (g : Fields). g.b < count_of file) (sym used) fields_below.b

    c_below : (fields_at file i).c < count_of file
    c_below = subst (λ (g : Fields). g.c < count_of file) (sym used) fields_below.c

    pub width_low : (record_at file i).width < 256
    unfolding design_of
    width_low = let w = (accepted.sound.each i h).narrow in omega arith

    -- what is asked of the parts of the first word
    front_fits : (code_at file i < 256) × (((record_at file i).width < 256) × ((new_number (design_of file) masks (fields_at file i).a < 65536)
        × ((new_number (design_of file) masks (fields_at file i).b < 65536) × (new_number (design_of file) masks (fields_at file i).c < 65536))))
    front_fits = (let l = accepted.codes i h in omega arith, (width_low, (below f.a a_below, (below f.b b_below, below f.c c_below))))

    code_same : code_of (renumbered new r.kind) ≡ code_at file i
    unfolding record_at
    code_same = renumbered_code new r.kind ∙ code_back (code_at file i) f (accepted.codes i h)

    fields_same : used_fields (uses_of (renumbered new r.kind)) ≡ record { a = new f.a; b = new f.b; c = new f.c; k = f.k }
    fields_same =
        new_fields new (rank_zero (survives d masks)) r.kind
        ∙ ap (λ (g : Fields). record { a = new g.a; b = new g.b; c = new g.c; k = g.k }) (sym used)

    other_bytes : (keep : ℕ) → is_blank d masks i ≡ false → keep ≡ bit_and (mask_at masks i) (record_at file i).keep
        → three_words (front_of (code_at file i) (record_at file i).width (new_number (design_of file) masks (fields_at file i).a)
        (new_number (design_of file) masks (fields_at file i).b) (new_number (design_of file) masks (fields_at file i).c)) (fields_at file i).k keep
        ≡ survivor_bytes (design_of file) masks i
    unfolding survivor_bytes three_words blanked trim_design design_of
    other_bytes keep b e =
        ap₂ (λ (l : List ℕ) (x : ℕ). l ++ bytes 8 f.k ++ bytes 8 x)
        (front_bytes (code_at file i) r.width (new f.a) (new f.b) (new f.c)
        front_fits.0 front_fits.1.0 front_fits.1.1.0 front_fits.1.1.1.0) e
        ∙ sym (ap (λ (r : Record). encode_record (renumbered_record new r)) (none_here (is_blank d masks) (trim_design d masks) i b)
        ∙ by_fields (renumbered_record new (trim_record r (mask_at masks i)))
        ∙ ap₂ (λ (code : ℕ) (g : Fields). field_bytes code r.width g (bit_and (mask_at masks i) r.keep)) code_same fields_same)

    -- the same from what the code has read, where `numbers` carries the new numbers
    module _ (numbers : List ℕ) (numbered : numbers ≡ numbers_of (design_of file) masks) {g : Fields} (eg : g ≡ fields_at file i) where
      -- a field of the record is the number of a word of the list
      within : (part : Fields → ℕ) → part (fields_at file i) < count_of file → part g < length numbers
      unfolding design_of
      within part l =
          subst (λ (x : Fields). part x < length numbers) (sym eg) (let e = numbers_length d masks numbers numbered in omega arith)

      pub a_within : g.a < length numbers
      a_within = within (λ x. x.a) a_below

      pub b_within : g.b < length numbers
      b_within = within (λ x. x.b) b_below

      pub c_within : g.c < length numbers
      c_within = within (λ x. x.c) c_below

      -- and half of that word is the field's new number
      half : (part : Fields → ℕ) → part (fields_at file i) < count_of file → {x : ℕ} → x ≡ word_at numbers (part g) / 2 → x ≡ new (part (fields_at file i))
      unfolding design_of
      half part l e = e ∙ ap (λ (x : Fields). word_at numbers (part x) / 2) eg ∙ half_is d masks numbers numbered (part f) l

      module _ {code width a b c : ℕ} (ec : code ≡ code_at file i) (ew : width ≡ (record_at file i).width) (ea : a ≡ word_at numbers g.a / 2)
          (eb : b ≡ word_at numbers g.b / 2) (ed : c ≡ word_at numbers g.c / 2) where
        new_a : a ≡ new f.a
        new_a = half (λ x. x.a) a_below ea

        new_b : b ≡ new f.b
        new_b = half (λ x. x.b) b_below eb

        new_c : c ≡ new f.c
        new_c = half (λ x. x.c) c_below ed

        pub front_asked : (code < 256) × ((width < 256) × ((a < 65536) × ((b < 65536) × (c < 65536))))
        front_asked = rw (ec, ew, new_a, new_b, new_c) front_fits

        pub words_bytes : {front keep : ℕ} → is_blank (design_of file) masks i ≡ false → front ≡ front_of code width a b c
            → keep ≡ bit_and (mask_at masks i) (record_at file i).keep → three_words front g.k keep ≡ survivor_bytes (design_of file) masks i
        words_bytes {front} {keep} blank e q =
            ap₂ (λ (x : ℕ) (y : Fields). three_words x y.k keep) (e ∙ rw (ec, ew, new_a, new_b, new_c)) eg ∙ other_bytes keep blank q
