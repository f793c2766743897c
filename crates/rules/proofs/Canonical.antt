-- An accepted file of bytes is the encoding of the design that it holds: check accepts just the encodings of sound designs.
-- Assumes nothing.
use mathlib.Core.Path.{◌≡◌, refl, sym, ap, subst, ◌∙◌}
use mathlib.Core.List.{List, [], ◌∷◌, ◌++◌}
use Prim.Native.Nat.{ℕ, zero, suc, ◌+◌, ◌/◌, ◌%◌, ◌≤◌, ◌<◌}
use native.Mathlib.Nat.{add-zero, add-suc, suc-add, zero-add, le_of_suc-le-suc, not-suc-le-zero}
use native.Mathlib.Numerals.{add-one}
use native.Mathlib.Omega.{arith}
use lib.ListN.{length, get_or}
use lib.Seq.{ext_get_or}
use Rattle.std.specs.Prelude.{Ok}
use Rattle.endian.specs.Bytes.{number_at, bytes}
use Rattle.netlist.specs.Kinds.{code_of, uses_of}
use Rattle.netlist.specs.Layout.{design_of, record_at, code_at, width_at, fields_at, keep_at, count_of, byte_at, record_start}
use Rattle.netlist.proofs.KindLaws.{code_back}
use Rattle.rules.specs.Fit.{field_rules}
use Rattle.rules.specs.Check.{check_of, header_rules, record_rules}
use Rattle.rules.specs.Encode.{header_bytes, encode, encode_from, encode_record, AreBytes}
use Rattle.rules.proofs.Acceptance.{accepted, accepted_kept, rule_facts}
use Rattle.rules.proofs.CheckLaws.{Kept}
use Rattle.rules.proofs.EncodedBytes.{length_record, length_encode}

-- the list l stands in the file from `at` on
record Stands (file : List ℕ) (at : ℕ) (l : List ℕ) : Type 0 where
  each : (j : ℕ) → j < length l → byte_at file (at + j) ≡ get_or l j 0

module _ (file : List ℕ) where
  stands_nil : (at : ℕ) → Stands file at []
  stands_nil at = record { each = λ j h. absurd (not-suc-le-zero h) }

  stands_cons : (at x : ℕ) (l : List ℕ) → byte_at file at ≡ x → Stands file (suc at) l → Stands file at (x ∷ l)
  stands_cons at x l e s = record { each = go }
    where
      go : (j : ℕ) → j < length (x ∷ l) → byte_at file (at + j) ≡ get_or (x ∷ l) j 0
      go zero h = ap (byte_at file) (add-zero at) ∙ e
      go (suc j) h = ap (byte_at file) (add-suc at j ∙ sym (suc-add at j)) ∙ s.each j (le_of_suc-le-suc h)

  stands_append : (at : ℕ) (l m : List ℕ) → Stands file at l → Stands file (at + length l) m → Stands file at (l ++ m)
  stands_append at [] m s t = subst (λ (n : ℕ). Stands file n m) (add-zero at) t
  stands_append at (x ∷ l) m s t =
      stands_cons at x (l ++ m) (ap (byte_at file) (sym (add-zero at)) ∙ s.each 0 (omega arith))
      (stands_append (suc at) l m
      (record { each = λ j h. ap (byte_at file) (suc-add at j ∙ sym (add-suc at j)) ∙ s.each (suc j) (omega arith) })
      (subst (λ (n : ℕ). Stands file n m) (add-suc at (length l) ∙ sym (suc-add at (length l))) t))

  -- a number stands where it was read
  stands_number : AreBytes file → (at size v : ℕ) → number_at file at size ≡ v → Stands file at (bytes size v)
  stands_number b at zero v e = stands_nil at
  stands_number b at (suc size) v e =
      let low = b.low at in
      stands_cons at (v % 256) (bytes size (v / 256)) (omega arith) (stands_number b (suc at) size (v / 256) (omega arith))

  moved : {at at' : ℕ} {l : List ℕ} → at ≡ at' → Stands file at l → Stands file at' l
  moved {at} {at'} {l} e s = subst (λ (n : ℕ). Stands file n l) e s

  -- a record that keeps its rules stands at its place, as its encoding
  stands_record : AreBytes file → (i : ℕ) → Kept (record_rules file i) → Stands file (record_start i) (encode_record (record_at file i))
  unfolding field_rules encode_record design_of record_at code_at width_at fields_at keep_at
  stands_record b i kept =
      let p = record_start i in
      let u = uses_of (record_at file i).kind in
      let facts = rule_facts file i kept in
      let same = facts.fields in
      let a = bytes 2 u.a in
      let ab = a ++ bytes 2 u.b in
      let abc = ab ++ bytes 2 u.c in
      let abck = abc ++ bytes 8 u.k in
      stands_cons p (code_of (record_at file i).kind) _ (sym (code_back (code_at file i) (fields_at file i) facts.code))
      (stands_cons (suc p) (record_at file i).width _ (ap (byte_at file) (sym (add-one p)))
      (moved {at = p + 2} (omega arith)
      (stands_append (p + 2) abck (bytes 8 (record_at file i).keep)
      (stands_append (p + 2) abc (bytes 8 u.k)
      (stands_append (p + 2) ab (bytes 2 u.c)
      (stands_append (p + 2) a (bytes 2 u.b) (stands_number b (p + 2) 2 u.a same.0)
      (moved (omega arith) (stands_number b (p + 4) 2 u.b same.1.0)))
      (moved (omega arith) (stands_number b (p + 6) 2 u.c same.1.1.0)))
      (moved (omega arith) (stands_number b (p + 8) 8 u.k same.1.1.1.0)))
      (moved (omega arith) (stands_number b (p + 16) 8 (record_at file i).keep refl)))))

  stands_from : AreBytes file → (left i : ℕ) → ((j : ℕ) → i ≤ j → j < i + left → Kept (record_rules file j)) → Stands file (record_start i) (encode_from (design_of file) left i)
  unfolding encode_from design_of
  stands_from b zero i kept = stands_nil (record_start i)
  stands_from b (suc left) i kept =
      stands_append (record_start i) (encode_record (record_at file i)) (encode_from (design_of file) left (suc i))
      (stands_record b i (kept i (omega arith) (omega arith)))
      (moved (let e = length_record (record_at file i) in omega arith) (stands_from b left (suc i) (λ j h g. kept j (omega arith) (omega arith))))

  -- the header, with the version and the count as numbers
  stands_header : AreBytes file → Kept (header_rules file) → Stands file 0 (header_bytes (count_of file))
  unfolding header_rules
  stands_header b kept =
      let mark = kept.1.0 in
      stands_cons 0 0x50 _ mark.0
      (stands_cons 1 0x43 _ mark.1.0
      (stands_cons 2 0x4e _ mark.1.1.0
      (stands_append 3 (bytes 2 1) (0 ∷ bytes 2 (count_of file)) (stands_number b 3 2 1 kept.1.1.0.0)
      (stands_cons 5 0 _ mark.1.1.1.0 (stands_number b 6 2 (count_of file) refl)))))

-- every accepted file is the encoding of the design that it holds
pub canonical : (file : List ℕ) (n : ℕ) → AreBytes file → check_of file ≡ Ok n → file ≡ encode (design_of file)
unfolding encode design_of
canonical file n b e =
    let kept = accepted_kept file n e in
    let stands = stands_append file 0 (header_bytes (count_of file)) (encode_from (design_of file) (count_of file) 0) (stands_header file b kept.header)
    (stands_from file b (count_of file) 0 (λ j h g. kept.each j (omega arith))) in
    let facts = accepted file n e in
    let size : length file ≡ length (encode (design_of file)) = facts.size ∙ ap record_start facts.count ∙ sym (length_encode (design_of file)) in
    ext_get_or 0 file (encode (design_of file)) size (λ i h. ap (byte_at file) (sym (zero-add i)) ∙ stands.each i (omega arith))
