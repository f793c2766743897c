-- No vacuous acceptance: every sound design has a file that check accepts and that holds the same design.
-- Assumes nothing.
use mathlib.Core.Path.{◌≡◌, refl, sym, ap, ◌∙◌}
use mathlib.Core.List.{List, [], ◌∷◌, ◌++◌}
use Prim.Native.Nat.{ℕ, zero, suc, ◌+◌, ◌≤◌, ◌<◌}
use native.Mathlib.Nat.{add-zero}
use native.Mathlib.Omega.{arith}
use lib.Dec.{lit<}
use Rattle.std.specs.Prelude.{Ok}
use Rattle.endian.specs.Bytes.{bytes}
use Rattle.endian.proofs.LittleEndian.{number_at_bytes, bytes_low}
use Rattle.netlist.specs.Kinds.{code_of, uses_of}
use Rattle.netlist.specs.Layout.{Design, design_of, record_at, code_at, width_at, fields_at, keep_at, count_of, byte_at, record_start}
use Rattle.netlist.specs.Rules.{AllHold}
use Rattle.netlist.specs.declared.record.Kind.{Kind}
use Rattle.netlist.proofs.KindLaws.{used_fields, kind_back, code_low}
use Rattle.rules.specs.Fit.{field_rules}
use Rattle.rules.specs.Check.{check_of, header_rules, record_rules}
use Rattle.rules.specs.Encode.{header_bytes, encode, encode_from, encode_record, AreBytes, StandsFor}
use Rattle.rules.specs.Sound.{Sound, SameDesign}
use Rattle.rules.proofs.Acceptance.{kept_accepted, facts_rules}
use Rattle.rules.proofs.CheckLaws.{Kept}
use Rattle.rules.proofs.EncodedBytes.{length_encode, byte_encode, number_encode}
use Rattle.rules.proofs.SoundLaws.{operands_below, word_64, k_64, record_same}

-- lists of bytes
byte_first : {x : ℕ} {l : List ℕ} → x < 256 → AreBytes l → AreBytes (x ∷ l)
byte_first {x} {l} h b = record { low = at }
  where
    at : (i : ℕ) → byte_at (x ∷ l) i < 256
    at zero = h
    at (suc i) = b.low i

bytes_append : (l m : List ℕ) → AreBytes l → AreBytes m → AreBytes (l ++ m)
bytes_append [] m b c = c
bytes_append (x ∷ l) m b c = byte_first (b.low 0) (bytes_append l m (record { low = λ i. b.low (suc i) }) c)

number_bytes : (size v : ℕ) → AreBytes (bytes size v)
number_bytes size v = record { low = bytes_low size v }

module _ (d : Design) (s : Sound d) where
  count_back : count_of (encode d) ≡ d.count
  unfolding encode
  count_back = number_at_bytes 2 d.count [] (let h = s.few in omega arith)

  -- the fields of record i, one by one
  module _ (i : ℕ) (h : i < d.count) where
    code_back : code_at (encode d) i ≡ code_of (d.at i).kind
    unfolding code_at encode_record
    code_back = ap (byte_at (encode d)) (sym (add-zero (record_start i))) ∙ byte_encode d i 0 h (lit< tt)

    width_back : width_at (encode d) i ≡ (d.at i).width
    unfolding width_at encode_record
    width_back = byte_encode d i 1 h (lit< tt)

    keep_back : keep_at (encode d) i ≡ (d.at i).keep
    unfolding keep_at encode_record
    keep_back = number_encode d i 16 8 h (omega arith) ∙ number_at_bytes 8 (d.at i).keep [] (word_64 d s i h (d.at i).keep (s.each i h).keep)

    fields_back : fields_at (encode d) i ≡ used_fields (uses_of (d.at i).kind)
    unfolding fields_at encode_record
    fields_back =
        let u = uses_of (d.at i).kind in
        let b = operands_below d s i h in
        let few = s.few in
        rw (
          number_encode d i 2 2 h (omega arith) ∙ number_at_bytes 2 u.a [] (let g = b.a in omega arith),
          number_encode d i 4 2 h (omega arith) ∙ number_at_bytes 2 u.b [] (let g = b.b in omega arith),
          number_encode d i 6 2 h (omega arith) ∙ number_at_bytes 2 u.c [] (let g = b.c in omega arith),
          number_encode d i 8 8 h (omega arith) ∙ number_at_bytes 8 u.k [] (k_64 d s i h),
        )

    record_back : record_at (encode d) i ≡ d.at i
    unfolding record_at
    record_back =
        rw (code_back, fields_back, width_back, keep_back)
        (ap (λ (k : Kind). record { kind = k; width = (d.at i).width; keep = (d.at i).keep }) (kind_back (d.at i).kind))

  same_back : SameDesign d (design_of (encode d))
  unfolding design_of
  same_back = record { count = sym count_back; each = λ i h. sym (record_back i h) }

  -- the rules of the header and of each record hold
  header_kept : Kept (header_rules (encode d))
  unfolding header_rules encode
  header_kept =
      let n = count_back in
      let few = s.few in
      let size = length_encode d in
      ((omega arith, tt), ((refl, (refl, (refl, (refl, tt)))), ((refl, tt), ((omega arith, tt), ((omega arith, tt), tt)))))

  fields_kept : (i : ℕ) → i < d.count → AllHold (field_rules (fields_at (encode d) i) (uses_of ((design_of (encode d)).at i).kind))
  unfolding field_rules design_of
  fields_kept i h = rw (fields_back i h, record_back i h) (refl, (refl, (refl, (refl, tt))))

  record_kept : (i : ℕ) → i < d.count → Kept (record_rules (encode d) i)
  record_kept i h =
      let code = code_back i h in
      let low = code_low (d.at i).kind in
      facts_rules (encode d) i (record { code = omega arith; sound = record_same d (design_of (encode d)) same_back s i h; fields = fields_kept i h })

  check_back : check_of (encode d) ≡ Ok d.count
  check_back =
      kept_accepted (encode d) (record { header = header_kept; each = λ i h. record_kept i (let n = count_back in omega arith) }) ∙ ap Ok count_back

  -- every element of the file is a byte
  record_bytes : (i : ℕ) → i < d.count → AreBytes (encode_record (d.at i))
  unfolding encode_record
  record_bytes i h =
      let low = code_low (d.at i).kind in
      let wide = (s.each i h).narrow in
      let u = uses_of (d.at i).kind in
      byte_first (omega arith)
      (byte_first (omega arith)
      (bytes_append _ (bytes 8 (d.at i).keep)
      (bytes_append _ (bytes 8 u.k)
      (bytes_append _ (bytes 2 u.c) (bytes_append (bytes 2 u.a) (bytes 2 u.b) (number_bytes 2 u.a) (number_bytes 2 u.b)) (number_bytes 2 u.c))
      (number_bytes 8 u.k))
      (number_bytes 8 (d.at i).keep)))

  from_bytes : (left i : ℕ) → i + left ≤ d.count → AreBytes (encode_from d left i)
  unfolding encode_from
  from_bytes zero i h = record { low = λ j. lit< tt }
  from_bytes (suc left) i h =
      bytes_append (encode_record (d.at i)) (encode_from d left (suc i)) (record_bytes i (omega arith)) (from_bytes left (suc i) (omega arith))

  pub encoded : StandsFor (encode d) d
  unfolding encode
  encoded =
      record {
        bytes = bytes_append (header_bytes d.count) (encode_from d d.count 0)
            (byte_first (lit< tt) (byte_first (lit< tt) (byte_first (lit< tt)
            (bytes_append (bytes 2 1) (0 ∷ bytes 2 d.count) (number_bytes 2 1) (byte_first (lit< tt) (number_bytes 2 d.count))))))
            (from_bytes d.count 0 (omega arith));
        accepted = check_back;
        same = same_back;
      }
