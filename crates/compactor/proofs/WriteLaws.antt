-- The file as it is being written: three words of a record, the survivors one after the other, and the header in front of them.
-- Assumes nothing.
use mathlib.Core.Path.{◌≡◌, refl, sym, ap, ap₂, ◌∙◌}
use mathlib.Core.Bool.{Bool, true, false}
use mathlib.Core.List.{List, ◌++◌}
use Prim.Native.Nat.{ℕ, suc, ◌+◌, ◌*◌, ◌-◌, ◌≤◌, ◌<◌}
use native.Mathlib.Numerals.{add-one}
use native.Mathlib.Omega.{arith}
use lib.ListN.{length, drop}
use lib.Seq.{sets, sets-eq, length-sets}
use borrow.Rule.Slice.PartMut.{mid_of, put_mid}
use Rattle.endian.specs.Bytes.{bytes}
use Rattle.endian.proofs.LittleEndian.{bytes_parts}
use Rattle.endian.proofs.Stores.{stored_more, part_stored}
use Rattle.netlist.specs.Layout.{Design, header_size, record_start, record_size}
use Rattle.netlist.specs.Refusals.{leaves}
use Rattle.netlist.specs.declared.record.Record.{Record}
use Rattle.netlist.proofs.PickedLaws.{rank_more, rank_none}
use Rattle.netlist.proofs.Tests.{by_test}
use Rattle.rules.specs.Encode.{header_bytes, encode, encode_from, encode_record}
use Rattle.rules.specs.Sound.{Sound}
use Rattle.rules.proofs.EncodedBytes.{encode_next, length_from}
use Rattle.compact.specs.Part.{compact, new_number}
use Rattle.compact.specs.Survivors.{survives}
use Rattle.compact.proofs.Compacted.{record_is, compact_count}
use Rattle.compactor.specs.Bytes.{three_words, survivor_bytes, with_survivor, survivors_bytes}
use Rattle.compactor.proofs.NumberLaws.{rank_zero}

-- ---- one word after the other

-- three words, for each of which the part that starts at its place is lent to the writer of a word
module _ (d : List ℕ) (at front k keep : ℕ) (h : at + record_size ≤ length d) (one two three : List ℕ) where
  abbrev first : List ℕ
  first = put_mid at (length d - at) d one

  abbrev second : List ℕ
  second = put_mid (at + 8) (length first - (at + 8)) first two

  pub words_stored : one ≡ bytes 8 front ++ drop 8 (mid_of at (length d - at) d)
      → two ≡ bytes 8 k ++ drop 8 (mid_of (at + 8) (length first - (at + 8)) first)
      → three ≡ bytes 8 keep ++ drop 8 (mid_of (at + 16) (length second - (at + 16)) second)
      → put_mid (at + 16) (length second - (at + 16)) second three ≡ sets d at (three_words front k keep)
  unfolding three_words
  words_stored e f g =
      let p = part_stored at d one (bytes 8 front) (omega arith) e in
      let l = ap length p ∙ length-sets d at (bytes 8 front) in
      let q = part_stored (at + 8) first two (bytes 8 k) (omega arith) f in
      let m = ap length q ∙ length-sets first (at + 8) (bytes 8 k) in
      part_stored (at + 16) second three (bytes 8 keep) (omega arith) g
      ∙ ap (λ (l : List ℕ). sets l (at + 16) (bytes 8 keep))
      (q ∙ ap (λ (l : List ℕ). sets l (at + 8) (bytes 8 k)) p ∙ stored_more (bytes 8 front) (bytes 8 k) d at)
      ∙ stored_more (bytes 8 front ++ bytes 8 k) (bytes 8 keep) d at

-- the header as one word
pub header_stored : (d after : List ℕ) (count : ℕ) → header_size ≤ length d → after ≡ bytes 8 (0x14e4350 + 0x1000000000000 * count) ++ drop 8 d
    → after ≡ sets d 0 (header_bytes count)
header_stored d after count h e =
    e ∙ ap (λ (l : List ℕ). l ++ drop 8 d) (bytes_parts 6 2 0x14e4350 count (omega arith)) ∙ sym (sets-eq (header_bytes count) d 0 h)

-- ---- the survivors

-- the records of the survivors below i are written
pub record Writing (d : Design) (masks old now : List ℕ) (i : ℕ) : Type 0 where
  pub low : i ≤ d.count
  pub size : length now ≡ length old
  pub done : now ≡ sets old header_size (encode_from (compact d masks) (new_number d masks i) 0)

pub writing_none : (d : Design) (masks old : List ℕ) → Writing d masks old old 0
unfolding encode_from
writing_none d masks old =
    record {
      low = omega arith;
      size = refl;
      done = ap (λ (r : ℕ). sets old header_size (encode_from (compact d masks) r 0)) (sym (rank_zero (survives d masks)));
    }

module _ (d : Design) (s : Sound d) (masks old : List ℕ) where
  module _ (now after : List ℕ) (i : ℕ) (w : Writing d masks old now i) (h : i < d.count)
      (e : after ≡ with_survivor d masks i now) where
    abbrev new : Design
    new = compact d masks

    abbrev r : ℕ
    r = new_number d masks i

    abbrev written : List ℕ
    written = encode_from new r 0

    to_next : (next : ℕ) → new_number d masks (suc i) ≡ next → encode_from new next 0 ≡ encode_from new (new_number d masks (i + 1)) 0
    to_next next q = ap (λ (m : ℕ). encode_from new m 0) (sym q ∙ ap (new_number d masks) (sym (add-one i)))

    -- a survivor, behind those before it
    one_more : survives d masks i ≡ true → after ≡ sets old header_size (encode_from new (new_number d masks (i + 1)) 0)
    unfolding survivor_bytes
    one_more t =
        e ∙ ap (λ (b : Bool). leaves b (sets now (record_start r) (survivor_bytes d masks i)) now) t
        ∙ ap₂ (λ (l : List ℕ) (p : ℕ). sets l p (survivor_bytes d masks i)) w.done
        (let l = length_from new r 0 in let q : record_start r ≡ header_size + length written = omega arith in q)
        ∙ stored_more written (survivor_bytes d masks i) old header_size
        ∙ ap (sets old header_size)
        (ap (λ (x : Record). written ++ encode_record x) (sym (record_is d s masks i h t)) ∙ sym (encode_next new r)
        ∙ to_next (suc r) (rank_more (survives d masks) i t))

    no_more : survives d masks i ≡ false → after ≡ sets old header_size (encode_from new (new_number d masks (i + 1)) 0)
    no_more t =
        e ∙ ap (λ (b : Bool). leaves b (sets now (record_start r) (survivor_bytes d masks i)) now) t
        ∙ w.done ∙ ap (sets old header_size) (to_next r (rank_none (survives d masks) i t))

    pub writing_next : Writing d masks old after (i + 1)
    writing_next =
        let q = by_test (survives d masks i) one_more no_more in
        record { low = omega arith; size = ap length q ∙ length-sets old header_size (encode_from new (new_number d masks (i + 1)) 0); done = q }

  pub writing_all : (now : List ℕ) (i : ℕ) → Writing d masks old now i → d.count ≤ i
      → now ≡ sets old header_size (survivors_bytes d masks)
  writing_all now i w h =
      w.done
      ∙ ap (λ (r : ℕ). sets old header_size (encode_from (compact d masks) r 0))
      (ap (new_number d masks) (let l = w.low in let q : i ≡ d.count = omega arith in q) ∙ sym (compact_count d s masks))

-- ---- the header and all survivors

pub file_stored : (d : Design) (old : List ℕ) (count : ℕ) → count ≡ d.count
    → sets (sets old 0 (header_bytes count)) header_size (encode_from d d.count 0) ≡ sets old 0 (encode d)
unfolding encode
file_stored d old count e =
    ap (λ (n : ℕ). sets (sets old 0 (header_bytes n)) header_size (encode_from d d.count 0)) e
    ∙ stored_more (header_bytes d.count) (encode_from d d.count 0) old 0
