-- The bytes of an encoded design: its length, one record more, and the bytes and numbers of record i as those of that record's own 24 bytes.
-- Assumes nothing.
use mathlib.Core.Path.{◌≡◌, refl, sym, ap, ap₂, ◌∙◌}
use mathlib.Core.List.{List, ◌++◌, append_assoc, append-nil}
use Prim.Native.Nat.{ℕ, zero, suc, ◌+◌, ◌*◌, ◌≤◌, ◌<◌}
use native.Mathlib.Nat.{add-zero, add-suc, zero-add, suc-add, le_of_suc-le-suc}
use native.Mathlib.Omega.{arith}
use lib.ListN.{length, get_or, length-append, get_or-append}
use lib.Seq.{get_or-append-add}
use Rattle.endian.specs.Bytes.{number_at}
use Rattle.netlist.specs.Layout.{Design, record_size, record_start}
use Rattle.netlist.specs.declared.record.Record.{Record}
use Rattle.rules.specs.Encode.{encode, encode_from, encode_record}

pub length_record : (r : Record) → length (encode_record r) ≡ record_size
unfolding encode_record
length_record r = refl

pub length_from : (d : Design) (left i : ℕ) → length (encode_from d left i) ≡ record_size * left
unfolding encode_from
length_from d zero i = refl
length_from d (suc left) i =
    length-append (encode_record (d.at i)) (encode_from d left (suc i)) ∙ ap₂ ◌+◌ (length_record (d.at i)) (length_from d left (suc i))
    ∙ omega arith

-- one record more
from_next : (d : Design) (n i : ℕ) → encode_from d (suc n) i ≡ encode_from d n i ++ encode_record (d.at (i + n))
unfolding encode_from
from_next d zero i = append-nil (encode_record (d.at i)) ∙ ap (λ (j : ℕ). encode_record (d.at j)) (sym (add-zero i))
from_next d (suc n) i =
    ap (λ (l : List ℕ). encode_record (d.at i) ++ l)
    (from_next d n (suc i) ∙ ap (λ (j : ℕ). encode_from d n (suc i) ++ encode_record (d.at j)) (suc-add i n ∙ sym (add-suc i n)))
    ∙ sym (append_assoc (encode_record (d.at i)) (encode_from d n (suc i)) (encode_record (d.at (i + suc n))))

pub encode_next : (d : Design) (n : ℕ) → encode_from d (suc n) 0 ≡ encode_from d n 0 ++ encode_record (d.at n)
encode_next d n = from_next d n 0 ∙ ap (λ (j : ℕ). encode_from d n 0 ++ encode_record (d.at j)) (zero-add n)

pub length_encode : (d : Design) → length (encode d) ≡ record_start d.count
unfolding encode
length_encode d = let e = length_from d d.count 0 in omega arith

-- byte k of the j-th of the records from i on
byte_from : (d : Design) (left i j k : ℕ) → j < left → k < record_size → get_or (encode_from d left i) (record_size * j + k) 0 ≡ get_or (encode_record (d.at (i + j))) k 0
unfolding encode_from
byte_from d zero i j k h g = absurd (omega arith)
byte_from d (suc left) i zero k h g =
    ap (λ (m : ℕ). get_or (encode_record (d.at i) ++ encode_from d left (suc i)) m 0) (zero-add k)
    ∙ get_or-append (encode_record (d.at i)) (encode_from d left (suc i)) 0 k (rw length_record g)
    ∙ ap (λ (m : ℕ). get_or (encode_record (d.at m)) k 0) (sym (add-zero i))
byte_from d (suc left) i (suc j) k h g =
    ap (λ (m : ℕ). get_or (encode_record (d.at i) ++ encode_from d left (suc i)) m 0) past
    ∙ get_or-append-add (encode_record (d.at i)) (encode_from d left (suc i)) (record_size * j + k) 0
    ∙ byte_from d left (suc i) j k (le_of_suc-le-suc h) g
    ∙ ap (λ (m : ℕ). get_or (encode_record (d.at m)) k 0) (suc-add i j ∙ sym (add-suc i j))
  where
    past : record_size * suc j + k ≡ length (encode_record (d.at i)) + (record_size * j + k)
    past = let e = length_record (d.at i) in omega arith

pub byte_encode : (d : Design) (i k : ℕ) → i < d.count → k < record_size → get_or (encode d) (record_start i + k) 0 ≡ get_or (encode_record (d.at i)) k 0
unfolding encode
byte_encode d i k h g =
    ap (λ (m : ℕ). get_or (encode d) m 0) past_header ∙ byte_from d d.count 0 i k h g ∙ ap (λ (m : ℕ). get_or (encode_record (d.at m)) k 0) (zero-add i)
  where
    past_header : record_start i + k ≡ suc (suc (suc (suc (suc (suc (suc (suc (record_size * i + k))))))))
    past_header = omega arith

-- a number within a record
pub number_encode : (d : Design) (i at size : ℕ) → i < d.count → at + size ≤ record_size → number_at (encode d) (record_start i + at) size ≡ number_at (encode_record (d.at i)) at size
number_encode d i at zero h g = refl
number_encode d i at (suc size) h g =
    ap₂ (λ (x y : ℕ). x + 256 * y) (byte_encode d i at h (omega arith))
    (ap (λ (m : ℕ). number_at (encode d) m size) (sym (add-suc (record_start i) at)) ∙ number_encode d i (suc at) size h (omega arith))
