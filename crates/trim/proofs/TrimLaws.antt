-- The bytes of a trimmed file: its length, that only keep words change, and what the new keep words are.
-- Assumes nothing.
use mathlib.Core.Path.{◌≡◌, refl, sym, ap, ap₂, subst, ◌∙◌}
use mathlib.Core.Logic.{◌⊎◌, inl, inr}
use mathlib.Core.List.{List, ◌++◌, append-nil}
use Prim.Native.Nat.{ℕ, zero, suc, ◌+◌, ◌-◌, ◌^◌, ◌≤◌, ◌<◌}
use native.Mathlib.Nat.{eq-or-lt_of_le, not-suc-le-zero}
use native.Mathlib.Numerals.{add-one}
use native.Mathlib.Omega.{arith}
use lib.ListN.{length, take, drop, length-set}
use lib.Seq.{sets, length-sets, take-length, drop-length}
use borrow.Rule.Slice.PartMut.{mid_of, put_mid}
use Rattle.endian.specs.Bytes.{number_at, bytes}
use Rattle.endian.proofs.Stores.{stored_before, stored_outside, number_same, number_stored, part_stored}
use Rattle.netlist.specs.Layout.{count_of, byte_at, record_at, record_size, record_start, keep_start}
use Rattle.signal.specs.Asks.{demand_of}
use Rattle.care.specs.Least.{mask_at}
use Rattle.care.proofs.Families.{below_or_not}
use Rattle.trim.specs.Trimmed.{new_keep, trim_to, trimmed_by, Outside}

-- ---- what lies outside the keep words

-- the bytes before a record's keep word do
pub before_keep : (n j o : ℕ) → o < 16 → Outside n (record_start j + o)
before_keep n j o h i g = go (below_or_not j (suc i))
  where
    go : (j < suc i) ⊎ (suc i ≤ j) → (record_start j + o < keep_start i) ⊎ (keep_start i + 8 ≤ record_start j + o)
    go (inl l) = inl (omega arith)
    go (inr l) = inr (omega arith)

-- and so do those of the header
pub in_header : (n p : ℕ) → p < 8 → Outside n p
in_header n p h i g = inl (omega arith)

module _ (file masks : List ℕ) where
  pub length_trim : (n : ℕ) → length (trim_to file masks n) ≡ length file
  unfolding trim_to
  length_trim zero = refl
  length_trim (suc n) = simp length-set (length_trim n)

  -- "It changes only bytes 16 to 23 of each record"
  pub trim_outside : (n p : ℕ) → Outside n p → byte_at (trim_to file masks n) p ≡ byte_at file p
  unfolding trim_to
  trim_outside zero p h = refl
  trim_outside (suc n) p h =
      stored_outside (bytes 8 (new_keep file masks n)) (trim_to file masks n) _ p (h n (omega arith)) ∙ trim_outside n p (λ i g. h i (omega arith))

  -- "the new keep word is D"
  pub trim_keep : (n j : ℕ) → j < n → record_start n ≤ length file → demand_of (record_at file j) (mask_at masks j) < 2 ^ 64
      → number_at (trim_to file masks n) (keep_start j) 8 ≡ demand_of (record_at file j) (mask_at masks j)
  unfolding trim_to
  trim_keep zero j h l low = absurd (not-suc-le-zero h)
  trim_keep (suc n) j h l low = here_or_before (λ g. trim_keep n j g (omega arith) low) (eq-or-lt_of_le (let g : j ≤ n = omega arith in g))
    where
      list : List ℕ
      list = trim_to file masks n

      new : List ℕ
      new = bytes 8 (new_keep file masks n)

      D : ℕ → ℕ
      D i = demand_of (record_at file i) (mask_at masks i)

      here_or_before : (j < n → number_at list (keep_start j) 8 ≡ D j) → (j ≡ n) ⊎ (j < n) → number_at (sets list (keep_start n) new) (keep_start j) 8 ≡ D j
      here_or_before before (inl q) =
          ap (λ (k : ℕ). number_at (sets list (keep_start n) new) (keep_start k) 8) q
          ∙ number_stored 8 (D n) list (keep_start n) (let e = length_trim n in omega arith) (subst (λ (k : ℕ). D k < 2 ^ 64) q low)
          ∙ ap D (sym q)
      here_or_before before (inr g) =
          number_same (sets list (keep_start n) new) list (keep_start j) 8 (λ p a b. stored_before new list (keep_start n) p (omega arith)) ∙ before g

-- ---- the file as it is being written

-- the keep words of the first i records are cut, and nothing else is changed
pub record Trimming (file masks d : List ℕ) (i : ℕ) : Type 0 where
  pub low : i ≤ length masks
  pub size : length d ≡ length file
  pub done : d ≡ trim_to file masks i

-- a copy of the file is the beginning
pub trimming_none : (file masks d e : List ℕ) → length e ≡ length file → d ≡ take (length file) file ++ drop (length file) e → Trimming file masks d 0
unfolding trim_to
trimming_none file masks d e s q =
    let same : d ≡ file =
    q ∙ ap₂ (λ (l m : List ℕ). l ++ m) (take-length file) (ap (λ (n : ℕ). drop n e) (sym s) ∙ drop-length e) ∙ append-nil file in
    record { low = omega arith; size = ap length same; done = same }

-- the part that starts at a keep word is lent to the writer of a word
pub trimming_next : (file masks d part : List ℕ) (i at v : ℕ) → Trimming file masks d i → i < length masks → record_start i + record_size ≤ length file
    → at ≡ keep_start i → v ≡ new_keep file masks i → part ≡ bytes 8 v ++ drop 8 (mid_of at (length d - at) d)
    → Trimming file masks (put_mid at (length d - at) d part) (i + 1)
unfolding trim_to
trimming_next file masks d part i at v t h l ea ev q =
    let s = t.size in
    let stored = part_stored at d part (bytes 8 v) (omega arith) q in
    record {
      low = omega arith;
      size = ap length stored ∙ length-sets d at (bytes 8 v) ∙ s;
      done =
          stored
          ∙ ap₂ (λ (l : List ℕ) (p : ℕ). sets l p (bytes 8 v)) t.done ea
          ∙ ap (λ (x : ℕ). sets (trim_to file masks i) (keep_start i) (bytes 8 x)) ev
          ∙ ap (trim_to file masks) (sym (add-one i));
    }

pub trimming_all : (file masks d : List ℕ) (i : ℕ) → Trimming file masks d i → length masks ≤ i → length masks ≡ count_of file → d ≡ trimmed_by file masks
unfolding trimmed_by
trimming_all file masks d i t h e = t.done ∙ ap (trim_to file masks) (let l = t.low in omega arith)
