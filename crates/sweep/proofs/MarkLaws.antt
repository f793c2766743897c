-- Sets of marks: one that is set or cleared leaves the others, and what is known while the words are scanned for the highest one.
-- Assumes nothing.
use mathlib.Core.Path.{◌≡◌, sym, ap, subst, ◌∙◌}
use mathlib.Core.Logic.{◌≢◌, ◌⊎◌, inl, inr}
use mathlib.Core.List.{List}
use Prim.Native.Nat.{ℕ, zero, suc, ◌+◌, ◌-◌, ◌*◌, ◌/◌, ◌%◌, ◌^◌, ◌≤◌, ◌<◌}
use native.Mathlib.Nat.{mod-lt, mod-eq_of_lt, lt_of_lt_of_le}
use native.Mathlib.Omega.{arith}
use lib.Bits.{bit_and, bit_or}
use lib.ListN.{length, set, replicate}
use lib.Pow.{pow_pos, pow_mono}
use lib.Seq.{get_or-set_same, get_or-set_other}
use Rattle.std.proofs.Common.{w64}
use Rattle.std.specs.Int.{bit_not}
use Rattle.std.proofs.lemmas.Nat.Bits.{bit_at_not}
use Rattle.std.proofs.lemmas.List.{get_or-replicate, get_or_past, length-replicate}
use Rattle.endian.specs.Lists.{word_at}
use Rattle.bits.specs.Masks.{bit}
use Rattle.bits.specs.Words.{cut, bit_length}
use Rattle.bits.proofs.Counts.{length_in_holds}
use Rattle.bits.proofs.Digits.{bit_lt, bit_of_and, bit_of_or, bit_cut, bit_beyond, bit_single, bit_single_other}
use Rattle.bits.proofs.Shifts.{length_zero, length_le, length_one}
use Rattle.care.proofs.Families.{same_or_not, below_or_not}
use Rattle.sweep.specs.Marks.{mark_at, Put, NoneMarked, IsHighest}

-- ---- words without marks

pub none_marked : (n low i : ℕ) → NoneMarked (replicate n 0) low i
none_marked n low i j l h = ap (λ (w : ℕ). bit w (j % 64)) (word (below_or_not (j / 64) n)) ∙ bit_beyond 0 (j % 64) (pow_pos 0) (omega arith)
  where
    word : (j / 64 < n) ⊎ (n ≤ j / 64) → word_at (replicate n 0) (j / 64) ≡ 0
    word (inl l) = get_or-replicate n (j / 64) 0 0 l
    word (inr l) = get_or_past (replicate n 0) (j / 64) 0 (rw (length-replicate {A = ℕ} n 0) l)

-- ---- a mark that is set or cleared

-- a new word in the place of the one that has the mark of record i
module _ (marks : List ℕ) (i v new : ℕ) (h : i < 64 * length marks) (here : bit new (i % 64) ≡ v)
    (others : (k : ℕ) → k < 64 → k ≢ i % 64 → bit new k ≡ bit (word_at marks (i / 64)) k) where
  word : word_at (set marks (i / 64) new) (i / 64) ≡ new
  word = get_or-set_same marks (i / 64) new 0 (omega arith)

  other : (j : ℕ) → j ≢ i → (j / 64 ≡ i / 64) ⊎ (j / 64 ≢ i / 64) → mark_at (set marks (i / 64) new) j ≡ mark_at marks j
  other j n (inl e) =
      ap (λ (k : ℕ). bit (word_at (set marks (i / 64) new) k) (j % 64)) e
      ∙ ap (λ (w : ℕ). bit w (j % 64)) word
      ∙ others (j % 64) (omega arith) (λ m. n (omega arith))
      ∙ ap (λ (k : ℕ). bit (word_at marks k) (j % 64)) (sym e)
  other j n (inr m) = ap (λ (w : ℕ). bit w (j % 64)) (get_or-set_other marks (i / 64) (j / 64) new 0 m)

  put_word_at : Put marks i v (set marks (i / 64) new)
  put_word_at = record {
    here = ap (λ (w : ℕ). bit w (i % 64)) word ∙ here;
    others = λ j n. other j n (same_or_not (j / 64) (i / 64));
  }

module _ (marks : List ℕ) (i : ℕ) (h : i < 64 * length marks) where
  pub put_one : Put marks i 1 (set marks (i / 64) (bit_or (word_at marks (i / 64)) (2 ^ (i % 64))))
  put_one =
      let x = word_at marks (i / 64) in
      let p = i % 64 in
      put_word_at marks i 1 (bit_or x (2 ^ p)) h
      (let o = bit_of_or x (2 ^ p) p in let s = bit_single p in let b = bit_lt x p in omega arith)
      (λ k l n. let o = bit_of_or x (2 ^ p) k in let s = bit_single_other p k n in omega arith)

  pub put_zero : Put marks i 0 (set marks (i / 64) (bit_and (word_at marks (i / 64)) (bit_not w64 (2 ^ (i % 64)))))
  put_zero =
      let x = word_at marks (i / 64) in
      let p = i % 64 in
      let fits : 2 ^ p < 2 ^ 64 = let m = pow_mono {i = p} {j = 63} (omega arith) in omega arith in
      put_word_at marks i 0 (bit_and x (bit_not w64 (2 ^ p))) h
      (let o = bit_of_and x (bit_not w64 (2 ^ p)) p in let m = bit_at_not w64 (2 ^ p) p fits (omega arith) in let s = bit_single p in omega arith)
      (λ k l n.
      let o = bit_of_and x (bit_not w64 (2 ^ p)) k in
      let m = bit_at_not w64 (2 ^ p) k fits l in
      let s = bit_single_other p k n in
      let b = bit_lt x k in
      omega arith)

-- ---- the highest mark below a record

-- a word with marks has a length
pub length_some : (word : ℕ) → word ≢ 0 → word < 2 ^ bit_length word → 1 ≤ bit_length word
length_some word n = go (bit_length word)
  where
    go : (l : ℕ) → word < 2 ^ l → 1 ≤ l
    go zero h = absurd (n (omega arith))
    go (suc l) h = omega arith

-- a turn of the scan, at word `at`: no record behind it and below i is marked, and `word` has the marks of its records below i
module _ (marks : List ℕ) (i at word : ℕ) (place : 64 * at ≤ i) (bound : word < 2 ^ 64) (marks_below : word ≡ cut (i - 64 * at) (word_at marks at))
    (above : NoneMarked marks (64 * suc at) i) where
  mark_in : (k : ℕ) → k < 64 → 64 * at + k < i → mark_at marks (64 * at + k) ≡ bit word k
  mark_in k h l =
      ap (λ (a : ℕ). bit (word_at marks a) ((64 * at + k) % 64)) (omega arith)
      ∙ ap (bit (word_at marks at)) (omega arith)
      ∙ sym (bit_cut (word_at marks at) (i - 64 * at) k (omega arith))
      ∙ ap (λ (w : ℕ). bit w k) (sym marks_below)

  -- no mark stands at the word's length or above
  none_above : NoneMarked marks (64 * at + bit_length word) i
  none_above j l h = go (below_or_not j (64 * suc at))
    where
      go : (j < 64 * suc at) ⊎ (64 * suc at ≤ j) → mark_at marks j ≡ 0
      go (inl u) =
          subst (λ (j : ℕ). mark_at marks j ≡ 0) (omega arith)
          (mark_in (j - 64 * at) (omega arith) (omega arith)
          ∙ bit_beyond (bit_length word) (j - 64 * at) (length_in_holds 64 word bound) (omega arith))
      go (inr u) = above j u h

  -- a word without marks: none from its first record on
  scan_none : word ≡ 0 → NoneMarked marks (64 * at) i
  scan_none e j l h = none_above j (let z = ap bit_length e ∙ length_zero in omega arith) h

  -- a word with marks: its highest one is that of the highest record
  scan_in_range : word ≢ 0 → (1 ≤ bit_length word) × (64 * at + bit_length word ≤ i)
  scan_in_range n = (length_some word n (length_in_holds 64 word bound), let l = short in omega arith)
    where
      short : bit_length word ≤ i - 64 * at
      short = length_le (i - 64 * at) (subst (λ (w : ℕ). w < 2 ^ (i - 64 * at)) (sym marks_below) (mod-lt (word_at marks at) (pow_pos (i - 64 * at))))

  scan_found : word ≢ 0 → IsHighest marks i (64 * at + bit_length word - 1)
  scan_found n =
      let r = scan_in_range n in
      record {
        below = omega arith;
        marked =
            subst (λ (k : ℕ). mark_at marks k ≡ 1) (omega arith)
            (mark_in (bit_length word - 1) (let l = length_le 64 bound in omega arith) (omega arith)
            ∙ length_one word (bit_length word - 1) bound (omega arith));
        none = λ j l. none_above j (omega arith);
      }

-- the first word to be scanned is that of record i, of which the marks below i count
module _ (marks : List ℕ) (i word : ℕ) (bound : word < 2 ^ 64) (marks_below : word ≡ cut (i % 64) (word_at marks (i / 64))) where
  part : word ≡ cut (i - 64 * (i / 64)) (word_at marks (i / 64))
  part = marks_below ∙ ap (λ (n : ℕ). cut n (word_at marks (i / 64))) (omega arith)

  behind : NoneMarked marks (64 * suc (i / 64)) i
  behind j l h = absurd (let z : 1 ≤ 0 = omega arith in omega arith)

  pub first_none : word ≡ 0 → NoneMarked marks (64 * (i / 64)) i
  first_none = scan_none marks i (i / 64) word (omega arith) bound part behind

  pub first_in_range : word ≢ 0 → (1 ≤ bit_length word) × (64 * (i / 64) + bit_length word ≤ i)
  first_in_range = scan_in_range marks i (i / 64) word (omega arith) bound part behind

  pub first_found : word ≢ 0 → IsHighest marks i (64 * (i / 64) + bit_length word - 1)
  first_found = scan_found marks i (i / 64) word (omega arith) bound part behind

-- the others are scanned whole; the next one is the word below `next`
module _ (marks : List ℕ) (i next : ℕ) (turn : 0 < next) (in_range : next ≤ i / 64) (bound : word_at marks (next - 1) < 2 ^ 64) (above : NoneMarked marks (64 * next) i) where
  whole : word_at marks (next - 1) ≡ cut (i - 64 * (next - 1)) (word_at marks (next - 1))
  whole = sym (mod-eq_of_lt (lt_of_lt_of_le bound (pow_mono {i = 64} {j = i - 64 * (next - 1)} (omega arith))))

  behind_next : NoneMarked marks (64 * suc (next - 1)) i
  behind_next j l h = above j (omega arith) h

  pub next_none : word_at marks (next - 1) ≡ 0 → NoneMarked marks (64 * (next - 1)) i
  next_none = scan_none marks i (next - 1) _ (omega arith) bound whole behind_next

  pub next_in_range : word_at marks (next - 1) ≢ 0
      → (1 ≤ bit_length (word_at marks (next - 1))) × (64 * (next - 1) + bit_length (word_at marks (next - 1)) ≤ i)
  next_in_range = scan_in_range marks i (next - 1) _ (omega arith) bound whole behind_next

  pub next_found : word_at marks (next - 1) ≢ 0 → IsHighest marks i (64 * (next - 1) + bit_length (word_at marks (next - 1)) - 1)
  next_found = scan_found marks i (next - 1) _ (omega arith) bound whole behind_next
