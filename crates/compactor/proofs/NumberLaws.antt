-- Numbering what a test picks: from the flags of the test to the words that carry numbers, and what such a word says.
-- Assumes nothing.
use mathlib.Core.Path.{◌≡◌, refl, sym, ap, ◌∙◌}
use mathlib.Core.Bool.{Bool, true, false}
use mathlib.Core.Logic.{◌⊎◌, inl, inr}
use mathlib.Core.List.{List}
use Prim.Native.Nat.{ℕ, ◌+◌, ◌*◌, ◌/◌, ◌%◌, ◌≤◌, ◌<◌}
use native.Mathlib.Nat.{eq-or-lt_of_le, not-suc-le-zero}
use native.Mathlib.Numerals.{add-one}
use native.Mathlib.Omega.{arith}
use lib.ListN.{length, get_or, set, length-set}
use lib.Seq.{get_or-set_same, get_or-set_other}
use Rattle.endian.specs.Lists.{word_at, words_of}
use Rattle.endian.proofs.ListLaws.{length_words, words_of-word_at, words_only}
use Rattle.netlist.specs.Layout.{Design}
use Rattle.netlist.specs.Picked.{picked, rank_of}
use Rattle.netlist.proofs.PickedLaws.{rank_more, rank_none, rank_le}
use Rattle.netlist.proofs.Tests.{by_test}
use Rattle.compact.specs.Survivors.{survives}
use Rattle.compactor.specs.Numbers.{flag_of, rank_word, numbers_of}

pub flag_low : (b : Bool) → flag_of b ≤ 1
flag_low true = omega arith
flag_low false = omega arith

-- ---- ranks

pub rank_zero : (test : ℕ → Bool) → rank_of test 0 ≡ 0
unfolding picked
rank_zero test = refl

rank_next : (test : ℕ → Bool) (i : ℕ) → rank_of test (i + 1) ≡ rank_of test i + flag_of (test i)
rank_next test i =
    ap (rank_of test) (add-one i)
    ∙ by_test (test i)
    (λ e. let f = ap flag_of e in let r = rank_more test i e in omega arith)
    (λ e. let f = ap flag_of e in let r = rank_none test i e in omega arith)

-- ---- the list as it is being numbered

-- the first i words carry numbers, and the others are flags still
pub record Numbering (test : ℕ → Bool) (n : ℕ) (list : List ℕ) (count i : ℕ) : Type 0 where
  pub size : length list ≡ n
  pub low : i ≤ n
  pub count_is : count ≡ rank_of test i
  pub done : (j : ℕ) → j < i → word_at list j ≡ rank_word test j
  pub left : (j : ℕ) → i ≤ j → j < n → word_at list j ≡ flag_of (test j)

pub numbering_none : (test : ℕ → Bool) (n : ℕ) (list : List ℕ) → list ≡ words_of (λ i. flag_of (test i)) n → Numbering test n list 0 0
numbering_none test n list e =
    record {
      size = ap length e ∙ length_words (λ i. flag_of (test i)) n;
      low = omega arith;
      count_is = sym (rank_zero test);
      done = λ j h. absurd (not-suc-le-zero h);
      left = λ j h g. ap (λ (l : List ℕ). word_at l j) e ∙ words_of-word_at (λ i. flag_of (test i)) n j g;
    }

module _ {test : ℕ → Bool} {n : ℕ} {list : List ℕ} {count i : ℕ} (t : Numbering test n list count i) where
  -- counts and flags are low
  pub count_low : count ≤ n
  count_low = let e = t.count_is in let r = rank_le test i in let l = t.low in omega arith

  pub word_low : i < length list → word_at list i ≤ 1
  word_low h = let s = t.size in let e = t.left i (omega arith) (omega arith) in let f = flag_low (test i) in omega arith

  pub numbering_next : i < length list → Numbering test n (set list i (2 * count + word_at list i)) (count + word_at list i) (i + 1)
  numbering_next h =
      let s = t.size in
      let e = t.left i (omega arith) (omega arith) in
      let q = t.count_is in
      record {
        size = length-set list i new ∙ s;
        low = omega arith;
        count_is = let r = rank_next test i in omega arith;
        done = λ j g. here_or_before j (eq-or-lt_of_le (let l : j ≤ i = omega arith in l));
        left = λ j g l. get_or-set_other list i j new 0 (λ p. omega arith) ∙ t.left j (omega arith) l;
      }
    where
      new : ℕ
      new = 2 * count + word_at list i

      is_number : new ≡ rank_word test i
      is_number = let s = t.size in let e = t.left i (omega arith) (omega arith) in let q = t.count_is in omega arith

      here_or_before : (j : ℕ) → (j ≡ i) ⊎ (j < i) → word_at (set list i new) j ≡ rank_word test j
      here_or_before j (inl p) =
          ap (λ (k : ℕ). get_or (set list i new) k 0) p ∙ get_or-set_same list i new 0 h ∙ is_number ∙ ap (rank_word test) (sym p)
      here_or_before j (inr l) = get_or-set_other list i j new 0 (λ p. omega arith) ∙ t.done j l

  pub numbering_all : length list ≤ i → list ≡ words_of (rank_word test) n
  numbering_all h = let s = t.size in words_only (rank_word test) n list s (λ j g. t.done j (omega arith))

-- ---- what the words of a numbered list say

module _ (d : Design) (masks numbers : List ℕ) (e : numbers ≡ numbers_of d masks) where
  pub numbers_length : length numbers ≡ d.count
  unfolding numbers_of
  numbers_length = ap length e ∙ length_words (rank_word (survives d masks)) d.count

  module _ (i : ℕ) (h : i < d.count) where
    pub word_is : word_at numbers i ≡ rank_word (survives d masks) i
    unfolding numbers_of
    word_is = ap (λ (l : List ℕ). word_at l i) e ∙ words_of-word_at (rank_word (survives d masks)) d.count i h

    pub half_is : word_at numbers i / 2 ≡ rank_of (survives d masks) i
    half_is = let w = word_is in let f = flag_low (survives d masks i) in omega arith

    pub half_below : word_at numbers i / 2 < d.count
    half_below = let e = half_is in let r = rank_le (survives d masks) i in omega arith

    pub even_none : word_at numbers i % 2 ≡ 0 → survives d masks i ≡ false
    even_none z =
        by_test (survives d masks i)
        (λ t. absurd (let w = word_is in let f = ap flag_of t in omega arith))
        (λ t. t)

    pub odd_survives : (word_at numbers i % 2 ≡ 0 → ⊥) → survives d masks i ≡ true
    odd_survives z =
        by_test (survives d masks i) (λ t. t)
        (λ t. absurd (z (let w = word_is in let f = ap flag_of t in omega arith)))
