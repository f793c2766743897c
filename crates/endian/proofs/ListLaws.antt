-- Laws of lists that a rule gives, of sums, and of the front of a list: length, words, bounds and growth.
-- Assumes nothing.
use mathlib.Core.Path.{◌≡◌, refl, sym, ap, ◌∙◌}
use mathlib.Core.Logic.{◌⊎◌, inl, inr}
use mathlib.Core.List.{List, ◌++◌}
use Prim.Native.Nat.{ℕ, zero, suc, ◌+◌, ◌*◌, ◌≤◌, ◌<◌}
use native.Mathlib.Nat.{add-zero, zero-add, add-suc, suc-add, le_of_suc-le-suc, eq-or-lt_of_le, not-suc-le-zero, mul-suc}
use native.Mathlib.Numerals.{add-one}
use native.Mathlib.Omega.{arith}
use lib.ListN.{length, get_or, set, take, length-set}
use lib.Seq.{ext_get_or, get_or-set_same, get_or-set_other, take_at}
use Rattle.std.proofs.lemmas.List.{length-append}
use Rattle.endian.specs.Lists.{words_from, words_of, sum_to}

length_from : (f : ℕ → ℕ) (i n : ℕ) → length (words_from f i n) ≡ n
unfolding words_from
length_from f i zero = refl
length_from f i (suc n) = ap suc (length_from f (suc i) n)

from_at : (f : ℕ → ℕ) (i n k : ℕ) → k < n → get_or (words_from f i n) k 0 ≡ f (i + k)
unfolding words_from
from_at f i zero k h = absurd (not-suc-le-zero h)
from_at f i (suc n) zero h = ap f (sym (add-zero i))
from_at f i (suc n) (suc k) h = from_at f (suc i) n k (le_of_suc-le-suc h) ∙ ap f (suc-add i k ∙ sym (add-suc i k))

pub length_words : (f : ℕ → ℕ) (n : ℕ) → length (words_of f n) ≡ n
unfolding words_of
length_words f n = length_from f 0 n

pub words_of-word_at : (f : ℕ → ℕ) (n i : ℕ) → i < n → get_or (words_of f n) i 0 ≡ f i
unfolding words_of
words_of-word_at f n i h = from_at f 0 n i h ∙ ap f (zero-add i)

-- a list of n words whose word i is f i is the one that the rule gives
pub words_only : (f : ℕ → ℕ) (n : ℕ) (l : List ℕ) → length l ≡ n → ((i : ℕ) → i < n → get_or l i 0 ≡ f i) → l ≡ words_of f n
words_only f n l e h =
    ext_get_or 0 l (words_of f n) (e ∙ sym (length_words f n)) (λ i g. let k : i < n = omega arith in h i k ∙ sym (words_of-word_at f n i k))

pub sum_mono : (f g : ℕ → ℕ) (n : ℕ) → ((i : ℕ) → i < n → f i ≤ g i) → sum_to f n ≤ sum_to g n
unfolding sum_to
sum_mono f g zero h = omega arith
sum_mono f g (suc n) h = let a = sum_mono f g n (λ i k. h i (omega arith)) in let b = h n (omega arith) in omega arith

-- where no term falls and the sum stays, each term stays
pub sum_same : (f g : ℕ → ℕ) (n : ℕ) → ((i : ℕ) → i < n → f i ≤ g i) → sum_to f n ≡ sum_to g n → (i : ℕ) → i < n → f i ≡ g i
unfolding sum_to
sum_same f g zero h e i k = absurd (not-suc-le-zero k)
sum_same f g (suc n) h e i k =
    let a = sum_mono f g n (λ j l. h j (omega arith)) in
    let b = h n (omega arith) in
    go (sum_same f g n (λ j l. h j (omega arith)) (omega arith)) (let x : f n ≡ g n = omega arith in x) (eq-or-lt_of_le (let l : i ≤ n = omega arith in l))
  where
    go : ((j : ℕ) → j < n → f j ≡ g j) → f n ≡ g n → (i ≡ n) ⊎ (i < n) → f i ≡ g i
    go below last (inl q) = ap f q ∙ last ∙ ap g (sym q)
    go below last (inr l) = below i l

pub sum_bound : (f : ℕ → ℕ) (b n : ℕ) → ((i : ℕ) → i < n → f i ≤ b) → sum_to f n ≤ b * n
unfolding sum_to
sum_bound f b zero h = omega arith
sum_bound f b (suc n) h =
    let a = sum_bound f b n (λ i k. h i (omega arith)) in
    let c = h n (omega arith) in
    omega (arith, mul-suc b n)

pub sum_next : (f : ℕ → ℕ) (n : ℕ) → sum_to f (n + 1) ≡ sum_to f n + f n
unfolding sum_to
sum_next f n = ap (sum_to f) (add-one n)

-- a list of n words of which the first i are those that a rule gives
pub record Filled (f : ℕ → ℕ) (n : ℕ) (list : List ℕ) (i : ℕ) : Type 0 where
  pub size : length list ≡ n
  pub low : i ≤ n
  pub each : (j : ℕ) → j < i → get_or list j 0 ≡ f j

pub filled_none : (f : ℕ → ℕ) (n : ℕ) (list : List ℕ) → length list ≡ n → Filled f n list 0
filled_none f n list e = record { size = e; low = omega arith; each = λ j h. absurd (not-suc-le-zero h) }

pub filled_next : {f : ℕ → ℕ} {n : ℕ} {list : List ℕ} {i v : ℕ} → Filled f n list i → i < length list → v ≡ f i → Filled f n (set list i v) (i + 1)
filled_next {f} {n} {list} {i} {v} t h e = record {
  size = length-set list i v ∙ t.size;
  low = let s = t.size in omega arith;
  each = λ j k. go j (eq-or-lt_of_le (let l : j ≤ i = omega arith in l));
}
  where
    go : (j : ℕ) → (j ≡ i) ⊎ (j < i) → get_or (set list i v) j 0 ≡ f j
    go j (inl q) = ap (λ (k : ℕ). get_or (set list i v) k 0) q ∙ get_or-set_same list i v 0 h ∙ e ∙ ap f (sym q)
    go j (inr l) = get_or-set_other list i j v 0 (λ q. omega arith) ∙ t.each j l

pub filled_all : {f : ℕ → ℕ} {n : ℕ} {list : List ℕ} {i : ℕ} → Filled f n list i → length list ≤ i → list ≡ words_of f n
filled_all {f} {n} {list} {i} t h = let s = t.size in words_only f n list s (λ j k. t.each j (omega arith))

-- a list whose front has n words, when the front is lent
module _ (front rest : List ℕ) {n : ℕ} (e : length front ≡ n) where
  pub front_within : n ≤ length (front ++ rest)
  front_within = omega (arith, length-append front rest)

  pub taken_length : n ≡ length (take n (front ++ rest))
  taken_length = sym (ap length (take_at front rest n e) ∙ e)
