-- Laws of values: what stands at each place of the board list, what a value depends on, and that it lies within its width and keep word.
-- Assumes nothing.
use mathlib.Core.Path.{◌≡◌, refl, sym, ap, subst, ◌∙◌}
use mathlib.Core.Bool.{true}
use mathlib.Core.Logic.{◌⊎◌, inl, inr}
use mathlib.Core.List.{List}
use Prim.Native.Nat.{ℕ, zero, suc, ◌+◌, ◌^◌, ◌≤◌, ◌<◌}
use native.Mathlib.Nat.{eq-or-lt_of_le, not-suc-le-zero}
use native.Mathlib.Numerals.{add-one}
use native.Mathlib.Omega.{arith}
use lib.Bits.{bit_and}
use lib.ListN.{length, set, length-set}
use lib.Seq.{get_or-set_same, get_or-set_other}
use Rattle.endian.specs.Lists.{word_at}
use Rattle.bits.specs.Masks.{Within}
use Rattle.bits.proofs.Order.{meet_right, within_lt}
use Rattle.netlist.specs.Kinds.{is_held}
use Rattle.netlist.specs.Layout.{Design, role_at}
use Rattle.rules.specs.Sound.{Sound}
use Rattle.signal.specs.Results.{result_at}
use Rattle.signal.proofs.ResultLaws.{result_same}
use Rattle.clock.specs.Values.{unchanged, value_at, values_to, values_of}

-- ---- one value

-- "with the bits cleared where its keep word has 0"
pub value_kept : (d : Design) (board : List ℕ) (i : ℕ) → Within (value_at d board i) (d.at i).keep
value_kept d board i = meet_right (result_at d.at (word_at board) i) (d.at i).keep

module _ (d : Design) (s : Sound d) (i : ℕ) (h : i < d.count) where
  pub value_narrow : (board : List ℕ) → value_at d board i < 2 ^ (d.at i).width
  value_narrow board = within_lt (d.at i).width (value_kept d board i) (s.each i h).keep

  -- it depends on the words of records below alone, and on the record's own word at an input or register
  pub value_same : (board other : List ℕ) → ((j : ℕ) → j < i → word_at board j ≡ word_at other j)
      → (is_held (role_at d i) ≡ true → word_at board i ≡ word_at other i) → value_at d board i ≡ value_at d other i
  value_same board other below own =
      ap (λ (r : ℕ). bit_and r (d.at i).keep) (result_same d s i h (word_at board) (word_at other) below own)

-- ---- the places of the board list

-- a plain cycle goes on by one record
pub values_next : (d : Design) (board list : List ℕ) (i v : ℕ) → list ≡ values_to d unchanged board i → v ≡ value_at d list i
    → set list i v ≡ values_to d unchanged board (i + 1)
unfolding values_to
values_next d board list i v e q =
    ap (set list i) q ∙ ap (λ (l : List ℕ). set l i (value_at d l i)) e ∙ ap (values_to d unchanged board) (sym (add-one i))

module _ (d : Design) (change : ℕ → ℕ → ℕ) (board : List ℕ) where
  length_to : (i : ℕ) → length (values_to d change board i) ≡ length board
  unfolding values_to
  length_to zero = refl
  length_to (suc i) = length-set (values_to d change board i) i _ ∙ length_to i

  pub length_values : length (values_of d change board) ≡ length board
  unfolding values_of
  length_values = length_to d.count

  -- a place that is not yet reached holds what it held
  pub not_reached : (i j : ℕ) → i ≤ j → word_at (values_to d change board i) j ≡ word_at board j
  unfolding values_to
  not_reached zero j h = refl
  not_reached (suc i) j h = get_or-set_other (values_to d change board i) i j _ 0 (λ q. omega arith) ∙ not_reached i j (omega arith)

  -- a place that is passed holds its value from then on
  pub reached : (i j : ℕ) → j < i → i ≤ length board → word_at (values_to d change board i) j ≡ change j (value_at d (values_to d change board j) j)
  unfolding values_to
  reached zero j h l = absurd (not-suc-le-zero h)
  reached (suc i) j h l = here_or_before (reached i j) (eq-or-lt_of_le (let g : j ≤ i = omega arith in g))
    where
      list : List ℕ
      list = values_to d change board i

      here_or_before : (j < i → i ≤ length board → word_at list j ≡ change j (value_at d (values_to d change board j) j)) → (j ≡ i) ⊎ (j < i)
          → word_at (set list i (change i (value_at d list i))) j ≡ change j (value_at d (values_to d change board j) j)
      here_or_before before (inl q) =
          ap (word_at (set list i (change i (value_at d list i)))) q
          ∙ get_or-set_same list i _ 0 (let e = length_to i in omega arith)
          ∙ ap (λ (k : ℕ). change k (value_at d (values_to d change board k) k)) (sym q)
      here_or_before before (inr g) = get_or-set_other list i j _ 0 (λ q. omega arith) ∙ before g (omega arith)

-- ---- all values of a cycle

module _ (d : Design) (s : Sound d) (change : ℕ → ℕ → ℕ) (board : List ℕ) (e : length board ≡ d.count) (i : ℕ) (h : i < d.count) where
  abbrev values : List ℕ
  values = values_of d change board

  value_is : word_at values i ≡ change i (value_at d (values_to d change board i) i)
  unfolding values_of
  value_is = reached d change board d.count i h (omega arith)

  -- each signal has the value that its record gives from the values of its operands, and at an input or register from the board's word
  pub value_defined : word_at values i ≡ change i (value_at d (set values i (word_at board i)) i)
  unfolding values_of
  value_defined = value_is ∙ ap (change i) (value_same d s i h (values_to d change board i) (set values i (word_at board i)) below (λ held. own))
    where
      below : (j : ℕ) → j < i → word_at (values_to d change board i) j ≡ word_at (set values i (word_at board i)) j
      below j g =
          reached d change board i j g (omega arith) ∙ sym (reached d change board d.count j (omega arith) (omega arith))
          ∙ sym (get_or-set_other values i j (word_at board i) 0 (λ q. omega arith))

      own : word_at (values_to d change board i) i ≡ word_at (set values i (word_at board i)) i
      own =
          not_reached d change board i i (omega arith)
          ∙ sym (get_or-set_same values i (word_at board i) 0 (let l = length_values d change board in omega arith))

  -- and lies within its width, where a change leaves it there
  pub values_narrow : ((v : ℕ) → v < 2 ^ (d.at i).width → change i v < 2 ^ (d.at i).width) → word_at values i < 2 ^ (d.at i).width
  values_narrow kept = subst (λ (v : ℕ). v < 2 ^ (d.at i).width) (sym value_is) (kept _ (value_narrow d s i h (values_to d change board i)))
