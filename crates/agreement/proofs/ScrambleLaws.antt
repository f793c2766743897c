-- What scrambling does to a value: the bits of the mask stay, no bit beyond the width is set, and all others can become anything.
-- Assumes nothing.
use mathlib.Core.Path.{◌≡◌, ap₂, ◌∙◌}
use mathlib.Core.List.{List}
use mathlib.Core.Logic.{◌⊎◌, inl, inr}
use Prim.Native.Nat.{ℕ, ◌^◌, ◌≤◌, ◌<◌, min, max}
use native.Mathlib.Omega.{arith}
use lib.Bits.{bit_and, or_lt}
use Rattle.bits.specs.Masks.{bit, Agree}
use Rattle.bits.specs.Words.{low_mask}
use Rattle.bits.proofs.Agreement.{agree_refl, agree_by_bits, agree_bit}
use Rattle.bits.proofs.Digits.{bit_lt, bit_cases, bits_ext, bit_of_and, bit_of_or, bit_without, bit_low, bit_beyond}
use Rattle.bits.proofs.Order.{within_lt, low_within, meet_left, meet_right, without_within}
use Rattle.netlist.specs.Layout.{Design}
use Rattle.care.specs.Least.{mask_at}
use Rattle.care.proofs.Families.{below_or_not}
use Rattle.agreement.specs.Scrambled.{outside, scramble, Manner, plain, scrambled, change_in}

-- ---- bit by bit

-- a bit of the mask is not outside, and every other bit of the width is
outside_cared : (w m i : ℕ) → bit m i ≡ 1 → bit (outside w m) i ≡ 0
outside_cared w m i e = let p = bit_without (low_mask w) m i in let l = bit_lt (low_mask w) i in omega arith

outside_free : (w m i : ℕ) → bit m i ≡ 0 → i < w → bit (outside w m) i ≡ 1
outside_free w m i e h = let p = bit_without (low_mask w) m i in let l = bit_low w i h in omega arith

bit_scrambled : (w m noise value i : ℕ) → bit (scramble w m noise value) i ≡ max (min (bit value i) (bit m i)) (min (bit noise i) (bit (outside w m) i))
unfolding scramble
bit_scrambled w m noise value i =
    bit_of_or (bit_and value m) (bit_and noise (outside w m)) i ∙ ap₂ max (bit_of_and value m i) (bit_of_and noise (outside w m) i)

-- ---- "the bits of it within its width and outside its mask are set to anything"

-- the bits of the mask stay
pub scramble_cared : (w m noise value : ℕ) → Agree m (scramble w m noise value) value
scramble_cared w m noise value =
    agree_by_bits (λ i e.
    let s = bit_scrambled w m noise value i in
    let o = outside_cared w m i e in
    let l = bit_lt value i in
    let g = bit_lt noise i in
    omega arith)

-- no bit beyond the width is set
pub scramble_narrow : (w m noise value : ℕ) → value < 2 ^ w → scramble w m noise value < 2 ^ w
unfolding scramble
scramble_narrow w m noise value h =
    or_lt w (bit_and value m) (bit_and noise (outside w m)) (within_lt w (meet_left value m) h)
    (within_lt w (meet_right noise (outside w m)) (outside_lt w m))
  where
    outside_lt : (w m : ℕ) → outside w m < 2 ^ w
    outside_lt w m = low_within w (without_within (low_mask w) m)

-- and any word within the width that agrees on the mask can come out
pub scramble_any : (w m value other : ℕ) → value < 2 ^ w → other < 2 ^ w → Agree m other value → scramble w m other value ≡ other
scramble_any w m value other h g a = bits_ext (scramble w m other value) other (λ i. go i (bit_cases m i) (below_or_not i w))
  where
    go : (i : ℕ) → (bit m i ≡ 0) ⊎ (bit m i ≡ 1) → (i < w) ⊎ (w ≤ i) → bit (scramble w m other value) i ≡ bit other i
    go i (inr e) c =
        let s = bit_scrambled w m other value i in
        let o = outside_cared w m i e in
        let q = agree_bit a i e in
        let l = bit_lt value i in
        omega arith
    go i (inl e) (inl c) =
        let s = bit_scrambled w m other value i in
        let o = outside_free w m i e c in
        let l = bit_lt other i in
        omega arith
    go i (inl e) (inr c) =
        let s = bit_scrambled w m other value i in
        let o = bit_beyond w i g c in
        omega arith

-- ---- what becomes of a value in a run

-- a change that leaves the bits of a mask and stays within the width
pub record Gentle (d : Design) (masks : List ℕ) (change : ℕ → ℕ → ℕ) : Type 0 where
  pub cared : (i value : ℕ) → Agree (mask_at masks i) (change i value) value
  pub narrow : (i value : ℕ) → value < 2 ^ (d.at i).width → change i value < 2 ^ (d.at i).width

pub gentle : (manner : Manner) (d : Design) (masks : List ℕ) (j : ℕ) → Gentle d masks (change_in manner d masks j)
unfolding change_in
gentle plain d masks j = record { cared = λ i value. agree_refl _ _; narrow = λ i value h. h }
gentle (scrambled noise) d masks j =
    record {
      cared = λ i value. scramble_cared (d.at i).width (mask_at masks i) (noise j i) value;
      narrow = λ i value h. scramble_narrow (d.at i).width (mask_at masks i) (noise j i) value h;
    }
