-- What `cut_to` gives: a cut by a low mask below 64 bits, the whole word from there on, and of a sum or difference that wrapped the cut of it unwrapped.
-- Assumes nothing.
use Rattle.std.proofs.Common.{◌≡◌, ℕ, ◌+◌, ◌-◌, ◌%◌, ◌^◌, ◌<◌, ◌≤◌, sym, ap, ◌∙◌, lt_of_lt_of_le, mod-eq_of_lt, arith, pow_mono}
use native.Mathlib.Nat.{mod-add-mod, add-mod_right}
use lib.Bits.{bit_and, and_mask}
use Rattle.bits.specs.Words.{cut, low_mask, difference_at}
use Rattle.bits.proofs.Modulo.{cut_cut, difference_only}

pub cut_masked : (x w mask : ℕ) → mask ≡ low_mask w → bit_and x mask ≡ cut w x
cut_masked x w mask e = ap (bit_and x) e ∙ and_mask x w

pub cut_whole : (x w : ℕ) → x < 2 ^ 64 → 64 ≤ w → x ≡ cut w x
cut_whole x w h g = sym (mod-eq_of_lt (lt_of_lt_of_le h (pow_mono g)))

pub cut_wrapped : (x w : ℕ) → w ≤ 64 → x % 2 ^ 64 % 2 ^ w ≡ cut w x
cut_wrapped x w h = cut_cut x h

-- what y added to gives x is the difference, at 64 bits and so at w
pub difference_wrapped : (x y w : ℕ) → y < 2 ^ 64 → w ≤ 64 → (x + (2 ^ 64 - y)) % 2 ^ 64 % 2 ^ w ≡ difference_at w x y
difference_wrapped x y w g h = difference_only w x y d (sym (cut_cut (d + y) h) ∙ ap (λ (n : ℕ). n % 2 ^ w) back ∙ cut_cut x h)
  where
    d : ℕ
    d = (x + (2 ^ 64 - y)) % 2 ^ 64

    back : (d + y) % 2 ^ 64 ≡ x % 2 ^ 64
    back =
        mod-add-mod (x + (2 ^ 64 - y)) (2 ^ 64) y
        ∙ ap (λ (n : ℕ). n % 2 ^ 64) (let e : x + (2 ^ 64 - y) + y ≡ x + 2 ^ 64 = omega arith in e)
        ∙ add-mod_right x (2 ^ 64)
