-- Words congruent modulo 2^h: the low bits of sums, differences and products need only the operands' low bits.
-- Assumes nothing.
use Rattle.std.proofs.Common.{◌≡◌, ℕ, ◌+◌, ◌-◌, ◌*◌, ◌%◌, ◌^◌, ◌<◌, ◌≤◌, sym, ap, ◌∙◌, ap₂, lt_of_lt_of_le, pow_mono}
use native.Mathlib.Nat.{add-mod, mod-mod, mod-add-mod}
use Rattle.bits.specs.Masks.{Agree}
use Rattle.bits.specs.Words.{low_mask, sum_at, difference_at, product_at, bit_length}
use Rattle.bits.proofs.Agreement.{agree_low, low_agree, agree_within}
use Rattle.bits.proofs.Counts.{length_in_holds}
use Rattle.std.proofs.lemmas.Nat.{mul-mod}
use Rattle.bits.proofs.Modulo.{cut_cut, difference_add, difference_only}
use Rattle.bits.proofs.Order.{within_low}
use Rattle.bits.proofs.Shifts.{length_le}

-- The words x and y have the same h lowest bits.
pub record Cong (h x y : ℕ) : Type 0 where
  pub remainder : x % 2 ^ h ≡ y % 2 ^ h

pub agree_cong : {x y : ℕ} (h : ℕ) → Agree (low_mask h) x y → Cong h x y
agree_cong h a = record { remainder = agree_low h a }

pub cong_agree : {h x y : ℕ} → Cong h x y → Agree (low_mask h) x y
cong_agree {h} c = low_agree h c.remainder

pub cong_agree_on : {h m x y : ℕ} → m < 2 ^ h → Cong h x y → Agree m x y
cong_agree_on {h} l c = agree_within (within_low h l) (cong_agree c)

-- ---- an operation whose low bits at any width are those of the operands' low bits

module _ (op : ℕ → ℕ → ℕ → ℕ) (lows : (x y h w : ℕ) → h ≤ w → op w x y % 2 ^ h ≡ op h (x % 2 ^ h) (y % 2 ^ h)) where
  cong_op : {h x x' y y' : ℕ} (w : ℕ) → h ≤ w → Cong h x x' → Cong h y y' → Cong h (op w x y) (op w x' y')
  cong_op {h} {x} {x'} {y} {y'} w l a b = record {
    remainder = lows x y h w l ∙ ap₂ (op h) a.remainder b.remainder ∙ sym (lows x' y' h w l);
  }

  -- the bits of the mask m need the operands' bits up to its highest one
  agree_upto : {m x x' y y' : ℕ} (w : ℕ) → m < 2 ^ w → w ≤ 64
      → Agree (low_mask (bit_length m)) x x' → Agree (low_mask (bit_length m)) y y' → Agree m (op w x y) (op w x' y')
  agree_upto {m} w l g a b =
      let h = bit_length m in
      cong_agree_on (length_in_holds 64 m (lt_of_lt_of_le l (pow_mono g))) (cong_op w (length_le w l) (agree_cong h a) (agree_cong h b))

sum_lows : (x y h w : ℕ) → h ≤ w → sum_at w x y % 2 ^ h ≡ sum_at h (x % 2 ^ h) (y % 2 ^ h)
sum_lows x y h w l = cut_cut (x + y) l ∙ add-mod x y (2 ^ h)

product_lows : (x y h w : ℕ) → h ≤ w → product_at w x y % 2 ^ h ≡ product_at h (x % 2 ^ h) (y % 2 ^ h)
product_lows x y h w l = cut_cut (x * y) l ∙ mul-mod x y (2 ^ h)

-- the difference at width w, with y added, is x at every width up to w, so it is the difference there too
difference_lows : (x y h w : ℕ) → h ≤ w → difference_at w x y % 2 ^ h ≡ difference_at h (x % 2 ^ h) (y % 2 ^ h)
difference_lows x y h w l =
    difference_only h x y d (sym (cut_cut (d + y) l) ∙ ap (λ (n : ℕ). n % 2 ^ h) (difference_add w x y) ∙ cut_cut x l)
    ∙ sym (mod-add-mod x (2 ^ h) (2 ^ h - y % 2 ^ h))
    ∙ ap (λ (n : ℕ). (x % 2 ^ h + (2 ^ h - n)) % 2 ^ h) (sym (mod-mod y (2 ^ h)))
  where
    d : ℕ
    d = difference_at w x y

pub agree_sum : {m x x' y y' : ℕ} (w : ℕ) → m < 2 ^ w → w ≤ 64
    → Agree (low_mask (bit_length m)) x x' → Agree (low_mask (bit_length m)) y y' → Agree m (sum_at w x y) (sum_at w x' y')
agree_sum = agree_upto sum_at sum_lows

pub agree_difference : {m x x' y y' : ℕ} (w : ℕ) → m < 2 ^ w → w ≤ 64
    → Agree (low_mask (bit_length m)) x x' → Agree (low_mask (bit_length m)) y y' → Agree m (difference_at w x y) (difference_at w x' y')
agree_difference = agree_upto difference_at difference_lows

pub agree_product : {m x x' y y' : ℕ} (w : ℕ) → m < 2 ^ w → w ≤ 64
    → Agree (low_mask (bit_length m)) x x' → Agree (low_mask (bit_length m)) y y' → Agree m (product_at w x y) (product_at w x' y')
agree_product = agree_upto product_at product_lows
