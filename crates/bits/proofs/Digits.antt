-- The bits of a word: they decide it; and the bits of what operations, shifts and cuts make of words.
-- Assumes nothing.
use Rattle.std.proofs.Common.{◌≡◌, ℕ, zero, suc, ◌+◌, ◌-◌, ◌*◌, ◌/◌, ◌%◌, ◌^◌, ◌<◌, ◌≤◌, min, max, ◌≢◌, ◌⊎◌, sym, refl, ap, ◌∙◌, subst, ap₂, inl, inr, suc-le-suc, zero-le, le_refl, lt_of_lt_of_le, le_of_suc-le-suc, le-add_right, not-suc-le-zero, lt_of_le_of_lt, mod-lt, zero-lt-suc, one-mul, lt_of_not-le, div-add-mod', div-one, le-add_left, one-add, arith, pow_mono, shr-shr}
use native.Mathlib.Nat.{le_of_suc-le, le_dest, div-eq_of_lt, mod_self, min-le_left, max-le}
use lib.Arith.{half_le, le-zero, lt-one, digits_mod}
use lib.Bits.{bit_and, bit_or, bit_xor, differ, and_step, or_step, xor_step, and_shr, or_shr, xor_shr}
use lib.Pow.{pow-lt, shl-shr, field, mod-mod-pow, high, low, ones_lt, ones_split}
use Rattle.bits.specs.Masks.{bit, without}

pub bit_lt : (x i : ℕ) → bit x i < 2
bit_lt x i = mod-lt (x / 2 ^ i) (zero-lt-suc 1)

-- a bit is 0 or 1
pub bit_cases : (x i : ℕ) → (bit x i ≡ 0) ⊎ (bit x i ≡ 1)
bit_cases x i = cases (bit x i) (bit_lt x i)
  where
    cases : (n : ℕ) → n < 2 → (n ≡ 0) ⊎ (n ≡ 1)
    cases zero h = inl refl
    cases (suc n) h = inr (ap suc (lt-one (le_of_suc-le-suc h)))

-- ---- a word moved down

pub bit_down : (x k i : ℕ) → bit (x / 2 ^ k) i ≡ bit x (k + i)
bit_down x k i = ap (λ (n : ℕ). n % 2) (shr-shr x k i)

bit_half : (x i : ℕ) → bit (x / 2) i ≡ bit x (suc i)
bit_half x i = bit_down x 1 i ∙ ap (bit x) (one-add i)

pub bit_zero : (x : ℕ) → bit x 0 ≡ x % 2
bit_zero x = ap (λ (n : ℕ). n % 2) (div-one x)

-- ---- the bits decide the word

ext_below : (d x y : ℕ) → x ≤ d → y ≤ d → ((i : ℕ) → bit x i ≡ bit y i) → x ≡ y
ext_below zero x y hx hy e = le-zero hx ∙ sym (le-zero hy)
ext_below (suc d) x y hx hy e =
    sym (div-add-mod' x 2)
    ∙ ap₂ (λ (q r : ℕ). q * 2 + r)
    (ext_below d (x / 2) (y / 2) (half_le hx) (half_le hy) (λ i. bit_half x i ∙ e (suc i) ∙ sym (bit_half y i)))
    (sym (bit_zero x) ∙ e 0 ∙ bit_zero y)
    ∙ div-add-mod' y 2

pub bits_ext : (x y : ℕ) → ((i : ℕ) → bit x i ≡ bit y i) → x ≡ y
bits_ext x y = ext_below (x + y) x y (le-add_right x y) (le-add_left y x)

-- ---- operations bit by bit

module _ (op f : ℕ → ℕ → ℕ)
    (step : (a b : ℕ) → op a b ≡ op (a / 2) (b / 2) * 2 + f (a % 2) (b % 2))
    (down : (a b k : ℕ) → op a b / 2 ^ k ≡ op (a / 2 ^ k) (b / 2 ^ k))
    (small : (x y : ℕ) → x < 2 → y < 2 → f x y < 2) where
  bit_op : (a b i : ℕ) → bit (op a b) i ≡ f (bit a i) (bit b i)
  bit_op a b i =
      let p = a / 2 ^ i in
      let q = b / 2 ^ i in
      ap (λ (n : ℕ). n % 2) (down a b i ∙ step p q)
      ∙ digits_mod (op (p / 2) (q / 2)) (small (p % 2) (q % 2) (bit_lt a i) (bit_lt b i))

pub bit_of_and : (a b i : ℕ) → bit (bit_and a b) i ≡ min (bit a i) (bit b i)
bit_of_and = bit_op bit_and min and_step and_shr (λ x y hx hy. lt_of_le_of_lt (min-le_left x y) hx)

pub bit_of_or : (a b i : ℕ) → bit (bit_or a b) i ≡ max (bit a i) (bit b i)
bit_of_or = bit_op bit_or max or_step or_shr (λ x y hx hy. suc-le-suc (max-le (le_of_suc-le-suc hx) (le_of_suc-le-suc hy)))

differ_lt : (x y : ℕ) → x < 2 → y < 2 → differ x y < 2
differ_lt zero y hx hy = hy
differ_lt (suc x) zero hx hy = hx
differ_lt (suc zero) (suc y) hx hy = le_of_suc-le hy
differ_lt (suc (suc x)) (suc y) hx hy = absurd (not-suc-le-zero (le_of_suc-le-suc (le_of_suc-le-suc hx)))

pub bit_of_xor : (a b i : ℕ) → bit (bit_xor a b) i ≡ differ (bit a i) (bit b i)
bit_of_xor = bit_op bit_xor differ xor_step xor_shr differ_lt

pub bit_without : (a b i : ℕ) → bit (without a b) i ≡ bit a i - bit b i
bit_without a b i =
    bit_of_xor a (bit_and b a) i ∙ ap (differ (bit a i)) (bit_of_and b a i) ∙ cleared (bit a i) (bit b i) (bit_cases a i) (bit_cases b i)
  where
    cleared : (x y : ℕ) → (x ≡ 0) ⊎ (x ≡ 1) → (y ≡ 0) ⊎ (y ≡ 1) → differ x (min y x) ≡ x - y
    cleared x y (inl p) (inl q) = rw (p, q)
    cleared x y (inl p) (inr q) = rw (p, q)
    cleared x y (inr p) (inl q) = rw (p, q)
    cleared x y (inr p) (inr q) = rw (p, q)

-- ---- beyond a word's width

pub bit_beyond : {x : ℕ} (w i : ℕ) → x < 2 ^ w → w ≤ i → bit x i ≡ 0
bit_beyond w i h g = ap (λ (n : ℕ). n % 2) (div-eq_of_lt (lt_of_lt_of_le h (pow_mono g)))

-- so a one stands within the width
pub one_below : {x : ℕ} (w i : ℕ) → x < 2 ^ w → bit x i ≡ 1 → i < w
one_below w i h e = lt_of_not-le (λ (g : w ≤ i). omega (arith, bit_beyond w i h g))

-- a place below n leaves one bit or more of n above it
below : {i n : ℕ} (P : ℕ → Type 0) → i < n → ((j : ℕ) → P (j + 1 + i)) → P n
below P h f = let d = le_dest h in subst P (omega (arith, d.1)) (f d.0)

-- ---- a word cut to a width

pub bit_cut : (x w i : ℕ) → i < w → bit (x % 2 ^ w) i ≡ bit x i
bit_cut x w i h =
    below (λ (n : ℕ). bit (x % 2 ^ n) i ≡ bit x i) h
    (λ j. ap (λ (n : ℕ). n % 2) (field x (j + 1) i) ∙ mod-mod-pow (x / 2 ^ i) j 1)

-- ---- a word moved up

pub bit_up : (x k i : ℕ) → bit (x * 2 ^ k) (k + i) ≡ bit x i
bit_up x k i = sym (bit_down (x * 2 ^ k) k i) ∙ ap (λ (n : ℕ). bit n i) (shl-shr x k)

-- ---- a low mask

pub bit_low : (n i : ℕ) → i < n → bit (2 ^ n - 1) i ≡ 1
bit_low n i h =
    below (λ (m : ℕ). bit (2 ^ m - 1) i ≡ 1) h
    (λ j. ap (λ (m : ℕ). bit m i) (ones_split (j + 1) i)
    ∙ ap (λ (m : ℕ). m % 2) (high (2 ^ (j + 1) - 1) i (ones_lt i) ∙ ones_split j 1)
    ∙ low (2 ^ j - 1) 1 (ones_lt 1))

-- ---- a single one

pub bit_single : (k : ℕ) → bit (2 ^ k) k ≡ 1
bit_single k = ap (λ (n : ℕ). n % 2) (ap (λ (n : ℕ). n / 2 ^ k) (sym (one-mul (2 ^ k))) ∙ shl-shr 1 k)

-- no other one stands above it, and nothing is left of 2 ^ k below
pub bit_single_other : (k i : ℕ) → i ≢ k → bit (2 ^ k) i ≡ 0
bit_single_other k i n = go (bit_cases (2 ^ k) i)
  where
    lower : i < k → bit (2 ^ k) i ≡ 0
    lower h = sym (bit_cut (2 ^ k) k i h) ∙ ap (λ (m : ℕ). bit m i) (mod_self (2 ^ k)) ∙ bit_beyond 0 i (zero-lt-suc zero) zero-le

    go : (bit (2 ^ k) i ≡ 0) ⊎ (bit (2 ^ k) i ≡ 1) → bit (2 ^ k) i ≡ 0
    go (inl e) = e
    go (inr e) = let h = one_below (suc k) i (pow-lt (le_refl (suc k))) e in lower (omega arith)
