-- Words that agree on a mask: by their bits, on smaller and larger masks, after operations, in fields and concatenations.
-- Assumes nothing.
use Rattle.std.proofs.Common.{◌≡◌, ℕ, ◌+◌, ◌*◌, ◌/◌, ◌%◌, ◌^◌, ◌<◌, ◌≤◌, min, max, ◌⊎◌, sym, refl, ap, ◌∙◌, ap₂, inl, inr, le_trans, le_of_eq, le_of_suc-le-suc, mod-lt, mod-eq_of_lt, add_comm, pow_pos}
use native.Mathlib.Nat.{min-zero, min-eq_left}
use lib.Bits.{bit_and, bit_or, bit_xor, differ, and_zero_r, and_mask, and_block}
use lib.Pow.{split}
use Rattle.bits.specs.Masks.{bit, Within, Agree}
use Rattle.bits.specs.Words.{low_mask, cut, up, down}
use Rattle.bits.proofs.Digits.{bit_lt, bit_cases, bits_ext, bit_of_and, bit_of_or, bit_of_xor, bit_down, bit_cut, bit_up, one_below}
use Rattle.bits.proofs.Order.{within_one}
use Rattle.bits.proofs.Shifts.{up_exact}

-- ---- agreement, bit by bit

-- a mask lets a bit through where it has a one
bit_kept : (x m i : ℕ) → bit m i ≡ 1 → bit (bit_and x m) i ≡ bit x i
bit_kept x m i e = bit_of_and x m i ∙ ap (min (bit x i)) e ∙ min-eq_left (le_of_suc-le-suc (bit_lt x i))

-- and none where it has a zero
bit_dropped : (x m i : ℕ) → bit m i ≡ 0 → bit (bit_and x m) i ≡ 0
bit_dropped x m i e = bit_of_and x m i ∙ ap (min (bit x i)) e ∙ min-zero (bit x i)

-- so two masked words have equal bits where the words have, if it matters
masked : (x y m i : ℕ) → (bit m i ≡ 1 → bit x i ≡ bit y i) → bit (bit_and x m) i ≡ bit (bit_and y m) i
masked x y m i h = cases (bit_cases m i)
  where
    cases : (bit m i ≡ 0) ⊎ (bit m i ≡ 1) → bit (bit_and x m) i ≡ bit (bit_and y m) i
    cases (inl e) = bit_dropped x m i e ∙ sym (bit_dropped y m i e)
    cases (inr e) = bit_kept x m i e ∙ h e ∙ sym (bit_kept y m i e)

pub agree_by_bits : {m x y : ℕ} → ((i : ℕ) → bit m i ≡ 1 → bit x i ≡ bit y i) → Agree m x y
agree_by_bits {m} {x} {y} h = record { equal = bits_ext (bit_and x m) (bit_and y m) (λ i. masked x y m i (h i)) }

pub agree_bit : {m x y : ℕ} → Agree m x y → (i : ℕ) → bit m i ≡ 1 → bit x i ≡ bit y i
agree_bit {m} {x} {y} h i e = sym (bit_kept x m i e) ∙ ap (λ (n : ℕ). bit n i) h.equal ∙ bit_kept y m i e

-- ---- an equivalence

pub agree_refl : (m x : ℕ) → Agree m x x
agree_refl m x = record { equal = refl }

pub agree_sym : {m x y : ℕ} → Agree m x y → Agree m y x
agree_sym h = record { equal = sym h.equal }

pub agree_trans : {m x y z : ℕ} → Agree m x y → Agree m y z → Agree m x z
agree_trans h g = record { equal = h.equal ∙ g.equal }

-- ---- smaller and larger masks

pub agree_zero : (x y : ℕ) → Agree 0 x y
agree_zero x y = record { equal = and_zero_r x ∙ sym (and_zero_r y) }

pub agree_within : {m n x y : ℕ} → Within n m → Agree m x y → Agree n x y
agree_within w h = agree_by_bits (λ i e. agree_bit h i (within_one w i e))

-- ---- operations on bits

-- what a mask k lets through agrees on m where the words agree on the part of m that k lets through
pub agree_keep : {m x y : ℕ} (k : ℕ) → Agree (bit_and m k) x y → Agree m (bit_and x k) (bit_and y k)
agree_keep {m} {x} {y} k h = agree_by_bits (λ i e. masked x y k i (λ o. agree_bit h i (bit_kept m k i o ∙ e)))

-- an operation that works bit by bit
pub agree_op : {m a b c d : ℕ} (op f : ℕ → ℕ → ℕ) → ((x y i : ℕ) → bit (op x y) i ≡ f (bit x i) (bit y i))
    → Agree m a c → Agree m b d → Agree m (op a b) (op c d)
agree_op {a = a} {b = b} {c = c} {d = d} op f bits h g = agree_by_bits (λ i e. bits a b i ∙ ap₂ f (agree_bit h i e) (agree_bit g i e) ∙ sym (bits c d i))

pub agree_and : {m a b c d : ℕ} → Agree m a c → Agree m b d → Agree m (bit_and a b) (bit_and c d)
agree_and = agree_op bit_and min bit_of_and

pub agree_or : {m a b c d : ℕ} → Agree m a c → Agree m b d → Agree m (bit_or a b) (bit_or c d)
agree_or = agree_op bit_or max bit_of_or

pub agree_xor : {m a b c d : ℕ} → Agree m a c → Agree m b d → Agree m (bit_xor a b) (bit_xor c d)
agree_xor = agree_op bit_xor differ bit_of_xor

-- ---- low masks

pub agree_low : {x y : ℕ} (w : ℕ) → Agree (low_mask w) x y → x % 2 ^ w ≡ y % 2 ^ w
agree_low {x} {y} w h = sym (and_mask x w) ∙ h.equal ∙ and_mask y w

pub low_agree : {x y : ℕ} (w : ℕ) → x % 2 ^ w ≡ y % 2 ^ w → Agree (low_mask w) x y
low_agree {x} {y} w e = record { equal = and_mask x w ∙ e ∙ sym (and_mask y w) }

-- words that agree on all of their bits are equal
pub agree_equal : {x y : ℕ} (w : ℕ) → x < 2 ^ w → y < 2 ^ w → Agree (low_mask w) x y → x ≡ y
agree_equal w hx hy h = sym (mod-eq_of_lt hx) ∙ agree_low w h ∙ mod-eq_of_lt hy

-- ---- fields and concatenation

-- the w lowest bits
pub agree_cut : {m x y : ℕ} (w : ℕ) → m < 2 ^ w → Agree m x y → Agree m (cut w x) (cut w y)
agree_cut {m} {x} {y} w h a =
    agree_by_bits (λ i e. let l = one_below w i h e in bit_cut x w i l ∙ agree_bit a i e ∙ sym (bit_cut y w i l))

-- the field of w bits from k on: its bit i is bit k + i of the word
pub agree_extract : {m x y : ℕ} (w k : ℕ) → m < 2 ^ w → k + w ≤ 64 → Agree (up k m) x y
    → Agree m (x / 2 ^ k % 2 ^ w) (y / 2 ^ k % 2 ^ w)
agree_extract {m} {x} {y} w k h g a = agree_by_bits (λ i e. place x i e ∙ agree_bit a (k + i) (moved i e) ∙ sym (place y i e))
  where
    place : (z i : ℕ) → bit m i ≡ 1 → bit (z / 2 ^ k % 2 ^ w) i ≡ bit z (k + i)
    place z i e = bit_cut (z / 2 ^ k) w i (one_below w i h e) ∙ bit_down z k i

    moved : (i : ℕ) → bit m i ≡ 1 → bit (up k m) (k + i) ≡ 1
    moved i e = ap (λ (n : ℕ). bit n (k + i)) (up_exact w k h (le_trans (le_of_eq (add_comm w k)) g)) ∙ bit_up m k i ∙ e

-- a above the n bits of b: the mask is met part by part
concat_meet : (a b m n : ℕ) → b < 2 ^ n → bit_and (a * 2 ^ n + b) m ≡ bit_and a (down n m) * 2 ^ n + bit_and b (cut n m)
concat_meet a b m n h =
    ap (bit_and (a * 2 ^ n + b)) (sym (split m n)) ∙ and_block n a (m / 2 ^ n) b (m % 2 ^ n) h (mod-lt m (pow_pos n))

pub agree_concat : {m a a' b b' : ℕ} (n : ℕ) → b < 2 ^ n → b' < 2 ^ n → Agree (down n m) a a' → Agree (cut n m) b b'
    → Agree m (a * 2 ^ n + b) (a' * 2 ^ n + b')
agree_concat {m} {a} {a'} {b} {b'} n hb hb' h g = record {
  equal =
      concat_meet a b m n hb
      ∙ ap₂ (λ (p q : ℕ). p * 2 ^ n + q) h.equal g.equal
      ∙ sym (concat_meet a' b' m n hb');
}
