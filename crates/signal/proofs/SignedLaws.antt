-- The laws of the signed comparison: which word is below which, and that words with their top bits turned over are in that order.
-- Assumes nothing.
use mathlib.Core.Path.{◌≡◌, sym, ap, ap₂, ◌∙◌}
use mathlib.Core.Bool.{Bool, cond}
use mathlib.Core.Logic.{◌⊎◌, inl, inr}
use Prim.Native.Nat.{ℕ, ◌+◌, ◌-◌, ◌*◌, ◌%◌, ◌^◌, ◌≤◌, ◌<◌}
use native.Mathlib.Nat.{eq-zero-or-pos}
use native.Mathlib.Omega.{arith}
use lib.Bits.{bit_and, bit_xor, xor_add_and, and_high}
use lib.Dec.{ltb}
use lib.Pow.{pow-add}
use borrow.Author.Tests.{lt-ltb, le-ltb}
use Rattle.bits.specs.Masks.{bit}
use Rattle.bits.proofs.Digits.{bit_cases}
use Rattle.bits.proofs.Shifts.{up_one}
use Rattle.netlist.specs.declared.record.Kind.TheVariants.{Below, SignedBelow}
use Rattle.signal.specs.Results.{top_bit, signed_at, result_of}

-- what is added on both sides does not change the order
ltb_add : (x y n : ℕ) → ltb (x + n) (y + n) ≡ ltb x y
ltb_add x y n = cases (eq-zero-or-pos (y - x))
  where
    cases : (y - x ≡ 0) ⊎ (0 < y - x) → ltb (x + n) (y + n) ≡ ltb x y
    cases (inl h) = le-ltb (x + n) (y + n) (omega arith) ∙ sym (le-ltb x y (omega arith))
    cases (inr h) = lt-ltb (x + n) (y + n) (omega arith) ∙ sym (lt-ltb x y (omega arith))

module _ (a b w wb own x y z : ℕ) where
  -- a word with its top bit set is signed below every word without it
  pub negative_below : x < 2 ^ wb → top_bit wb x ≡ 1 → top_bit wb y ≡ 0 → result_of (SignedBelow a b) w wb own x y z ≡ 1
  negative_below h p q = rw (p, q) (ap (λ (t : Bool). cond t 1 0) (lt-ltb x (y + 2 ^ wb) (omega arith)))

  -- and none without it is signed below one with it
  pub positive_above : y < 2 ^ wb → top_bit wb x ≡ 0 → top_bit wb y ≡ 1 → result_of (SignedBelow a b) w wb own x y z ≡ 0
  positive_above h p q = rw (p, q) (ap (λ (t : Bool). cond t 1 0) (le-ltb (x + 2 ^ wb) y (omega arith)))

  -- among words of equal top bit the order is the unsigned one
  pub same_sign_below : top_bit wb x ≡ top_bit wb y → result_of (SignedBelow a b) w wb own x y z ≡ result_of (Below a b) w wb own x y z
  same_sign_below e = ap (λ (t : Bool). cond t 1 0) (cases (bit_cases y (wb - 1)))
    where
      cases : (top_bit wb y ≡ 0) ⊎ (top_bit wb y ≡ 1) → ltb (signed_at wb x) (signed_at wb y) ≡ ltb x y
      cases (inl q) = rw (e, q) (ltb_add x y (2 ^ wb))
      cases (inr q) = rw (e, q)

-- ---- the top bit turned over

-- the word of the top bit alone, as a shift of 1 gives it
pub top_word : (w : ℕ) → 1 ≤ w → w ≤ 64 → 1 * 2 ^ (w - 1) % 2 ^ 64 ≡ 2 ^ (w - 1)
top_word w l n = up_one (w - 1) (omega arith)

meet_power : (x n : ℕ) → bit_and x (2 ^ n) ≡ bit x n * 2 ^ n
meet_power x n = ap (bit_and x) (let e : 2 ^ (1 + n) ≡ 2 * 2 ^ n = pow-add 2 1 n in omega arith) ∙ and_high x 1 n

-- a word with its top bit turned over is its signed number less 2^(w - 1)
turned : (w x : ℕ) → 1 ≤ w → bit_xor x (2 ^ (w - 1)) + 2 ^ (w - 1) ≡ signed_at w x
turned w x l = cases (bit_cases x (w - 1))
  where
    n : ℕ
    n = w - 1

    twice : 2 ^ w ≡ 2 * 2 ^ n
    twice = ap (λ (m : ℕ). 2 ^ m) (omega arith) ∙ pow-add 2 1 n

    cases : (top_bit w x ≡ 0) ⊎ (top_bit w x ≡ 1) → bit_xor x (2 ^ n) + 2 ^ n ≡ signed_at w x
    cases (inl e) = rw e (let m : bit_and x (2 ^ n) ≡ 0 * 2 ^ n = meet_power x n ∙ ap (λ (b : ℕ). b * 2 ^ n) e in omega (arith, xor_add_and x (2 ^ n), twice, m))
    cases (inr e) = rw e (let m : bit_and x (2 ^ n) ≡ 1 * 2 ^ n = meet_power x n ∙ ap (λ (b : ℕ). b * 2 ^ n) e in omega (arith, xor_add_and x (2 ^ n), twice, m))

pub turned_below : (w x y : ℕ) → 1 ≤ w → ltb (bit_xor x (2 ^ (w - 1))) (bit_xor y (2 ^ (w - 1))) ≡ ltb (signed_at w x) (signed_at w y)
turned_below w x y l = sym (ltb_add _ _ (2 ^ (w - 1))) ∙ ap₂ ltb (turned w x l) (turned w y l)
