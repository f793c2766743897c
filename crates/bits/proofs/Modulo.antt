-- Arithmetic modulo a power of two: cuts, sums, differences, and words moved out at either end.
-- Assumes nothing.
use Rattle.std.proofs.Common.{◌≡◌, ℕ, ◌+◌, ◌-◌, ◌*◌, ◌/◌, ◌%◌, ◌^◌, ◌<◌, ◌≤◌, sym, ap, ◌∙◌, lt_of_lt_of_le, add_assoc, mod-lt, mul_assoc, add_comm, lt_of_not-le, arith, pow_pos, pow_mono, pow-add}
use native.Mathlib.Nat.{le_dest, add-mod-mod, mod-add-mod, add-mod_right, div-eq_of_lt, mul-mod_left}
use lib.Pow.{mod-mod-pow, split}
use Rattle.bits.specs.Words.{sum_at, difference_at}

-- the longer cut is as good as none
pub cut_cut : (x : ℕ) {k w : ℕ} → k ≤ w → x % 2 ^ w % 2 ^ k ≡ x % 2 ^ k
cut_cut x {k} {w} h =
    let d = le_dest h in
    ap (λ (m : ℕ). x % 2 ^ m % 2 ^ k) (sym d.1 ∙ add_comm k d.0) ∙ mod-mod-pow x d.0 k

-- a sum at a width of at most 64 needs no more of a word than its 64 low bits
pub sum_cut : (x y : ℕ) {w : ℕ} → w ≤ 64 → sum_at w (x % 2 ^ 64) y ≡ (x + y) % 2 ^ w
sum_cut x y {w} h =
    sym (mod-add-mod (x % 2 ^ 64) (2 ^ w) y) ∙ ap (λ (n : ℕ). (n + y) % 2 ^ w) (cut_cut x h) ∙ mod-add-mod x (2 ^ w) y

-- what y takes off x, y added to it gives back
pub difference_add : (w x y : ℕ) → (difference_at w x y + y) % 2 ^ w ≡ x % 2 ^ w
difference_add w x y =
    mod-add-mod (x + (2 ^ w - y % 2 ^ w)) (2 ^ w) y
    ∙ sym (add-mod-mod (x + (2 ^ w - y % 2 ^ w)) y (2 ^ w))
    ∙ ap (λ (n : ℕ). n % 2 ^ w) (add_assoc x (2 ^ w - y % 2 ^ w) (y % 2 ^ w) ∙ ap (λ (n : ℕ). x + n) gone)
    ∙ add-mod_right x (2 ^ w)
  where
    gone : 2 ^ w - y % 2 ^ w + y % 2 ^ w ≡ 2 ^ w
    gone = let h = mod-lt y (pow_pos w) in omega arith

-- and nothing else does: a number that y added to gives x modulo 2^w is the difference modulo 2^w
pub difference_only : (w x y r : ℕ) → (r + y) % 2 ^ w ≡ x % 2 ^ w → r % 2 ^ w ≡ difference_at w x y
difference_only w x y r e =
    sym (add-mod_right r (2 ^ w))
    ∙ ap (λ (n : ℕ). (r + n) % 2 ^ w) (sym gone)
    ∙ ap (λ (n : ℕ). n % 2 ^ w) (sym (add_assoc r (y % 2 ^ w) (2 ^ w - y % 2 ^ w)))
    ∙ sym (mod-add-mod (r + y % 2 ^ w) (2 ^ w) (2 ^ w - y % 2 ^ w))
    ∙ ap (λ (n : ℕ). (n + (2 ^ w - y % 2 ^ w)) % 2 ^ w) (add-mod-mod r y (2 ^ w) ∙ e)
    ∙ mod-add-mod x (2 ^ w) (2 ^ w - y % 2 ^ w)
  where
    gone : y % 2 ^ w + (2 ^ w - y % 2 ^ w) ≡ 2 ^ w
    gone = let h = mod-lt y (pow_pos w) in omega arith

-- a word is short of 2^k for every k from its length on
pub shift_out : (x k : ℕ) → x < 2 ^ 64 → 64 ≤ k → x / 2 ^ k ≡ 0
shift_out x k h g = div-eq_of_lt (lt_of_lt_of_le h (pow_mono g))

-- a word moved up by 64 places or more leaves nothing behind
pub shift_away : (x k : ℕ) → 64 ≤ k → x * 2 ^ k % 2 ^ 64 ≡ 0
shift_away x k g =
    let d = le_dest g in
    ap (λ (n : ℕ). x * 2 ^ n % 2 ^ 64) (sym d.1 ∙ add_comm 64 d.0)
    ∙ ap (λ (n : ℕ). x * n % 2 ^ 64) (pow-add 2 d.0 64)
    ∙ ap (λ (n : ℕ). n % 2 ^ 64) (sym (mul_assoc x (2 ^ d.0) (2 ^ 64))) ∙ mul-mod_left (x * 2 ^ d.0) (2 ^ 64)

-- where something is left of a word k places down, k is one of its places
pub shift_in : (x k : ℕ) → x < 2 ^ 64 → 0 < x / 2 ^ k → k < 64
shift_in x k h g = lt_of_not-le (λ l. let e = shift_out x k h l in omega arith)

-- and where nothing is left, its k low bits are all of it
pub cut_short : (x k : ℕ) → x / 2 ^ k ≡ 0 → x % 2 ^ k ≡ x
cut_short x k e = let s = ap (λ (n : ℕ). n * 2 ^ k + x % 2 ^ k) (sym e) ∙ split x k in omega arith
