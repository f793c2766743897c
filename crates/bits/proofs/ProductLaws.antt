-- What `mul` does in each turn, and what it has in the end: the sum is the product with those bits of the smaller factor that were taken.
-- Assumes nothing.
use Rattle.std.proofs.Common.{◌≡◌, ℕ, zero, suc, ◌+◌, ◌*◌, ◌/◌, ◌%◌, ◌^◌, ◌<◌, ◌≤◌, ◌⊎◌, inl, inr, min, max, [], ◌∷◌, get_or, sym, ap, ap₂, ◌∙◌, mod-lt, mod-eq_of_lt, mul_assoc, mul_comm, add_comm, mul-add, arith, lit<, shr-shr}
use native.Mathlib.Nat.{add-mod-mod, mod-add-mod, zero-mod, max-eq_left, max-eq_right, min-eq_left, min-eq_right}
use lib.Pow.{mod-pow-add}
use Rattle.std.proofs.lemmas.Bool.{cases_lt}
use Rattle.std.proofs.lemmas.Nat.{mul-mod_first}
use Rattle.bits.proofs.Modulo.{cut_short}

-- the larger of two factors, times the smaller one
factors : (x y : ℕ) → max x y * min x y ≡ x * y
factors x y = go (cases_lt x y)
  where
    go : (x < y) ⊎ (y ≤ x) → max x y * min x y ≡ x * y
    go (inl h) = let l : x ≤ y = omega arith in ap₂ ◌*◌ (max-eq_right l) (min-eq_left l) ∙ mul_comm y x
    go (inr h) = ap₂ ◌*◌ (max-eq_left h) (min-eq_right h)

-- the multiples of a word by 0, 1, 2 and 3, from sums that wrap
multiples : (a twice thrice m : ℕ) → a < m → twice ≡ (a + a) % m → thrice ≡ (twice + a) % m → (d : ℕ) → d < 4
    → get_or (0 ∷ a ∷ twice ∷ thrice ∷ []) d 0 ≡ a * d % m
multiples a twice thrice m h e f zero g = sym (zero-mod m) ∙ ap (λ (n : ℕ). n % m) (omega arith)
multiples a twice thrice m h e f (suc zero) g = sym (mod-eq_of_lt h) ∙ ap (λ (n : ℕ). n % m) (omega arith)
multiples a twice thrice m h e f (suc (suc zero)) g = e ∙ ap (λ (n : ℕ). n % m) (omega arith)
multiples a twice thrice m h e f (suc (suc (suc zero))) g =
    f ∙ ap (λ (n : ℕ). (n + a) % m) e ∙ mod-add-mod (a + a) m a ∙ ap (λ (n : ℕ). n % m) (omega arith)
multiples a twice thrice m h e f (suc (suc (suc (suc d)))) g = absurd (omega arith)

-- one step of the product: what the k low bits of b called for, and the multiple that the next j call for, moved up to their place
product_step : (a b k j m : ℕ) → (a * (b % 2 ^ k) % m + a * (b / 2 ^ k % 2 ^ j) % m * 2 ^ k % m) % m ≡ a * (b % 2 ^ (k + j)) % m
product_step a b k j m =
    mod-add-mod low m (a * d % m * 2 ^ k % m)
    ∙ ap (λ (n : ℕ). (low + n) % m) (mul-mod_first (a * d) (2 ^ k) m)
    ∙ add-mod-mod low (a * d * 2 ^ k) m
    ∙ ap (λ (n : ℕ). n % m) same
  where
    d : ℕ
    d = b / 2 ^ k % 2 ^ j

    low : ℕ
    low = a * (b % 2 ^ k)

    same : low + a * d * 2 ^ k ≡ a * (b % 2 ^ (k + j))
    same =
        omega (
          arith,
          ap (λ (n : ℕ). a * (b % 2 ^ n)) (add_comm k j),
          ap (λ (n : ℕ). a * n) (mod-pow-add b j k),
          mul-add a (d * 2 ^ k) (b % 2 ^ k),
          mul_assoc a d (2 ^ k),
        )

-- a turn adds the multiple of a that the two lowest bits left of b call for, moved up to their place
pub product_next : (a b k next sum left twice thrice : ℕ) → a < 2 ^ 64 → next ≡ k + 2 → twice ≡ (a + a) % 2 ^ 64 → thrice ≡ (twice + a) % 2 ^ 64
    → left ≡ b / 2 ^ k → sum ≡ a * (b % 2 ^ k) % 2 ^ 64
    → (sum + get_or (0 ∷ a ∷ twice ∷ thrice ∷ []) (left % 4) 0 * 2 ^ k % 2 ^ 64) % 2 ^ 64 ≡ a * (b % 2 ^ next) % 2 ^ 64
product_next a b k next sum left twice thrice h n e f l s =
    ap₂ (λ (x y : ℕ). (x + y * 2 ^ k % 2 ^ 64) % 2 ^ 64) s
    (multiples a twice thrice (2 ^ 64) h e f (left % 4) (mod-lt left (lit< tt)) ∙ ap (λ (d : ℕ). a * (d % 4) % 2 ^ 64) l)
    ∙ product_step a b k 2 (2 ^ 64)
    ∙ ap (λ (i : ℕ). a * (b % 2 ^ i) % 2 ^ 64) (sym n)

pub left_next : (b k next left : ℕ) → next ≡ k + 2 → left ≡ b / 2 ^ k → left / 4 ≡ b / 2 ^ next
left_next b k next left n l = ap (λ (d : ℕ). d / 4) l ∙ shr-shr b k 2 ∙ ap (λ (i : ℕ). b / 2 ^ i) (sym n)

-- where no bits are left, all of them were taken
pub product_done : (a b k sum left x y : ℕ) → left ≡ 0 → a ≡ max x y → b ≡ min x y → left ≡ b / 2 ^ k → sum ≡ a * (b % 2 ^ k) % 2 ^ 64
    → sum ≡ x * y % 2 ^ 64
product_done a b k sum left x y z p q l s =
    s ∙ ap (λ (n : ℕ). n % 2 ^ 64) (ap (λ (n : ℕ). a * n) (cut_short b k (sym l ∙ z)) ∙ ap₂ ◌*◌ p q ∙ factors x y)
