-- Little-endian numbers: the number in two runs of bytes from the numbers in each, the bytes of a number, and those of a number made of two.
-- Assumes nothing.
use mathlib.Core.Path.{◌≡◌, refl, sym, ap, ap₂, subst, ◌∙◌}
use mathlib.Core.List.{List, ◌∷◌, ◌++◌}
use Prim.Native.Nat.{ℕ, zero, suc, ◌+◌, ◌*◌, ◌/◌, ◌%◌, ◌^◌, ◌<◌}
use native.Mathlib.Nat.{add-zero, add-suc, suc-add, zero-add, one-mul, add_assoc, mul-add, mul_assoc, pow-suc, pow-succ', div-lt_iff_lt-mul, mod-add-div, mod-lt}
use native.Mathlib.Omega.{arith}
use lib.Arith.{lt-one}
use lib.Dec.{lit<}
use lib.ListN.{get_or}
use Rattle.endian.specs.Bytes.{number_at, bytes}

-- the low m bytes and the n above them
pub number_at_parts : (s : List ℕ) (at m n : ℕ) → number_at s at (m + n) ≡ number_at s at m + 256 ^ m * number_at s (at + m) n
number_at_parts s at zero n =
    ap (number_at s at) (zero-add n)
    ∙ sym (zero-add (1 * number_at s (at + 0) n) ∙ one-mul (number_at s (at + 0) n) ∙ ap (λ (k : ℕ). number_at s k n) (add-zero at))
number_at_parts s at (suc m) n =
    ap (number_at s at) (suc-add m n)
    ∙ ap (λ (x : ℕ). get_or s at 0 + 256 * x) (number_at_parts s (suc at) m n)
    ∙ ap (λ (x : ℕ). get_or s at 0 + x) (mul-add 256 (number_at s (suc at) m) (256 ^ m * number_at s (suc at + m) n))
    ∙ sym (add_assoc (get_or s at 0) (256 * number_at s (suc at) m) (256 * (256 ^ m * number_at s (suc at + m) n)))
    ∙ ap (λ (x : ℕ). get_or s at 0 + 256 * number_at s (suc at) m + x)
    (sym (mul_assoc 256 (256 ^ m) (number_at s (suc at + m) n))
    ∙ ap₂ (λ (x y : ℕ). x * number_at s y n) (sym (pow-succ' 256 m)) (suc-add at m ∙ sym (add-suc at m)))

-- a number that starts one byte later, without the byte before it
pub number_at_tail : (x : ℕ) (s : List ℕ) (at size : ℕ) → number_at (x ∷ s) (suc at) size ≡ number_at s at size
number_at_tail x s at zero = refl
number_at_tail x s at (suc size) = ap (λ (n : ℕ). get_or s at 0 + 256 * n) (number_at_tail x s (suc at) size)

-- the bytes of a number say that number
pub number_at_bytes : (size v : ℕ) (s : List ℕ) → v < 256 ^ size → number_at (bytes size v ++ s) 0 size ≡ v
number_at_bytes zero v s h = sym (lt-one h)
number_at_bytes (suc size) v s h =
    ap (λ (n : ℕ). v % 256 + 256 * n)
    (number_at_tail (v % 256) (bytes size (v / 256) ++ s) 0 size
    ∙ number_at_bytes size (v / 256) s ((div-lt_iff_lt-mul (lit< tt)).1 (subst (λ (n : ℕ). v < n) (pow-suc 256 size) h)))
    ∙ mod-add-div v 256

-- the bytes of a number are bytes
pub bytes_low : (size v i : ℕ) → get_or (bytes size v) i 0 < 256
bytes_low zero v i = lit< tt
bytes_low (suc size) v zero = mod-lt v (lit< tt)
bytes_low (suc size) v (suc i) = bytes_low size (v / 256) i

-- the bytes of a number whose low m bytes are those of x, and whose others are those of y
pub bytes_parts : (m n x y : ℕ) → x < 256 ^ m → bytes (m + n) (x + 256 ^ m * y) ≡ bytes m x ++ bytes n y
bytes_parts zero n x y h =
    ap₂ bytes (zero-add n) (ap (λ (z : ℕ). z + 1 * y) (lt-one h) ∙ zero-add (1 * y) ∙ one-mul y)
bytes_parts (suc m) n x y h =
    ap₂ bytes (suc-add m n) (ap (λ (z : ℕ). x + z * y) (pow-succ' 256 m) ∙ ap (λ (z : ℕ). x + z) (mul_assoc 256 (256 ^ m) y))
    ∙ ap₂ ◌∷◌ first (ap (bytes (m + n)) rest ∙ bytes_parts m n (x / 256) y ((div-lt_iff_lt-mul (lit< tt)).1 (subst (λ (z : ℕ). x < z) (pow-suc 256 m) h)))
  where
    first : (x + 256 * (256 ^ m * y)) % 256 ≡ x % 256
    first = omega arith

    rest : (x + 256 * (256 ^ m * y)) / 256 ≡ x / 256 + 256 ^ m * y
    rest = omega arith
