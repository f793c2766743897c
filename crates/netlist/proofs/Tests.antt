-- Tests of rules: what a passed test says and which test a fact passes; the tests of sums that cannot wrap.
-- Assumes nothing.
use mathlib.Core.Path.{◌≡◌, refl, sym, ap, subst, ◌∙◌}
use mathlib.Core.Bool.{Bool, true, false, not, ◌&&◌, and-true, false≢true}
use mathlib.Core.List.{List, [], ◌∷◌}
use Prim.Native.Nat.{ℕ, ◌+◌, ◌-◌, ◌/◌, ◌^◌, ◌≤◌, ◌<◌}
use native.Mathlib.Nat.{div-eq_of_lt, div-lt_iff_lt-mul, one-mul, zero-lt-suc}
use native.Mathlib.Omega.{arith}
use borrow.Author.Tests.{eqb-true, leb-true, ltb-true, not-true, eq-eqb, ne_eqb, le-leb, lt-leb, lt-ltb}
use lib.Dec.{eqb, leb, ltb}
use lib.Pow.{pow_pos}
use Rattle.netlist.specs.Rules.{Rule, equal, below, at_most, is_not, Holds, AllHold, test, test_all}

-- what follows from a test either way
pub by_test : {P : Type 0} (b : Bool) → (b ≡ true → P) → (b ≡ false → P) → P
by_test true picks passes = picks refl
by_test false picks passes = passes refl

-- two tests that say the same give the same
same_test : (a b : Bool) → (a ≡ true → b ≡ true) → (b ≡ true → a ≡ true) → a ≡ b
same_test true b f g = sym (f refl)
same_test false true f g = g refl
same_test false false f g = refl

-- x + y = z and x + y ≤ z, tested with a difference instead of a sum
pub sum_eqb : (x y z : ℕ) → x ≤ z → eqb y (z - x) ≡ test_all (equal (x + y) z ∷ [])
sum_eqb x y z h =
    same_test (eqb y (z - x)) (eqb (x + y) z) (λ e. eq-eqb (x + y) z (let p = eqb-true y (z - x) e in omega arith))
    (λ e. eq-eqb y (z - x) (let p = eqb-true (x + y) z e in omega arith))
    ∙ sym (and-true (eqb (x + y) z))

pub sum_neqb : (x y z : ℕ) → z < x → leb x z ≡ test_all (equal (x + y) z ∷ [])
sum_neqb x y z h = lt-leb x z h ∙ sym (and-true (eqb (x + y) z) ∙ ne_eqb (x + y) z (λ e. omega arith))

pub sum_leb : (x y z : ℕ) → y ≤ z → leb x (z - y) ≡ test_all (at_most (x + y) z ∷ [])
sum_leb x y z h =
    same_test (leb x (z - y)) (leb (x + y) z) (λ e. le-leb (x + y) z (let p = leb-true x (z - y) e in omega arith))
    (λ e. le-leb x (z - y) (let p = leb-true (x + y) z e in omega arith))
    ∙ sym (and-true (leb (x + y) z))

pub sum_nleb : (x y z : ℕ) → z < y → leb y z ≡ test_all (at_most (x + y) z ∷ [])
sum_nleb x y z h = lt-leb y z h ∙ sym (and-true (leb (x + y) z) ∙ lt-leb (x + y) z (omega arith))

-- a test that goes on where the first part passes, and stops with the part that fails
pub goes_on : {a b r : Bool} → a ≡ true → r ≡ b → r ≡ (a && b)
goes_on {a} {b} {r} p e = e ∙ ap (λ (t : Bool). t && b) (sym p)

pub stops : {a : Bool} (b : Bool) → a ≡ false → a ≡ (a && b)
stops {a} b p = p ∙ ap (λ (t : Bool). t && b) (sym p)

-- a word has no bit at w or above where nothing is left of it w places down
pub short_test : (x w s : ℕ) → s ≡ x / 2 ^ w → eqb s 0 ≡ ltb x (2 ^ w)
short_test x w s e =
    same_test (eqb s 0) (ltb x (2 ^ w)) (λ p. lt-ltb x (2 ^ w) (short (eqb-true s 0 p)))
    (λ p. eq-eqb s 0 (e ∙ div-eq_of_lt (ltb-true x (2 ^ w) p)))
  where
    short : s ≡ 0 → x < 2 ^ w
    short z = subst (λ (n : ℕ). x < n) (one-mul (2 ^ w)) ((div-lt_iff_lt-mul (pow_pos w)).0 (subst (λ (n : ℕ). n < 1) (sym z ∙ e) (zero-lt-suc 0)))

-- both parts of a test that passed
pub and_first : (a b : Bool) → (a && b) ≡ true → a ≡ true
and_first true b e = refl
and_first false b e = e

pub and_second : (a b : Bool) → (a && b) ≡ true → b ≡ true
and_second true b e = e
and_second false b e = absurd (false≢true e)

-- a test passes just where its rule holds
pub test_holds : (r : Rule) → test r ≡ true → Holds r
test_holds (equal x y) e = eqb-true x y e
test_holds (below x y) e = ltb-true x y e
test_holds (at_most x y) e = leb-true x y e
test_holds (is_not b) e = not-true b e

pub holds_test : (r : Rule) → Holds r → test r ≡ true
holds_test (equal x y) h = eq-eqb x y h
holds_test (below x y) h = lt-ltb x y h
holds_test (at_most x y) h = le-leb x y h
holds_test (is_not b) h = ap not h

pub tests_hold : (rs : List Rule) → test_all rs ≡ true → AllHold rs
tests_hold [] e = tt
tests_hold (r ∷ rs) e = (test_holds r (and_first (test r) (test_all rs) e), tests_hold rs (and_second (test r) (test_all rs) e))

pub hold_tests : (rs : List Rule) → AllHold rs → test_all rs ≡ true
hold_tests [] h = refl
hold_tests (r ∷ rs) h = ap (λ (t : Bool). t && test_all rs) (holds_test r h.0) ∙ hold_tests rs h.1
