-- The lowest record that a test picks: how it is found, and what is so of it.
-- Assumes nothing.
use mathlib.Core.Path.{◌≡◌, refl, sym, ap, subst, ◌∙◌}
use mathlib.Core.Bool.{Bool, true, false, cond}
use mathlib.Core.Logic.{◌⊎◌, inl, inr}
use Prim.Native.Nat.{ℕ, zero, suc, ◌+◌, ◌≤◌, ◌<◌}
use native.Mathlib.Nat.{eq-or-lt_of_le, not-suc-le-zero}
use native.Mathlib.Omega.{arith}
use Rattle.netlist.specs.Lowest.{lowest_from, lowest}

pub not_both : {b : Bool} {P : Type 0} → b ≡ true → b ≡ false → P
not_both e f = cc

-- a test picks no number below n
abbrev pub Clear : (ℕ → Bool) → ℕ → Type 0
Clear test n = (j : ℕ) → j < n → test j ≡ false

pub clear_none : (test : ℕ → Bool) → Clear test 0
clear_none test j h = absurd (not-suc-le-zero h)

-- what is so of all numbers below i, and of i, is so of all below i + 1
pub below_next : {P : ℕ → Type 0} {i : ℕ} → ((j : ℕ) → j < i → P j) → P i → (j : ℕ) → j < i + 1 → P j
below_next {P} {i} before here j h = go (eq-or-lt_of_le (let l : j ≤ i = omega arith in l))
  where
    go : (j ≡ i) ⊎ (j < i) → P j
    go (inl q) = subst P (sym q) here
    go (inr l) = before j l

-- r is the lowest number below n that a test picks, or n where it picks none
pub record Lowest (test : ℕ → Bool) (n r : ℕ) : Type 0 where
  pub low : r ≤ n
  pub picked : r < n → test r ≡ true
  pub clear : Clear test r

module _ {A : Type 0} (test : ℕ → Bool) (found : ℕ → A) (none : A) (n : ℕ) where
  -- what is so of each number that is picked while no lower one is, and of there being none, is so of what is made of the lowest
  module _ (P : A → Type 0) (here : (i : ℕ) → i < n → test i ≡ true → Clear test i → P (found i)) (nowhere : Clear test n → P none) where
    cases_from : (left i : ℕ) → i + left ≡ n → Clear test i → P (lowest_from test found none left i)
    unfolding lowest_from
    cases_from zero i e clear = nowhere (subst (Clear test) (let q : i ≡ n = omega arith in q) clear)
    cases_from (suc left) i e clear = go (cases_from left (suc i) (omega arith)) (test i) refl
      where
        go : (Clear test (suc i) → P (lowest_from test found none left (suc i))) → (b : Bool) → test i ≡ b
            → P (cond b (found i) (lowest_from test found none left (suc i)))
        go later true q = here i (omega arith) q clear
        go later false q = later (subst (Clear test) (let s : i + 1 ≡ suc i = omega arith in s) (below_next clear q))

    pub lowest_cases : P (lowest test found none n)
    lowest_cases = cases_from n 0 (omega arith) (clear_none test)

  module _ (r : ℕ) (l : Lowest test n r) where
    pub lowest_found : r < n → lowest test found none n ≡ found r
    lowest_found h = lowest_cases (λ a. a ≡ found r) (λ i g e c. ap found (same i e c)) (λ c. not_both (l.picked h) (c r h))
      where
        -- of two numbers that are picked while no lower one is, neither is lower
        same : (i : ℕ) → test i ≡ true → Clear test i → i ≡ r
        same i e c =
            let low : i < r → ⊥ = λ k. not_both e (l.clear i k) in
            let high : r < i → ⊥ = λ k. not_both (l.picked h) (c r k) in omega arith

    pub lowest_none : n ≤ r → lowest test found none n ≡ none
    lowest_none h = lowest_cases (λ a. a ≡ none) (λ i g e c. not_both e (l.clear i (omega arith))) (λ c. refl)

-- the lowest number itself, with n for none
pub lowest_number : {test : ℕ → Bool} {n r : ℕ} → Lowest test n r → r ≡ lowest test (λ i. i) n n
lowest_number {test} {n} {r} l = go (eq-or-lt_of_le l.low)
  where
    go : (r ≡ n) ⊎ (r < n) → r ≡ lowest test (λ i. i) n n
    go (inl q) = q ∙ sym (lowest_none test (λ i. i) n n r l (omega arith))
    go (inr h) = sym (lowest_found test (λ i. i) n n r l h)

pub number_lowest : (test : ℕ → Bool) (n r : ℕ) → r ≡ lowest test (λ i. i) n n → Lowest test n r
number_lowest test n r e =
    subst (Lowest test n) (sym e)
    (lowest_cases test (λ i. i) n n (Lowest test n)
    (λ i h p c. record { low = omega arith; picked = λ l. p; clear = c }) (λ c. record { low = omega arith; picked = λ l. absurd (omega arith); clear = c }))
