-- Laws of used operands: which they are by their count, and the test of the first apart from the test of the rest.
-- Assumes nothing.
use mathlib.Core.Path.{◌≡◌, sym, ap, ◌∙◌}
use mathlib.Core.Bool.{Bool, true, false, not, ◌&&◌, and-true, and_assoc}
use mathlib.Core.List.{List, [], ◌∷◌}
use Prim.Native.Nat.{ℕ, zero, suc, ◌-◌, ◌≤◌, ◌<◌}
use native.Mathlib.Omega.{arith}
use lib.Dec.{ltb}
use lib.ListN.{take, get_or}
use lib.Seq.{take_all}
use borrow.Author.Tests.{ltb-true}
use Rattle.netlist.specs.Kinds.{operands_of, is_output}
use Rattle.netlist.specs.Layout.{Design, role_at}
use Rattle.netlist.specs.Rules.{below, is_not, test_all}
use Rattle.netlist.specs.declared.record.Uses.{Uses}
use Rattle.netlist.proofs.Tests.{and_first, and_second}
use Rattle.rules.specs.Fit.{names_rules}

-- the operands by their count
by_count : (u : Uses) (n : ℕ) → u.count ≡ n → operands_of u ≡ take n (u.a ∷ u.b ∷ u.c ∷ [])
unfolding operands_of
by_count u n e = ap (λ (m : ℕ). take m (u.a ∷ u.b ∷ u.c ∷ [])) e

all_three : (u : Uses) → 3 ≤ u.count → operands_of u ≡ u.a ∷ u.b ∷ u.c ∷ []
unfolding operands_of
all_three u h = take_all u.count (u.a ∷ u.b ∷ u.c ∷ []) h

-- r is the answer of the test of operand j
abbrev pub Named : Design → ℕ → ℕ → Bool → Type 0
Named d limit j r = r ≡ test_all (below j limit ∷ is_not (is_output (role_at d j)) ∷ [])

-- the test of an operand, then that of the rest
names_cons : (d : Design) (limit j : ℕ) (js : List ℕ) (r : Bool) → Named d limit j r → test_all (names_rules d limit (j ∷ js)) ≡ (r && test_all (names_rules d limit js))
unfolding names_rules
names_cons d limit j js r e =
    sym (and_assoc (ltb j limit) (not (is_output (role_at d j))) (test_all (names_rules d limit js)))
    ∙ ap (λ (t : Bool). (ltb j limit && t) && test_all (names_rules d limit js)) (sym (and-true (not (is_output (role_at d j)))))
    ∙ ap (λ (t : Bool). t && test_all (names_rules d limit js)) (sym e)

-- once the first operand's test is known, it stops at a failure and else leaves the answer to the rest
known_cons : (d : Design) (limit j : ℕ) (js : List ℕ) (r : Bool) → Named d limit j r → (t : Bool) → r ≡ t → test_all (names_rules d limit (j ∷ js)) ≡ (t && test_all (names_rules d limit js))
known_cons d limit j js r e t p = names_cons d limit j js r e ∙ ap (λ (b : Bool). b && test_all (names_rules d limit js)) p

-- the test of all operands, as far as the count and the tests of the first ones tell it
module _ (d : Design) (limit : ℕ) (u : Uses) where
  pub none_used : u.count < 1 → test_all (names_rules d limit (operands_of u)) ≡ true
  unfolding names_rules
  none_used h = ap (λ (l : List ℕ). test_all (names_rules d limit l)) (by_count u 0 (omega arith))

  pub first_fails : (r : Bool) → 1 ≤ u.count → Named d limit u.a r → r ≡ false → test_all (names_rules d limit (operands_of u)) ≡ false
  first_fails r h e p =
      ap (λ (l : List ℕ). test_all (names_rules d limit l)) (by_count u (suc (u.count - 1)) (omega arith))
      ∙ known_cons d limit u.a (take (u.count - 1) (u.b ∷ u.c ∷ [])) r e false p

  pub one_used : (r : Bool) → 1 ≤ u.count → u.count < 2 → Named d limit u.a r → r ≡ true → test_all (names_rules d limit (operands_of u)) ≡ true
  unfolding names_rules
  one_used r h g e p =
      ap (λ (l : List ℕ). test_all (names_rules d limit l)) (by_count u 1 (omega arith)) ∙ known_cons d limit u.a [] r e true p

  module _ (r : Bool) (e : Named d limit u.a r) (p : r ≡ true) (s : Bool) (f : Named d limit u.b s) where
    pub second_fails : 2 ≤ u.count → s ≡ false → test_all (names_rules d limit (operands_of u)) ≡ false
    second_fails h q =
        let rest = take (u.count - 2) (u.c ∷ []) in
        ap (λ (l : List ℕ). test_all (names_rules d limit l)) (by_count u (suc (suc (u.count - 2))) (omega arith))
        ∙ known_cons d limit u.a (u.b ∷ rest) r e true p ∙ known_cons d limit u.b rest s f false q

    pub two_used : 2 ≤ u.count → u.count < 3 → s ≡ true → test_all (names_rules d limit (operands_of u)) ≡ true
    unfolding names_rules
    two_used h g q =
        ap (λ (l : List ℕ). test_all (names_rules d limit l)) (by_count u 2 (omega arith))
        ∙ known_cons d limit u.a (u.b ∷ []) r e true p ∙ known_cons d limit u.b [] s f true q

    pub three_used : (t : Bool) → 3 ≤ u.count → s ≡ true → Named d limit u.c t → test_all (names_rules d limit (operands_of u)) ≡ t
    unfolding names_rules
    three_used t h q g =
        ap (λ (l : List ℕ). test_all (names_rules d limit l)) (all_three u h)
        ∙ known_cons d limit u.a (u.b ∷ u.c ∷ []) r e true p ∙ known_cons d limit u.b (u.c ∷ []) s f true q
        ∙ sym g

-- operands that pass lie below the limit; so does the 0 that stands for an unused one
pub operand_below : (d : Design) (limit n : ℕ) (js : List ℕ) → limit ≤ n → 0 < n → test_all (names_rules d limit js) ≡ true → (i : ℕ) → get_or js i 0 < n
unfolding names_rules
operand_below d limit n [] h g e i = g
operand_below d limit n (j ∷ js) h g e zero = let p = ltb-true j limit (and_first (ltb j limit) _ e) in omega arith
operand_below d limit n (j ∷ js) h g e (suc i) =
    operand_below d limit n js h g (and_second (not (is_output (role_at d j))) _ (and_second (ltb j limit) _ e)) i
