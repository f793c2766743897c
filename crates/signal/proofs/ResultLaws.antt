-- The law that what a record asks is enough, kind by kind: where two runs agree on what is asked with D, the results agree on D. And a
-- result depends on the words of records below it alone. Assumes nothing. The crates above use these laws and look at no kind.
use mathlib.Core.Path.{◌≡◌, refl, sym, subst}
use mathlib.Core.Bool.{Bool, true, false, cond}
use mathlib.Core.Logic.{◌⊎◌, inl, inr}
use mathlib.Core.List.{List, [], ◌∷◌}
use Prim.Native.Nat.{ℕ, zero, suc, ◌^◌, ◌≤◌, ◌<◌}
use native.Mathlib.Omega.{arith}
use lib.Bits.{bit_or}
use lib.Dec.{eqb, ltb, eqb-suc-zero}
use Rattle.bits.specs.Masks.{Agree}
use Rattle.bits.specs.Words.{low_mask}
use Rattle.bits.proofs.Agreement.{agree_refl, agree_zero, agree_xor, agree_equal, agree_cut, agree_extract, agree_concat}
use Rattle.bits.proofs.Congruence.{agree_sum, agree_difference, agree_product}
use Rattle.bits.proofs.Order.{meet_right, within_lt}
use Rattle.netlist.specs.Limits.{max_width}
use Rattle.netlist.specs.Kinds.{kind_of, uses_of, width_rules, operands_of, renumbered, is_held}
use Rattle.netlist.specs.Layout.{Design, role_at}
use Rattle.netlist.specs.Rules.{AllHold}
use Rattle.netlist.specs.declared.record.Kind.{Kind}
use Rattle.netlist.specs.declared.record.Kind.TheVariants.{Input, Constant, Register, Output, Extract, Concat, And, Or, Xor, Mux, Add, Sub, Mul, Equal, Below, LeftShift, RightShift, ArithmeticRightShift, SignedBelow}
use Rattle.netlist.specs.declared.record.Record.{Record}
use Rattle.netlist.specs.declared.record.Role.{Role}
use Rattle.netlist.specs.declared.record.Role.TheVariants.{Input as input, Register as register, Output as output, Gate as gate}
use Rattle.netlist.proofs.KindLaws.{kind_back}
use Rattle.netlist.proofs.OperandLists.{Each, each_more}
use Rattle.rules.specs.Fit.{operand_limit, names_rules, operand_rules, width_rules_at}
use Rattle.rules.specs.Sound.{Sound}
use Rattle.rules.proofs.SoundLaws.{operands_below, names_each}
use Rattle.signal.specs.Results.{arithmetic_down, signed_at, result_of, result_at}
use Rattle.signal.specs.Asks.{ask, if_any, all_if_any, up_within, top_if_copied, each_beside, asks_of, demand_of, asked}
use Rattle.signal.specs.declared.Ask.{Ask}
use Rattle.signal.proofs.ConstantLaws.{Fixed, Cutting, cutting_and, cutting_or, beside_enough}
use Rattle.signal.proofs.ShiftLaws.{agree_left_shift, agree_right_shift, agree_arithmetic_shift}

-- ---- what two runs have in common at an operand

-- Two runs at an operand of which a mask is asked: its values agree on the mask, both lie within its width, and in the first run a constant
-- has its value.
pub record Met (at : ℕ → Record) (v v' : ℕ → ℕ) (x : Ask) : Type 0 where
  pub agree : Agree x.mask (v x.operand) (v' x.operand)
  pub first : v x.operand < 2 ^ (at x.operand).width
  pub second : v' x.operand < 2 ^ (at x.operand).width
  pub fixed : Fixed (at x.operand) (v x.operand)

abbrev pub AllMet : (ℕ → Record) → (ℕ → ℕ) → (ℕ → ℕ) → List Ask → Type 0
AllMet at v v' [] = Unit {0}
AllMet at v v' (x ∷ xs) = Met at v v' x × AllMet at v v' xs

-- ---- choices and comparisons

agree_cond : {D y y' z z' : ℕ} (b : Bool) → Agree D y y' → Agree D z z' → Agree D (cond b y z) (cond b y' z')
agree_cond true h g = h
agree_cond false h g = g

-- a choice by selectors that are equal, if D is not 0
agree_choice : {D x x' y y' z z' : ℕ} → (D ≡ 0) ⊎ (x ≡ x') → Agree D y y' → Agree D z z' → Agree D (cond (eqb x 1) y z) (cond (eqb x' 1) y' z')
agree_choice (inl e) h g = rw e (agree_zero _ _)
agree_choice {x' = x'} (inr e) h g = rw e (agree_cond (eqb x' 1) h g)

-- values that agree on all bits if D is not 0 are equal, if it is not
any_equal : (w D : ℕ) {x y : ℕ} → x < 2 ^ w → y < 2 ^ w → Agree (all_if_any w D) x y → (D ≡ 0) ⊎ (x ≡ y)
any_equal w zero h g a = inl refl
any_equal w (suc D) {x} {y} h g a = inr (agree_equal w h g (subst (λ (t : Bool). Agree (cond t 0 (low_mask w)) x y) (eqb-suc-zero D) a))

agree_test : {D x x' y y' : ℕ} (f : ℕ → ℕ → Bool) → (D ≡ 0) ⊎ (x ≡ x') → (D ≡ 0) ⊎ (y ≡ y') → Agree D (cond (f x y) 1 0) (cond (f x' y') 1 0)
agree_test f (inl e) h = rw e (agree_zero _ _)
agree_test f (inr e) (inl g) = rw g (agree_zero _ _)
agree_test f (inr e) (inr g) = rw (e, g) (agree_refl _ _)

-- ---- the law, kind by kind

module _ (at : ℕ → Record) (v v' : ℕ → ℕ) {w D : ℕ} (low : D < 2 ^ w) (narrow : w ≤ max_width) where
  compared : (f : ℕ → ℕ → Bool) {a b : ℕ}
      → AllMet at v v' (ask a (all_if_any (at a).width D) ∷ ask b (all_if_any (at b).width D) ∷ [])
      → Agree D (cond (f (v a) (v b)) 1 0) (cond (f (v' a) (v' b)) 1 0)
  compared f {a} {b} m =
      agree_test f (any_equal (at a).width D m.0.first m.0.second m.0.agree)
      (any_equal (at b).width D m.1.0.first m.1.0.second m.1.0.agree)

  selected : (a : ℕ) → (at a).width ≡ 1 → Met at v v' (ask a (if_any 1 D)) → (D ≡ 0) ⊎ (v a ≡ v' a)
  selected a e m = any_equal 1 D (subst (λ (u : ℕ). v a < 2 ^ u) e m.first) (subst (λ (u : ℕ). v' a < 2 ^ u) e m.second) m.agree

  masked : {op cut_by : ℕ → ℕ → ℕ} → Cutting op cut_by → (a b : ℕ) → AllMet at v v' (each_beside cut_by at a b D)
      → Agree D (op (v a) (v b)) (op (v' a) (v' b))
  masked c a b m = beside_enough c (at a) (at b) m.0.fixed m.1.0.fixed m.0.agree m.1.0.agree

  -- the shift is of the record's width, and asks by that of its operand
  shifted : (a k : ℕ) → (at a).width ≡ w → k < w → Met at v v' (ask a (bit_or (up_within (at a).width k D) (top_if_copied (at a).width k D)))
      → Agree D (arithmetic_down w k (v a)) (arithmetic_down w k (v' a))
  shifted a k e g m =
      subst (λ (u : ℕ). D < 2 ^ u → k < u → u ≤ max_width → Agree D (arithmetic_down u k (v a)) (arithmetic_down u k (v' a))) e
      (λ l h n. agree_arithmetic_shift (at a).width k l h n m.first m.second m.agree) low g narrow

  pub results_agree : (kind : Kind) (own own' : ℕ) → (at (uses_of kind).a).width ≤ max_width
      → AllHold (width_rules kind w (at (uses_of kind).a).width (at (uses_of kind).b).width (at (uses_of kind).c).width)
      → (is_held (uses_of kind).role ≡ true → Agree D own own') → (is_held (uses_of kind).role ≡ false → AllMet at v v' (asks_of at kind D))
      → Agree D (result_of kind w (at (uses_of kind).b).width own (v (uses_of kind).a) (v (uses_of kind).b) (v (uses_of kind).c))
      (result_of kind w (at (uses_of kind).b).width own' (v' (uses_of kind).a) (v' (uses_of kind).b) (v' (uses_of kind).c))
  results_agree Input own own' n r held met = held refl
  results_agree (Constant k) own own' n r held met = agree_refl D k
  results_agree (Register a k) own own' n r held met = held refl
  results_agree (Output a) own own' n r held met = (met refl).0.agree
  results_agree (Extract a k) own own' n r held met = agree_extract w k low (omega arith) (met refl).0.agree
  results_agree (Concat a b) own own' n r held met =
      let m = met refl in
      agree_cut w low (agree_concat (at b).width m.1.0.first m.1.0.second m.0.agree m.1.0.agree)
  results_agree (And a b) own own' n r held met = masked cutting_and a b (met refl)
  results_agree (Or a b) own own' n r held met = masked cutting_or a b (met refl)
  results_agree (Xor a b) own own' n r held met = agree_xor (met refl).0.agree (met refl).1.0.agree
  results_agree (Mux a b c) own own' n r held met =
      let m = met refl in
      agree_choice (selected a r.0 m.0) m.1.0.agree m.1.1.0.agree
  results_agree (Add a b) own own' n r held met = agree_sum w low narrow (met refl).0.agree (met refl).1.0.agree
  results_agree (Sub a b) own own' n r held met = agree_difference w low narrow (met refl).0.agree (met refl).1.0.agree
  results_agree (Mul a b) own own' n r held met = agree_product w low narrow (met refl).0.agree (met refl).1.0.agree
  results_agree (Equal a b) own own' n r held met = compared eqb (met refl)
  results_agree (Below a b) own own' n r held met = compared ltb (met refl)
  results_agree (LeftShift a k) own own' n r held met = agree_left_shift w k low (met refl).0.agree
  results_agree (RightShift a k) own own' n r held met =
      let m = (met refl).0 in
      agree_right_shift (at a).width k n m.first m.second m.agree
  results_agree (ArithmeticRightShift a k) own own' n r held met = shifted a k r.0 r.1.0 (met refl).0
  results_agree (SignedBelow a b) own own' n r held met = compared (λ (x y : ℕ). ltb (signed_at (at b).width x) (signed_at (at b).width y)) (met refl)

-- the law for the records of a sound design
module _ (d : Design) (s : Sound d) (i : ℕ) (h : i < d.count) (v v' : ℕ → ℕ) where
  pub result_agree : (m : ℕ) → (is_held (role_at d i) ≡ true → Agree (demand_of (d.at i) m) (v i) (v' i))
      → (is_held (role_at d i) ≡ false → AllMet d.at v v' (asked d.at i m))
      → Agree (demand_of (d.at i) m) (result_at d.at v i) (result_at d.at v' i)
  unfolding asked result_at width_rules_at
  result_agree m held met =
      let r = s.each i h in
      let o = operands_below d s i h in
      results_agree d.at v v' (within_lt (d.at i).width (meet_right m (d.at i).keep) r.keep) r.narrow (d.at i).kind (v i) (v' i)
      (s.each (uses_of (d.at i).kind).a o.a).narrow r.widths held met

-- ---- what a result depends on

-- a result depends on the operands that the kind uses, and on the record's own word where that counts. Operands may have new numbers, each with
-- its old value and width.
module _ (new widths widths' v v' : ℕ → ℕ) where
  abbrev Same : ℕ → Type 0
  Same j = (v j ≡ v' (new j)) × (widths j ≡ widths' (new j))

  results_same : (kind : Kind) (w own own' : ℕ) → (is_held (uses_of kind).role ≡ true → own ≡ own')
      → (is_held (uses_of kind).role ≡ false → Each Same (operands_of (uses_of kind)))
      → let u = uses_of kind in
      let u' = uses_of (renumbered new kind) in
      result_of kind w (widths u.b) own (v u.a) (v u.b) (v u.c)
      ≡ result_of (renumbered new kind) w (widths' u'.b) own' (v' u'.a) (v' u'.b) (v' u'.c)
  unfolding renumbered kind_of operands_of
  results_same Input w own own' held same = held refl
  results_same (Constant k) w own own' held same = refl
  results_same (Register a k) w own own' held same = held refl
  results_same (Output a) w own own' held same = (same refl).0.0
  results_same (Extract a k) w own own' held same = rw (same refl).0.0
  results_same (Concat a b) w own own' held same = rw ((same refl).0.0, (same refl).1.0.0, (same refl).1.0.1)
  results_same (And a b) w own own' held same = rw ((same refl).0.0, (same refl).1.0.0)
  results_same (Or a b) w own own' held same = rw ((same refl).0.0, (same refl).1.0.0)
  results_same (Xor a b) w own own' held same = rw ((same refl).0.0, (same refl).1.0.0)
  results_same (Mux a b c) w own own' held same = rw ((same refl).0.0, (same refl).1.0.0, (same refl).1.1.0.0)
  results_same (Add a b) w own own' held same = rw ((same refl).0.0, (same refl).1.0.0)
  results_same (Sub a b) w own own' held same = rw ((same refl).0.0, (same refl).1.0.0)
  results_same (Mul a b) w own own' held same = rw ((same refl).0.0, (same refl).1.0.0)
  results_same (Equal a b) w own own' held same = rw ((same refl).0.0, (same refl).1.0.0)
  results_same (Below a b) w own own' held same = rw ((same refl).0.0, (same refl).1.0.0)
  results_same (LeftShift a k) w own own' held same = rw (same refl).0.0
  results_same (RightShift a k) w own own' held same = rw (same refl).0.0
  results_same (ArithmeticRightShift a k) w own own' held same = rw (same refl).0.0
  results_same (SignedBelow a b) w own own' held same = rw ((same refl).0.0, (same refl).1.0.0, (same refl).1.0.1)

-- a record whose own word does not count names records below it
limit_own : (role : Role) (n i : ℕ) → is_held role ≡ false → operand_limit role n i ≡ i
limit_own input n i e = cc
limit_own (register a k) n i e = cc
limit_own output n i e = refl
limit_own gate n i e = refl

pub names_below : (d : Design) → Sound d → (i : ℕ) → i < d.count → is_held (role_at d i) ≡ false
    → AllHold (names_rules d i (operands_of (uses_of (d.at i).kind)))
unfolding operand_rules
names_below d s i h e =
    subst (λ (limit : ℕ). AllHold (names_rules d limit (operands_of (uses_of (d.at i).kind)))) (limit_own (role_at d i) d.count i e) (s.each i h).operands

-- the record of another design with this one's kind, with new numbers for its operands
module _ (at at' : ℕ → Record) (new : ℕ → ℕ) (i i' : ℕ) (kind : (at' i').kind ≡ renumbered new (at i).kind) (width : (at' i').width ≡ (at i).width)
    (v v' : ℕ → ℕ) where
  pub result_renumbered : (is_held (uses_of (at i).kind).role ≡ true → v i ≡ v' i')
      → (is_held (uses_of (at i).kind).role ≡ false → Each (Same new (λ j. (at j).width) (λ j. (at' j).width) v v') (operands_of (uses_of (at i).kind)))
      → result_at at v i ≡ result_at at' v' i'
  unfolding result_at
  result_renumbered held same =
      rw (kind, width) (results_same new (λ j. (at j).width) (λ j. (at' j).width) v v' (at i).kind (at i).width (v i) (v' i') held same)

-- the same record, where the words of records below it are the same
module _ (d : Design) (s : Sound d) (i : ℕ) (h : i < d.count) (v v' : ℕ → ℕ) where
  pub result_same : ((j : ℕ) → j < i → v j ≡ v' j) → (is_held (role_at d i) ≡ true → v i ≡ v' i) → result_at d.at v i ≡ result_at d.at v' i
  unfolding renumbered
  result_same same held =
      result_renumbered d.at d.at (λ j. j) i i (sym (kind_back (d.at i).kind)) refl v v' held
      (λ e. each_more (λ j n. (same j n.0, refl)) (operands_of (uses_of (d.at i).kind)) (names_each d i _ (names_below d s i h e)))
