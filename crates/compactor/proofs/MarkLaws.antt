-- Marking the survivors: what one record marks, and that the marks of all records are the survivors.
-- Assumes nothing.
use mathlib.Core.Path.{◌≡◌, refl, sym, ap, ap₂, subst, ◌∙◌}
use mathlib.Core.Bool.{Bool, true, false, cond, not, ◌||◌}
use mathlib.Core.Logic.{◌⊎◌, inl, inr}
use mathlib.Core.List.{List, [], ◌∷◌}
use Prim.Native.Nat.{ℕ, zero, suc, ◌+◌, ◌≤◌, ◌<◌}
use native.Mathlib.Nat.{eq-or-lt_of_le, not-suc-le-zero}
use native.Mathlib.Numerals.{add-one}
use native.Mathlib.Omega.{arith}
use lib.Dec.{eqb, ltb}
use lib.ListN.{length, get_or, set, take, length-set}
use lib.Seq.{get_or-set_same, get_or-set_other}
use borrow.Author.Tests.{eqb-true, eqb-false, eq-eqb, lt-ltb}
use Rattle.endian.specs.Lists.{word_at}
use Rattle.endian.proofs.ListLaws.{words_only}
use Rattle.netlist.specs.Kinds.{kind_of, uses_of, operands_of, is_in, names}
use Rattle.netlist.specs.Layout.{Design, design_of, count_of, code_at, fields_at, record_at}
use Rattle.netlist.specs.declared.record.Fields.{Fields}
use Rattle.netlist.specs.declared.record.Kind.{Kind}
use Rattle.netlist.specs.declared.record.Uses.{Uses}
use Rattle.netlist.proofs.LowestLaws.{not_both}
use Rattle.netlist.proofs.Tests.{by_test}
use Rattle.netlist.specs.Limits.{max_count}
use Rattle.rules.specs.Lent.{LentAt}
use Rattle.rules.proofs.Acceptance.{few}
use Rattle.rules.proofs.SoundLaws.{OperandsBelow, operands_below}
use Rattle.compact.specs.Survivors.{is_blank, blanked, is_named, survives}
use Rattle.compact.proofs.SurvivorLaws.{stays_kind, stays_survives, blank_operands, named_only, surviving}
use Rattle.compactor.specs.Numbers.{flag_of, flags_of, kept_by, Marks}

-- ---- what is put into a list

pub marks_none : (l : List ℕ) → Marks l l []
marks_none l = record { size = refl; each = λ j h. refl }

pub marks_one : {l m js : List ℕ} (x : ℕ) → Marks l m js → x < length m → Marks l (set m x 1) (x ∷ js)
marks_one {l} {m} {js} x t h =
    record {
      size = length-set m x 1 ∙ t.size;
      each = λ j g.
          by_test (eqb x j)
          (λ e.
          ap (λ (k : ℕ). get_or (set m x 1) k 0) (sym (eqb-true x j e)) ∙ get_or-set_same m x 1 0 h
          ∙ sym (ap (λ (b : Bool). cond (b || is_in j js) 1 (word_at l j)) e))
          (λ e.
          get_or-set_other m x j 1 0 (λ q. eqb-false x j e (let s : x ≡ j = omega arith in s)) ∙ t.each j g
          ∙ sym (ap (λ (b : Bool). cond (b || is_in j js) 1 (word_at l j)) e));
    }

pub marks_same : {l m js ks : List ℕ} → Marks l m js → ((j : ℕ) → is_in j js ≡ is_in j ks) → Marks l m ks
marks_same {l} t same =
    record { size = t.size; each = λ j h. t.each j h ∙ ap (λ (b : Bool). cond b 1 (word_at l j)) (same j) }

-- an operand that is not used gives way to the record's own number
no_operand : (own : Bool) → (own || (own || (own || (own || false)))) ≡ (own || false)
no_operand true = refl
no_operand false = refl

one_operand : (own a : Bool) → (own || (a || (own || (own || false)))) ≡ (own || (a || false))
one_operand true a = refl
one_operand false a = refl

two_operands : (own a b : Bool) → (own || (a || (b || (own || false)))) ≡ (own || (a || (b || false)))
two_operands true a b = refl
two_operands false a b = refl

pub operands_or : (u : Uses) (own j : ℕ)
    → is_in j (own ∷ cond (ltb 0 u.count) u.a own ∷ cond (ltb 1 u.count) u.b own ∷ cond (ltb 2 u.count) u.c own ∷ [])
    ≡ is_in j (own ∷ operands_of u)
unfolding operands_of
operands_or u own j = go u.count
  where
    go : (n : ℕ) → is_in j (own ∷ cond (ltb 0 n) u.a own ∷ cond (ltb 1 n) u.b own ∷ cond (ltb 2 n) u.c own ∷ [])
        ≡ is_in j (own ∷ take n (u.a ∷ u.b ∷ u.c ∷ []))
    go zero = no_operand (eqb own j)
    go (suc zero) = one_operand (eqb own j) (eqb u.a j)
    go (suc (suc zero)) = two_operands (eqb own j) (eqb u.a j) (eqb u.b j)
    go (suc (suc (suc zero))) = refl
    go (suc (suc (suc (suc n)))) =
        let m = suc (suc (suc (suc n))) in rw (lt-ltb 0 m (omega arith), lt-ltb 1 m (omega arith), lt-ltb 2 m (omega arith))

or_below : (b : Bool) {x own n : ℕ} → x < n → own < n → cond b x own < n
or_below true h g = h
or_below false h g = g

-- the places that a record marks lie within a list with a word for each record of an accepted file
module _ {file numbers : List ℕ} {i : ℕ} (lent : LentAt file numbers i) {code : ℕ} {f : Fields} {u : Uses}
    (e : u ≡ uses_of (kind_of code f)) (p : code ≡ code_at file i) (q : f ≡ fields_at file i) where
  pub uses_are : u ≡ uses_of (record_at file i).kind
  unfolding record_at
  uses_are = e ∙ ap₂ (λ (x : ℕ) (g : Fields). uses_of (kind_of x g)) p q

  below : OperandsBelow u (count_of file)
  unfolding design_of
  below = subst (λ (v : Uses). OperandsBelow v (count_of file)) (sym uses_are) (operands_below (design_of file) lent.accepted.sound i lent.below)

  within : (used : Bool) {operand place : ℕ} → operand < count_of file → place ≡ cond used operand i
      → (place < length numbers) × (place < max_count)
  within used h r =
      let l = or_below used h lent.below in let s = lent.size in let m = few _ _ lent.accepted in (omega arith, omega arith)

  pub a_place : {place : ℕ} → place ≡ cond (ltb 0 u.count) u.a i → (place < length numbers) × (place < max_count)
  a_place = within (ltb 0 u.count) below.a

  pub b_place : {place : ℕ} → place ≡ cond (ltb 1 u.count) u.b i → (place < length numbers) × (place < max_count)
  b_place = within (ltb 1 u.count) below.b

  pub c_place : {place : ℕ} → place ≡ cond (ltb 2 u.count) u.c i → (place < length numbers) × (place < max_count)
  c_place = within (ltb 2 u.count) below.c

-- ---- what one record keeps

module _ (d : Design) (masks : List ℕ) (i : ℕ) where
  pub kept_none : is_blank d masks i ≡ true → kept_by d masks i ≡ []
  unfolding kept_by
  kept_none b = ap (λ (t : Bool). cond t [] (i ∷ operands_of (uses_of (d.at i).kind))) b

  pub kept_some : is_blank d masks i ≡ false → kept_by d masks i ≡ i ∷ operands_of (uses_of (d.at i).kind)
  unfolding kept_by
  kept_some b = ap (λ (t : Bool). cond t [] (i ∷ operands_of (uses_of (d.at i).kind))) b

  -- the marks of a record that is not blank
  module _ {l m : List ℕ} (u : Uses) (e : u ≡ uses_of (d.at i).kind) where
    pub marks_kept : is_blank d masks i ≡ false → {a b c : ℕ} → a ≡ cond (ltb 0 u.count) u.a i → b ≡ cond (ltb 1 u.count) u.b i
        → c ≡ cond (ltb 2 u.count) u.c i → Marks l m (i ∷ a ∷ b ∷ c ∷ []) → Marks l m (kept_by d masks i)
    marks_kept blank {a} {b} {c} ea eb ec t =
        subst (Marks l m) (ap (λ (v : Uses). i ∷ operands_of v) e ∙ sym (kept_some blank))
        (marks_same t
        (λ j.
        ap (λ (x : ℕ). is_in j (i ∷ x ∷ b ∷ c ∷ [])) ea ∙ ap (λ (x : ℕ). is_in j (i ∷ cond (ltb 0 u.count) u.a i ∷ x ∷ c ∷ [])) eb
        ∙ ap (λ (x : ℕ). is_in j (i ∷ cond (ltb 0 u.count) u.a i ∷ cond (ltb 1 u.count) u.b i ∷ x ∷ [])) ec ∙ operands_or u i j))

-- ---- what the first records keep

unfoldable pub kept_to : Design → List ℕ → ℕ → ℕ → Bool
kept_to d masks zero j = false
kept_to d masks (suc i) j = kept_to d masks i j || is_in j (kept_by d masks i)

or_left : {a : Bool} (b : Bool) → a ≡ true → (a || b) ≡ true
or_left b e = ap (λ (t : Bool). t || b) e

or_right : (a : Bool) {b : Bool} → b ≡ true → (a || b) ≡ true
or_right true e = refl
or_right false e = e

second : {a b : Bool} → a ≡ false → (a || b) ≡ true → b ≡ true
second {a} {b} f e = sym (ap (λ (t : Bool). t || b) f) ∙ e

module _ (d : Design) (masks : List ℕ) (j : ℕ) where
  -- a record below n keeps j
  kept_from : (n k : ℕ) → k < n → is_in j (kept_by d masks k) ≡ true → kept_to d masks n j ≡ true
  unfolding kept_to
  kept_from zero k h e = absurd (not-suc-le-zero h)
  kept_from (suc n) k h e = go (kept_from n k) (eq-or-lt_of_le (let l : k ≤ n = omega arith in l))
    where
      go : (k < n → is_in j (kept_by d masks k) ≡ true → kept_to d masks n j ≡ true) → (k ≡ n) ⊎ (k < n)
          → (kept_to d masks n j || is_in j (kept_by d masks n)) ≡ true
      go before (inl q) = or_right (kept_to d masks n j) (subst (λ (m : ℕ). is_in j (kept_by d masks m) ≡ true) q e)
      go before (inr l) = or_left (is_in j (kept_by d masks n)) (before l e)

  -- whom a record keeps survives
  one_survives : (i : ℕ) → i < d.count → is_in j (kept_by d masks i) ≡ true → survives d masks j ≡ true
  one_survives i h e =
      by_test (is_blank d masks i)
      (λ b. (let q = kept_none d masks i b in cc))
      (λ b. own_or_named b (subst (λ (js : List ℕ). is_in j js ≡ true) (kept_some d masks i b) e))
    where
      own_or_named : is_blank d masks i ≡ false → (eqb i j || names (d.at i).kind j) ≡ true → survives d masks j ≡ true
      own_or_named b p =
          by_test (eqb i j)
          (λ q. subst (λ (k : ℕ). survives d masks k ≡ true) (eqb-true i j q) (stays_survives d masks i b))
          (λ q. (surviving d masks).named i j h (stays_survives d masks i b) b (second q p))

  all_survive : (n : ℕ) → n ≤ d.count → kept_to d masks n j ≡ true → survives d masks j ≡ true
  unfolding kept_to
  all_survive zero h e = cc
  all_survive (suc n) h e =
      let before = all_survive n (omega arith) in
      by_test (kept_to d masks n j) before (λ f. one_survives n (omega arith) (second f e))

  -- a survivor is kept by itself or by whoever names it
  survivor_kept : j < d.count → survives d masks j ≡ true → kept_to d masks d.count j ≡ true
  unfolding survives
  survivor_kept h s =
      by_test (is_blank d masks j)
      (λ b. named_only (blanked d masks) d.count j named (sym (ap (λ (t : Bool). not t || is_named (blanked d masks) d.count j) b) ∙ s))
      (λ b. kept_for j h b (or_left (names (d.at j).kind j) (eq-eqb j j refl)))
    where
      kept_for : (i : ℕ) → i < d.count → is_blank d masks i ≡ false → (eqb i j || names (d.at i).kind j) ≡ true → kept_to d masks d.count j ≡ true
      kept_for i g b e = kept_from d.count i g (subst (λ (js : List ℕ). is_in j js ≡ true) (sym (kept_some d masks i b)) e)

      named : (i : ℕ) → i < d.count → names ((blanked d masks).at i).kind j ≡ true → kept_to d masks d.count j ≡ true
      named i g e =
          by_test (is_blank d masks i)
          (λ b. (let q = blank_operands d masks i b in cc))
          (λ b. kept_for i g b (or_right (eqb i j) (sym (ap (λ (k : Kind). names k j) (stays_kind d masks i b)) ∙ e)))

  kept_all : j < d.count → kept_to d masks d.count j ≡ survives d masks j
  kept_all h =
      by_test (survives d masks j) (λ s. survivor_kept h s ∙ sym s)
      (λ s. by_test (kept_to d masks d.count j) (λ k. not_both (all_survive d.count (omega arith) k) s) (λ k. k ∙ sym s))

-- ---- the list as it is being marked

-- the marks of the first i records
pub record Marking (d : Design) (masks list : List ℕ) (i : ℕ) : Type 0 where
  pub size : length list ≡ d.count
  pub low : i ≤ d.count
  pub each : (j : ℕ) → j < d.count → word_at list j ≡ flag_of (kept_to d masks i j)

pub marking_none : (d : Design) (masks list : List ℕ) → length list ≡ d.count → ((j : ℕ) → j < d.count → word_at list j ≡ 0) → Marking d masks list 0
unfolding kept_to
marking_none d masks list e clear = record { size = e; low = omega arith; each = clear }

either : (a b : Bool) → cond b 1 (flag_of a) ≡ flag_of (a || b)
either true true = refl
either true false = refl
either false true = refl
either false false = refl

pub marking_next : {d : Design} {masks list after : List ℕ} {i : ℕ} → Marking d masks list i → i < d.count → Marks list after (kept_by d masks i)
    → Marking d masks after (i + 1)
unfolding kept_to
marking_next {d} {masks} {list} {after} {i} t h m =
    record {
      size = m.size ∙ t.size;
      low = omega arith;
      each = λ j g.
          m.each j (let s = t.size in omega arith) ∙ ap (λ (w : ℕ). cond (is_in j (kept_by d masks i)) 1 w) (t.each j g)
          ∙ either (kept_to d masks i j) (is_in j (kept_by d masks i)) ∙ ap (λ (k : ℕ). flag_of (kept_to d masks k j)) (sym (add-one i));
    }

pub marking_all : {d : Design} {masks list : List ℕ} {i : ℕ} → Marking d masks list i → d.count ≤ i → list ≡ flags_of d masks
unfolding flags_of
marking_all {d} {masks} {list} {i} t h =
    words_only (λ k. flag_of (survives d masks k)) d.count list t.size
    (λ j g.
    t.each j g ∙ ap (λ (k : ℕ). flag_of (kept_to d masks k j)) (let l = t.low in let q : i ≡ d.count = omega arith in q)
    ∙ ap flag_of (kept_all d masks j g))
