-- Who survives: the set is the least one of which the sentences of #107 are so, and it has all that its records name.
-- Assumes nothing. That no chain of names has to be followed rests on #102: a record whose D is 0 asks for no bit.
use mathlib.Core.Path.{◌≡◌, refl, sym, ap, subst, ◌∙◌}
use mathlib.Core.Bool.{Bool, true, false, cond, not, ◌&&◌, ◌||◌}
use mathlib.Core.List.{List, [], ◌∷◌}
use Prim.Native.Nat.{ℕ, ◌<◌}
use native.Mathlib.Omega.{arith}
use lib.Dec.{eqb}
use borrow.Author.Tests.{eqb-true, eq-eqb}
use Rattle.bits.specs.Masks.{Within}
use Rattle.bits.proofs.Order.{within_zero, within_le}
use Rattle.netlist.specs.Kinds.{uses_of, operands_of, is_input, is_output, names}
use Rattle.netlist.specs.Layout.{Design, role_at}
use Rattle.netlist.specs.declared.record.Kind.{Kind}
use Rattle.netlist.specs.declared.record.Record.{Record}
use Rattle.netlist.specs.declared.record.Role.{Role}
use Rattle.netlist.specs.declared.record.Role.TheVariants.{Gate}
use Rattle.netlist.proofs.LowestLaws.{not_both, lowest_cases}
use Rattle.netlist.proofs.OperandLists.{Each, each_more, each_in}
use Rattle.netlist.proofs.Tests.{by_test}
use Rattle.signal.specs.Asks.{demand_of, asked, Granted}
use Rattle.signal.specs.AskLists.{AskedOf}
use Rattle.signal.specs.declared.Ask.{Ask}
use Rattle.signal.proofs.AskedNothing.{asked_none}
use Rattle.signal.proofs.AskedOperands.{asked_each}
use Rattle.care.specs.Least.{Least, output_seed, mask_at}
use Rattle.trim.specs.Trimmed.{trim_design}
use Rattle.compact.specs.Survivors.{is_port, is_blank, with_blanks, blanked, Surviving, Survivors, is_named, survives}
use Rattle.compact.proofs.BlankLaws.{blank_here, none_here}
use Rattle.compact.proofs.PartLaws.{NamesInside}

-- ---- ports, blanks and names

pub input_port : (role : Role) → is_input role ≡ true → is_port role ≡ true
input_port role e = ap (λ (b : Bool). b || is_output role) e

pub output_port : (role : Role) → is_output role ≡ true → is_port role ≡ true
output_port role e = by_test (is_input role) (λ i. ap (λ (b : Bool). b || is_output role) i) (λ i. ap (λ (b : Bool). b || is_output role) i ∙ e)

pub no_input : (role : Role) → is_port role ≡ false → is_input role ≡ false
no_input role e = by_test (is_input role) (λ i. not_both (input_port role i) e) (λ i. i)

pub no_output : (role : Role) → is_port role ≡ false → is_output role ≡ false
no_output role e = by_test (is_output role) (λ o. not_both (output_port role o) e) (λ o. o)

-- a test that fails as a whole though its first part passes
second_fails : (a b : Bool) → (a && not b) ≡ false → a ≡ true → b ≡ true
second_fails true true e t = refl
second_fails true false e t = cc
second_fails false b e t = cc

both_pass : (a b : Bool) → (a && not b) ≡ true → (a ≡ true) × (b ≡ false)
both_pass true true e = cc
both_pass true false e = (refl, refl)
both_pass false b e = cc

module _ (d : Design) (masks : List ℕ) (i : ℕ) where
  -- a blank has mask 0 and is no port; a port is no blank
  pub blank_mask : is_blank d masks i ≡ true → mask_at masks i ≡ 0
  unfolding is_blank
  blank_mask e = eqb-true (mask_at masks i) 0 (both_pass (eqb (mask_at masks i) 0) (is_port (role_at d i)) e).0

  pub blank_no_port : is_blank d masks i ≡ true → is_port (role_at d i) ≡ false
  unfolding is_blank
  blank_no_port e = (both_pass (eqb (mask_at masks i) 0) (is_port (role_at d i)) e).1

  pub port_no_blank : is_port (role_at d i) ≡ true → is_blank d masks i ≡ false
  port_no_blank e = by_test (is_blank d masks i) (λ b. not_both e (blank_no_port b)) (λ b. b)

  -- what is no blank is a port or has a mask
  no_blank : is_blank d masks i ≡ false → mask_at masks i ≡ 0 → is_port (role_at d i) ≡ true
  unfolding is_blank
  no_blank e m = second_fails (eqb (mask_at masks i) 0) (is_port (role_at d i)) e (eq-eqb (mask_at masks i) 0 m)

  -- what stays keeps its kind, and a blank names nothing
  pub stays_kind : is_blank d masks i ≡ false → ((blanked d masks).at i).kind ≡ (d.at i).kind
  unfolding blanked trim_design
  stays_kind e = ap (λ (r : Record). r.kind) (none_here (is_blank d masks) (trim_design d masks) i e)

  pub blank_operands : is_blank d masks i ≡ true → operands_of (uses_of ((blanked d masks).at i).kind) ≡ []
  unfolding blanked operands_of
  blank_operands e = ap (λ (r : Record). operands_of (uses_of r.kind)) (blank_here (is_blank d masks) (trim_design d masks) i e)

  -- which record is an input, and which an output, stays
  pub port_stays : (f : Role → Bool) → f Gate ≡ false → (is_port (role_at d i) ≡ false → f (role_at d i) ≡ false) → f (role_at (blanked d masks) i) ≡ f (role_at d i)
  unfolding blanked
  port_stays f gate none =
      by_test (is_blank d masks i)
      (λ b.
      ap (λ (r : Record). f (uses_of r.kind).role) (blank_here (is_blank d masks) (trim_design d masks) i b) ∙ gate ∙ sym (none (blank_no_port b)))
      (λ b. ap (λ (k : Kind). f (uses_of k).role) (stays_kind b))

  -- whoever is no blank survives
  pub stays_survives : is_blank d masks i ≡ false → survives d masks i ≡ true
  unfolding survives
  stays_survives e = rw e

  pub cared_survives : (mask_at masks i ≡ 0 → ⊥) → survives d masks i ≡ true
  cared_survives m = by_test (is_blank d masks i) (λ b. absurd (m (blank_mask b))) stays_survives

-- being named
module _ (d : Design) (n j : ℕ) where
  pub named_by : (i : ℕ) → i < n → names (d.at i).kind j ≡ true → is_named d n j ≡ true
  named_by i h e = lowest_cases (λ k. names (d.at k).kind j) _ _ n (λ b. b ≡ true) (λ k g p c. refl) (λ clear. not_both e (clear i h))

  pub named_only : {P : Type 0} → ((i : ℕ) → i < n → names (d.at i).kind j ≡ true → P) → is_named d n j ≡ true → P
  named_only {P} here =
      lowest_cases (λ k. names (d.at k).kind j) _ _ n (λ b. b ≡ true → P) (λ k g p c e. here k g p)
      (λ clear e. cc)

-- ---- the sentences of #107 are so of the survivors

module _ (d : Design) (masks : List ℕ) where
  named_survives : (i j : ℕ) → i < d.count → is_blank d masks i ≡ false → names (d.at i).kind j ≡ true → survives d masks j ≡ true
  unfolding survives
  named_survives i j h b e =
      by_test (is_blank d masks j)
      (λ t. rw t (named_by (blanked d masks) d.count j i h (ap (λ (k : Kind). names k j) (stays_kind d masks i b) ∙ e)))
      (stays_survives d masks j)

  pub surviving : Surviving d masks (survives d masks)
  surviving =
      record {
        ports = λ i h e. stays_survives d masks i (port_no_blank d masks i e);
        named = λ i j h s b e. named_survives i j h b e;
      }

  -- what a survivor names, as it is in the compacted file, survives
  pub names_survive : NamesInside (survives d masks) (blanked d masks)
  unfolding blanked with_blanks trim_design
  names_survive i h s =
      by_test (is_blank d masks i)
      (λ b. subst (Each (λ j. survives d masks j ≡ true)) (sym (blank_operands d masks i b)) tt)
      (λ b.
      subst (λ (k : Kind). Each (λ j. survives d masks j ≡ true) (operands_of (uses_of k))) (sym (stays_kind d masks i b))
      (each_more (λ j e. named_survives i j h b e) (operands_of (uses_of (d.at i).kind)) (each_in (operands_of (uses_of (d.at i).kind)))))

-- ---- and of no smaller set

-- all that is asked is asked of records where a family has as much
granted_where : (M F : ℕ → ℕ) (xs : List Ask) → AskedOf (λ j. M j ≡ F j) xs → Granted xs M → Granted xs F
granted_where M F [] same g = tt
granted_where M F (x ∷ xs) same g = (subst (Within x.mask) same.0 g.0, granted_where M F xs same.1 g.1)

module _ (d : Design) (masks : List ℕ) (least : Least d (output_seed d) (mask_at masks)) (set : ℕ → Bool) (all : Surviving d masks set) where
  -- the masks, cut down to the set
  abbrev M : ℕ → ℕ
  M = mask_at masks

  abbrev F : ℕ → ℕ
  F i = cond (set i) (M i) 0

  inside : (i : ℕ) → set i ≡ true → M i ≡ F i
  inside i e = sym (ap (λ (b : Bool). cond b (M i) 0) e)

  outside : (i : ℕ) → set i ≡ false → F i ≡ 0
  outside i e = ap (λ (b : Bool). cond b (M i) 0) e

  -- with mask 0 nothing is asked for
  nothing : (i m : ℕ) → m ≡ 0 → Granted (asked d.at i m) F
  nothing i m e = asked_none d.at F i m (ap (demand_of (d.at i)) e)

  seeded : (i : ℕ) → i < d.count → Within (output_seed d i) (F i)
  seeded i h =
      by_test (is_output (role_at d i))
      (λ e. subst (Within (output_seed d i)) (inside i (all.ports i h (output_port (role_at d i) e))) (least.closed.seeded i h))
      (λ e. rw e (within_zero (F i)))

  granted : (i : ℕ) → i < d.count → Granted (asked d.at i (F i)) F
  granted i h =
      by_test (set i)
      (λ e.
      by_test (is_blank d masks i)
      (λ b. nothing i (F i) (sym (inside i e) ∙ blank_mask d masks i b))
      (λ b.
      subst (λ (m : ℕ). Granted (asked d.at i m) F) (inside i e)
      (granted_where M F (asked d.at i (M i))
      (asked_each (λ j. M j ≡ F j) d.at i (M i)
      (each_more (λ j n. inside j (all.named i j h e b n)) (operands_of (uses_of (d.at i).kind)) (each_in (operands_of (uses_of (d.at i).kind)))))
      (least.closed.granted i h))))
      (λ e. nothing i (F i) (outside i e))

  -- a family so cut is closed, so the masks lie within it
  cared_in : (i : ℕ) → i < d.count → set i ≡ false → M i ≡ 0
  cared_in i h e =
      let l = within_le (subst (Within (M i)) (outside i e) (least.least F (record { seeded = seeded; granted = granted }) i h)) in omega arith

  stays_in : (i : ℕ) → i < d.count → is_blank d masks i ≡ false → set i ≡ true
  stays_in i h b = by_test (set i) (λ e. e) (λ e. all.ports i h (no_blank d masks i b (cared_in i h e)))

  pub survivors_least : (i : ℕ) → i < d.count → survives d masks i ≡ true → set i ≡ true
  unfolding survives blanked with_blanks trim_design
  survivors_least j h s =
      by_test (is_blank d masks j)
      (λ b.
      named_only (blanked d masks) d.count j (λ i g e. by_blank i g e) (rw b at s))
      (λ b. stays_in j h b)
    where
      by_blank : (i : ℕ) → i < d.count → names ((blanked d masks).at i).kind j ≡ true → set j ≡ true
      by_blank i g e =
          by_test (is_blank d masks i)
          (λ b. (let q = blank_operands d masks i b in cc))
          (λ b. all.named i j g (stays_in i g b) b (sym (ap (λ (k : Kind). names k j) (stays_kind d masks i b)) ∙ e))

pub survivors : (d : Design) (masks : List ℕ) → Least d (output_seed d) (mask_at masks) → Survivors d masks (survives d masks)
survivors d masks least = record { surviving = surviving d masks; least = survivors_least d masks least }
