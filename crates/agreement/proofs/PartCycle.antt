-- A part of a design that has all that its records name: its start, its values and its next states are those of the whole, at the new numbers.
-- Assumes nothing. No mask is in sight here.
use mathlib.Core.Path.{◌≡◌, refl, sym, ap, ap₂, subst, ◌∙◌}
use mathlib.Core.Bool.{Bool, true}
use mathlib.Core.List.{List}
use Prim.Native.Nat.{ℕ, zero, suc, ◌<◌}
use native.Mathlib.Nat.{not-suc-le-zero}
use native.Mathlib.Omega.{arith}
use lib.Bits.{bit_and}
use lib.ListN.{length, set}
use lib.Seq.{get_or-set_same, get_or-set_other}
use Rattle.endian.specs.Lists.{word_at}
use Rattle.netlist.specs.Kinds.{uses_of, operands_of, is_held}
use Rattle.netlist.specs.Layout.{Design, role_at}
use Rattle.netlist.specs.Picked.{rank_of}
use Rattle.netlist.specs.declared.record.Kind.{Kind}
use Rattle.netlist.specs.declared.record.Record.{Record}
use Rattle.netlist.specs.declared.record.Role.{Role}
use Rattle.netlist.specs.declared.record.Role.TheVariants.{Input, Register, Output, Gate}
use Rattle.netlist.proofs.KindLaws.{register_kind}
use Rattle.netlist.proofs.OperandLists.{Each, each_more, each_both}
use Rattle.netlist.proofs.PickedLaws.{rank_lt}
use Rattle.netlist.proofs.RoleLaws.{new_role}
use Rattle.rules.specs.Sound.{Sound}
use Rattle.rules.proofs.SoundLaws.{Nameable, names_each, register_loads}
use Rattle.signal.specs.Results.{result_at}
use Rattle.signal.proofs.ResultLaws.{names_below, result_renumbered}
use Rattle.clock.specs.Values.{unchanged, put_word, values_of, next_word, next_of, start_word, start_of}
use Rattle.clock.proofs.StateLaws.{start_word_at, next_word_at}
use Rattle.clock.proofs.ValueLaws.{length_values, value_defined}
use Rattle.compact.proofs.PartLaws.{PartOf, part_below, width_part, kind_part, role_part, NamesInside}

-- ---- words that go by roles

start_new : (new : ℕ → ℕ) (role : Role) → start_word (new_role new role) ≡ start_word role
start_new new Input = refl
start_new new (Register a k) = refl
start_new new Output = refl
start_new new Gate = refl

pub put_new : (new : ℕ → ℕ) (role : Role) (word old : ℕ) → put_word (new_role new role) word old ≡ put_word role word old
put_new new Input word old = refl
put_new new (Register a k) word old = refl
put_new new Output word old = refl
put_new new Gate word old = refl

module _ (test : ℕ → Bool) (d e : Design) (sd : Sound d) (se : Sound e) (inside : NamesInside test d) (p : PartOf test d e) where
  abbrev new : ℕ → ℕ
  new = rank_of test

  pub start_part : (i : ℕ) → i < d.count → test i ≡ true → word_at (start_of d) i ≡ word_at (start_of e) (rank_of test i)
  start_part i h t =
      start_word_at d i h ∙ sym (start_new new (role_at d i)) ∙ ap start_word (sym (role_part p i h t)) ∙ sym (start_word_at e (new i) (part_below p i h t))

  -- ---- values

  module _ (board board' : List ℕ) (size : length board ≡ d.count) (size' : length board' ≡ e.count)
      (held : (i : ℕ) → i < d.count → test i ≡ true → is_held (role_at d i) ≡ true → word_at board i ≡ word_at board' (rank_of test i)) where
    abbrev values : List ℕ
    values = values_of d unchanged board

    abbrev values' : List ℕ
    values' = values_of e unchanged board'

    module _ (i : ℕ) (h : i < d.count) (t : test i ≡ true)
        (below : (j : ℕ) → j < i → test j ≡ true → word_at values j ≡ word_at values' (rank_of test j)) where
      -- the board lists as the record finds them: the values, and its own word
      abbrev x : List ℕ
      x = set values i (word_at board i)

      abbrev x' : List ℕ
      x' = set values' (new i) (word_at board' (new i))

      own : word_at x i ≡ word_at board i
      own = get_or-set_same values i (word_at board i) 0 (let l = length_values d unchanged board in omega arith)

      own' : word_at x' (new i) ≡ word_at board' (new i)
      own' =
          get_or-set_same values' (new i) (word_at board' (new i)) 0
          (let l = length_values e unchanged board' in let b = part_below p i h t in omega arith)

      found : (j : ℕ) → j < i → test j ≡ true → word_at x j ≡ word_at x' (new j)
      found j l u =
          get_or-set_other values i j (word_at board i) 0 (λ q. omega arith) ∙ below j l u
          ∙ sym (get_or-set_other values' (new i) (new j) (word_at board' (new i)) 0 (λ q. let r = rank_lt test j i l u in omega arith))

      results : result_at d.at (word_at x) i ≡ result_at e.at (word_at x') (new i)
      results =
          result_renumbered d.at e.at new i (new i) (kind_part p i h t) (width_part p i h t) (word_at x) (word_at x')
          (λ q. own ∙ held i h t q ∙ sym own')
          (λ q.
          each_more (λ j n. (found j n.0.0 n.1, sym (width_part p j (let l = n.0.0 in omega arith) n.1)))
          (operands_of (uses_of (d.at i).kind))
          (each_both (Nameable d i) (λ j. test j ≡ true) (operands_of (uses_of (d.at i).kind))
          (names_each d i (operands_of (uses_of (d.at i).kind)) (names_below d sd i h q)) (inside i h t)))

      next_value : word_at values i ≡ word_at values' (new i)
      next_value =
          value_defined d sd unchanged board size i h
          ∙ ap₂ bit_and results (sym (ap (λ (r : Record). r.keep) (p.each i h t)))
          ∙ sym (value_defined e se unchanged board' size' (new i) (part_below p i h t))

    values_same : (k i : ℕ) → i < k → i < d.count → test i ≡ true → word_at values i ≡ word_at values' (new i)
    values_same zero i l h t = absurd (not-suc-le-zero l)
    values_same (suc k) i l h t = next_value i h t (λ j g u. values_same k j (omega arith) (omega arith) u)

    pub values_part : (i : ℕ) → i < d.count → test i ≡ true
        → word_at (values_of d unchanged board) i ≡ word_at (values_of e unchanged board') (rank_of test i)
    values_part i h t = values_same (suc i) i (omega arith) h t

  -- ---- next states

  module _ (values values' : List ℕ) (same : (i : ℕ) → i < d.count → test i ≡ true → word_at values i ≡ word_at values' (rank_of test i))
      (i : ℕ) (h : i < d.count) (t : test i ≡ true) where
    -- a register's a is in the part
    loaded_inside : (a k : ℕ) → role_at d i ≡ Register a k → test a ≡ true
    unfolding operands_of
    loaded_inside a k q =
        (subst (λ (kind : Kind). Each (λ j. test j ≡ true) (operands_of (uses_of kind))) (register_kind (d.at i).kind a k q) (inside i h t)).0

    next_new : (role : Role) → role_at d i ≡ role → next_word values role ≡ next_word values' (new_role new role)
    next_new Input q = refl
    next_new (Register a k) q = same a (register_loads d sd i h a k q).below (loaded_inside a k q)
    next_new Output q = refl
    next_new Gate q = refl

    pub next_part : word_at (next_of d values) i ≡ word_at (next_of e values') (rank_of test i)
    next_part =
        next_word_at d values i h ∙ next_new (role_at d i) refl ∙ ap (next_word values') (sym (role_part p i h t))
        ∙ sym (next_word_at e values' (new i) (part_below p i h t))
