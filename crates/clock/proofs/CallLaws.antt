-- Laws of calls: what a call comes to by the answer of check and the lengths of its lists.
-- Assumes nothing.
use mathlib.Core.Path.{◌≡◌, refl, sym, ap, ◌∙◌}
use mathlib.Core.Bool.{Bool, true, false, cond}
use mathlib.Core.List.{List}
use Prim.Native.Nat.{ℕ, ◌<◌}
use lib.Dec.{eqb}
use borrow.Author.Tests.{eq-eqb, eqb-true}
use Rattle.std.specs.Prelude.{Result, Ok, Err, is_ok}
use Rattle.netlist.specs.declared.refusal.Refused.{Refused}
use Rattle.netlist.proofs.RefusalLaws.{err_not_ok}
use Rattle.netlist.specs.Layout.{Design, design_of}
use Rattle.netlist.specs.Refusals.{leaves, refused}
use Rattle.netlist.specs.declared.refusal.Refusal.TheVariants.{BadList, WideWord}
use Rattle.netlist.proofs.LowestLaws.{not_both, Clear, lowest_cases}
use Rattle.netlist.proofs.Tests.{and_first, and_second}
use Rattle.clock.specs.Call.{answer_after, is_wide, words_answer, both_have, start_answer, start_call, cycle_answer, cycle_with, cycle_call}
use Rattle.clock.specs.Values.{plain_values, plain_next, start_of}

-- ---- the answer, by the answer of check and the lengths of the lists

module _ (fit : ℕ → Bool) (rest : Result (Unit {0}) Refused) where
  after : Result ℕ Refused → Result (Unit {0}) Refused
  after c = answer_after c fit rest

  pub answer_refused : {c : Result ℕ Refused} {r : Refused} → c ≡ Err r → answer_after c fit rest ≡ Err r
  unfolding answer_after after
  answer_refused e = ap after e

  pub answer_bad_list : {c : Result ℕ Refused} {n : ℕ} → c ≡ Ok n → fit n ≡ false → answer_after c fit rest ≡ Err (refused BadList 0)
  unfolding answer_after after
  answer_bad_list e g = ap after e ∙ ap (λ (t : Bool). cond t rest (Err (refused BadList 0))) g

  pub answer_fit : {c : Result ℕ Refused} {n : ℕ} → c ≡ Ok n → fit n ≡ true → answer_after c fit rest ≡ rest
  unfolding answer_after after
  answer_fit e g = ap after e ∙ ap (λ (t : Bool). cond t rest (Err (refused BadList 0))) g

-- lists with room for n records
pub fit_both : (board next n : ℕ) → board ≡ n → next ≡ n → both_have board next n ≡ true
fit_both board next n e g = rw (eq-eqb board n e, eq-eqb next n g)

pub both_fit : (board next n : ℕ) → both_have board next n ≡ true → (board ≡ n) × (next ≡ n)
both_fit board next n e = (eqb-true board n (and_first _ _ e), eqb-true next n (and_second (eqb board n) _ e))

-- 12 applies to no record just where no word is too wide
module _ (d : Design) (board : List ℕ) where
  pub words_clear : words_answer d board ≡ Ok tt → (i : ℕ) → i < d.count → is_wide d board i ≡ false
  unfolding words_answer
  words_clear =
      lowest_cases (is_wide d board) (λ i. Err (refused WideWord i)) (Ok tt) d.count (λ a. a ≡ Ok tt → Clear (is_wide d board) d.count)
      (λ i h p c e. err_not_ok e) (λ clear e. clear)

  pub clear_words : ((i : ℕ) → i < d.count → is_wide d board i ≡ false) → words_answer d board ≡ Ok tt
  unfolding words_answer
  clear_words clear =
      lowest_cases (is_wide d board) (λ i. Err (refused WideWord i)) (Ok tt) d.count (λ a. a ≡ Ok tt) (λ i h p c. not_both p (clear i h)) (λ c. refl)

-- ---- what a call comes to, by its answer

module _ (file board : List ℕ) {a : Result (Unit {0}) Refused} where
  pub start_ends : start_answer file board ≡ a
      → (a ≡ (start_call file board).answer) × (leaves (is_ok a) (start_of (design_of file)) board ≡ (start_call file board).board)
  unfolding start_call
  start_ends e = (sym e, ap (λ (c : Result (Unit {0}) Refused). leaves (is_ok c) (start_of (design_of file)) board) (sym e))

  pub cycle_ends : (next : List ℕ) → cycle_answer file board next ≡ a
      → (a ≡ (cycle_call file board next).answer)
      × ((leaves (is_ok a) (plain_values (design_of file) board) board ≡ (cycle_call file board next).board)
      × (leaves (is_ok a) (plain_next (design_of file) board) next ≡ (cycle_call file board next).next))
  unfolding cycle_with
  cycle_ends next e = (
    sym e,
    (
      ap (λ (c : Result (Unit {0}) Refused). leaves (is_ok c) (plain_values (design_of file) board) board) (sym e),
      ap (λ (c : Result (Unit {0}) Refused). leaves (is_ok c) (plain_next (design_of file) board) next) (sym e),
    ),
  )
