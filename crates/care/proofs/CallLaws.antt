-- The three ends of a call that fills a mask list: the file is refused, the list has another length, or the masks are filled in.
-- Assumes nothing.
use mathlib.Core.Path.{◌≡◌, sym, ap, ◌∙◌}
use mathlib.Core.Bool.{Bool, cond}
use mathlib.Core.List.{List}
use Prim.Native.Nat.{ℕ}
use lib.ListN.{length}
use borrow.Author.Tests.{eq-eqb, ne_eqb}
use Rattle.std.specs.Prelude.{Result, Ok, Err}
use Rattle.netlist.specs.Refusals.{refused}
use Rattle.netlist.specs.declared.refusal.Refused.{Refused}
use Rattle.netlist.specs.declared.refusal.Refusal.TheVariants.{BadList}
use Rattle.rules.specs.Check.{check_of}
use Rattle.care.specs.Call.{MasksCall, refuse, call_after}

module _ (size : ℕ → ℕ) (file : List ℕ) (filled : MasksCall) (list : List ℕ) where
  after : Result ℕ Refused → MasksCall
  after c = call_after size c filled list

  pub call_refused : {r : Refused} → check_of file ≡ Err r → call_after size (check_of file) filled list ≡ refuse r list
  unfolding call_after after
  call_refused e = ap after e

  pub call_bad_list : {n : ℕ} → check_of file ≡ Ok n → (length list ≡ size n → ⊥) → call_after size (check_of file) filled list ≡ refuse (refused BadList 0) list
  unfolding call_after after
  call_bad_list {n} e g = ap after e ∙ ap (λ (t : Bool). cond t filled (refuse (refused BadList 0) list)) (ne_eqb (length list) (size n) g)

  pub call_filled : {n : ℕ} → check_of file ≡ Ok n → length list ≡ size n → call_after size (check_of file) filled list ≡ filled
  unfolding call_after after
  call_filled {n} e g = ap after e ∙ ap (λ (t : Bool). cond t filled (refuse (refused BadList 0) list)) (eq-eqb (length list) (size n) g)

-- the answer and the list of a call, from what the call is
pub both_of : (c e : MasksCall) → c ≡ e → (e.answer ≡ c.answer) × (e.list ≡ c.list)
both_of c e q = (ap (λ (m : MasksCall). m.answer) (sym q), ap (λ (m : MasksCall). m.list) (sym q))
