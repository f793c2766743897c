-- A call is not both refused and accepted, and is refused in one way; what `?` passes on.
-- Assumes nothing.
use Rattle.std.proofs.Common.{◌≡◌, false, Result, Ok, Err, IsErrAnd, is_ok, refl, ap, ◌∙◌}
use Rattle.std.proofs.lemmas.Result.{err_from_is_err_and}
use Rattle.netlist.specs.declared.refusal.Refused.{Refused}
use Rattle.netlist.proofs.LowestLaws.{not_both}

-- what a call is refused with, and r where it is accepted
abbrev refused_or : {A : Type 0} → Result A Refused → Refused → Refused
refused_or (Ok a) r = r
refused_or (Err s) r = s

pub err_not_ok : {A P : Type 0} {a : A} {r : Refused} → ◌≡◌ {A = Result A Refused} (Err r) (Ok a) → P
err_not_ok {A} e = not_both {b = false} (ap (λ (answer : Result A Refused). is_ok answer) e) refl

pub err_same : {A : Type 0} {r s : Refused} → ◌≡◌ {A = Result A Refused} (Err r) (Err s) → r ≡ s
err_same {A} {r} e = ap (λ (answer : Result A Refused). refused_or answer r) e

-- `?` hands a refusal on as it is
pub handed_on : {A : Type 0} {r : Refused} (answer : Result A Refused) → IsErrAnd answer (λ s. s ≡ r) → answer ≡ Err r
handed_on answer h = let p = err_from_is_err_and answer h in p.1 ∙ ap Err p.2
