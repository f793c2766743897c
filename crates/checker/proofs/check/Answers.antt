-- `checker::check` meets its contract: a header that passed leaves a file as long as its count asks for, and then the records decide.
-- Assumes nothing.
use Rattle.std.proofs.Common.{◌≡◌, ℕ, List, Result, Err, sym, ap, ◌∙◌, le_of_eq}
use Rattle.std.proofs.lemmas.Result.{err_from_is_err_and}
use Rattle.netlist.specs.Layout.{count_of, record_start}
use Rattle.netlist.specs.declared.refusal.Refusal.{Refusal}
use Rattle.rules.specs.Check.{first_broken, check_of, check_from, refuse_at, header_rules}
use Rattle.rules.proofs.CheckLaws.{pass_kept}
use Rattle.checker.proofs.check.Goals as goal

-- the answer of a file, by what its header comes to
by_header : (file : List ℕ) {v : Result (Unit {0}) Refusal} → v ≡ first_broken (header_rules file)
    → refuse_at 0 v (check_from file (count_of file) 0) ≡ check_of file
unfolding check_of
by_header file p = ap (λ (v : Result (Unit {0}) Refusal). refuse_at 0 v (check_from file (count_of file) 0)) p

pub returns-in_err-check_header : goal.returns-in_err-check_header
unfolding refuse_at
returns-in_err-check_header c =
    let p = err_from_is_err_and c.from_residual.result c.from_residual.ensures.1 in
    p.1 ∙ ap Err p.2 ∙ by_header c.args.file.now c.in_err-check_header.ensures

pub record_count-requires : goal.record_count-requires
unfolding header_rules
record_count-requires c = (pass_kept (header_rules c.args.file.now) (sym c.in_ok-check_header.ensures)).0.0

pub check_records-requires : goal.check_records-requires
unfolding header_rules
check_records-requires c =
    let kept = pass_kept (header_rules c.args.file.now) (sym c.in_ok-check_header.ensures) in
    (c.record_count.ensures.count, le_of_eq (ap record_start c.record_count.ensures.count ∙ sym kept.1.1.1.1.0.0))

pub returns : goal.returns
unfolding refuse_at
returns c =
    let file = c.args.file.now in
    c.check_records.ensures ∙ ap (λ (n : ℕ). check_from file n 0) c.record_count.ensures.count
    ∙ by_header file c.in_ok-check_header.ensures
