-- `checker::check_records` meets its contract: the records before i passed, so the answer is that of the records from i on.
-- Assumes nothing.
use Rattle.std.proofs.Common.{◌≡◌, ℕ, ◌+◌, ◌-◌, ◌<◌, List, Result, Ok, Err, sym, ap, ◌∙◌, arith}
use Rattle.netlist.specs.declared.refusal.Refusal.{Refusal}
use Rattle.rules.specs.Check.{first_broken, record_rules, refuse_at, check_from}
use Rattle.rules.proofs.CheckLaws.{check_step}
use Rattle.checker.proofs.check_records.Goals as goal

-- the answer of the records from i on, by what record i comes to
next : (file : List ℕ) (n i : ℕ) {v : Result (Unit {0}) Refusal} → i < n → check_from file n 0 ≡ check_from file (n - i) i
    → v ≡ first_broken (record_rules file i) → refuse_at i v (check_from file (n - (i + 1)) (i + 1)) ≡ check_from file n 0
next file n i h e p =
    sym (e ∙ check_step file n i h ∙ ap (λ (v : Result (Unit {0}) Refusal). refuse_at i v (check_from file (n - (i + 1)) (i + 1))) (sym p))

pub returns-in-Err : goal.returns-in-Err
unfolding refuse_at
returns-in-Err c =
    ap Err c.at.ensures ∙ next c.args.file.now c.args.n c.loop-i.i c.loop-i-test.true c.loop-i.invariant c.in-Err.ensures

pub loop-i-preserved : goal.loop-i-preserved
unfolding refuse_at
loop-i-preserved c = sym (next c.args.file.now c.args.n c.loop-i.i c.loop-i-test.true c.loop-i.invariant c.in_default.ensures)

pub returns : goal.returns
unfolding check_from
returns c = let a = c.args in
    let i = c.loop-i.i in
    let e : a.n - i ≡ 0 = omega arith in
    sym (c.loop-i.invariant ∙ ap (λ (m : ℕ). check_from a.file.now m i) e ∙ ap Ok (sym c.requires.0))
