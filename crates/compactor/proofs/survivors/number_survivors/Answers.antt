-- `compactor::survivors::number_survivors` meets its contract: after i turns the first i words carry numbers, and the others are flags still.
-- Assumes nothing.
use native.Mathlib.Omega.{arith}
use Rattle.netlist.specs.Layout.{design_of, count_of}
use Rattle.rules.proofs.Acceptance.{few}
use Rattle.compact.specs.Survivors.{survives}
use Rattle.compactor.specs.Numbers.{flags_of, numbers_of}
use Rattle.compactor.proofs.NumberLaws.{numbering_none, numbering_next, numbering_all, count_low, word_low}
use Rattle.compactor.proofs.survivors.number_survivors.Goals as goal

pub loop-word-init : goal.loop-word-init
unfolding design_of flags_of
loop-word-init c = let args = c.args in
    numbering_none (survives (design_of args.file.now) args.list.now) (count_of args.file.now) _ c.mark_survivors.ensures

pub overflow_mul-word : goal.overflow_mul-word
overflow_mul-word c = let l = count_low c.loop-word.invariant in let f = few _ _ c.requires.accepted in omega arith

pub overflow_add-word : goal.overflow_add-word
overflow_add-word c = let l = count_low c.loop-word.invariant in
    let w = word_low c.loop-word.invariant (omega arith) in
    let f = few _ _ c.requires.accepted in
    omega arith

pub overflow_add-count : goal.overflow_add-count
overflow_add-count c = let l = count_low c.loop-word.invariant in
    let w = word_low c.loop-word.invariant (omega arith) in
    let f = few _ _ c.requires.accepted in
    omega arith

pub loop-word-preserved : goal.loop-word-preserved
loop-word-preserved c = numbering_next c.loop-word.invariant (omega arith)

pub returns-clause-numbers : goal.returns-clause-numbers
unfolding design_of numbers_of
returns-clause-numbers c = numbering_all c.loop-word.invariant (omega arith)
