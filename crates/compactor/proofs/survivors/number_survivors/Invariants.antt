-- `compactor::survivors::number_survivors` meets its contract: after i turns the first i words carry numbers, and the others are flags still.
-- Assumes nothing.
use Rattle.netlist.specs.Layout.{design_of, count_of}
use Rattle.compact.specs.Survivors.{survives}
use Rattle.compactor.proofs.NumberLaws.{Numbering}
use Rattle.compactor.proofs.survivors.number_survivors.Given as goal

abbrev pub invariant-loop-word : goal.invariant-loop-word
invariant-loop-word l = Numbering (survives (design_of l.file) l.list) (count_of l.file) l.numbers l.count l.word-index
