-- `compactor::write::write_survivor` meets its contract: an even word says that the record does not survive, and half of an odd one is its new number.
-- Assumes nothing.
use mathlib.Core.Path.{sym, ap, ap₂, ◌∙◌}
use mathlib.Core.Bool.{Bool}
use native.Mathlib.Omega.{arith}
use lib.Seq.{sets}
use Rattle.netlist.specs.Layout.{design_of, record_start}
use Rattle.netlist.specs.Refusals.{leaves}
use Rattle.rules.proofs.Acceptance.{few}
use Rattle.compact.specs.Part.{new_number}
use Rattle.compactor.specs.Bytes.{survivor_bytes}
use Rattle.compactor.proofs.NumberLaws.{numbers_length, half_is, half_below, even_none, odd_survives}
use Rattle.compactor.proofs.write.write_survivor.Goals as goal

pub bounds-numbers-i : goal.bounds-numbers-i
unfolding design_of
bounds-numbers-i c =
    let l = numbers_length _ _ _ c.requires.0.numbered in let b = c.requires.0.below in omega arith

pub returns-then-number-eq0 : goal.returns-then-number-eq0
unfolding design_of
returns-then-number-eq0 c =
    let pre = c.requires.0 in
    let d = design_of c.args.file.now in
    let list = c.args.list.now in
    let i = c.args.i in
    let old = c.args.destination.now in
    sym (ap (λ (b : Bool). leaves b (sets old (record_start (new_number d list i)) (survivor_bytes d list i)) old)
    (even_none _ _ _ pre.numbered _ pre.below c.if-number-eq0.true))

pub record_start-at-requires : goal.record_start-at-requires
unfolding design_of
record_start-at-requires c =
    let pre = c.requires.0 in
    let h = half_below _ _ _ pre.numbered _ pre.below in let f = few _ _ pre.accepted in omega arith

pub write_words-requires : goal.write_words-requires
unfolding design_of
write_words-requires c =
    let pre = c.requires.0 in
    let h = half_below _ _ _ pre.numbered _ pre.below in
    let at = c.record_start-at.ensures in
    let size = pre.accepted.size in
    let room = c.requires.1 in
    omega arith

pub returns : goal.returns
unfolding design_of
returns c =
    let pre = c.requires.0 in
    let d = design_of c.args.file.now in
    let list = c.args.list.now in
    let i = c.args.i in
    let old = c.args.destination.now in
    c.write_words.ensures
    ∙ ap₂ (sets old) (c.record_start-at.ensures ∙ ap record_start (half_is _ _ _ pre.numbered _ pre.below)) c.words_at.ensures
    ∙ sym (ap (λ (b : Bool). leaves b (sets old (record_start (new_number d list i)) (survivor_bytes d list i)) old)
    (odd_survives _ _ _ pre.numbered _ pre.below (λ z. let t = c.if-number-eq0.false in omega arith)))
