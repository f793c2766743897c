-- `compactor::write::words_at` meets its contract: a blank is a constant, and any other record has new numbers for its operands.
-- Assumes nothing.
use mathlib.Core.Path.{sym, ap, ◌∙◌}
use Prim.Native.Nat.{ℕ, ◌+◌, ◌*◌}
use native.Mathlib.Omega.{arith}
use lib.Bits.{bit_and}
use Rattle.netlist.specs.Layout.{record_at}
use Rattle.care.specs.Least.{mask_at}
use Rattle.compactor.specs.Bytes.{three_words}
use Rattle.compactor.proofs.RecordBytes.{blank_bytes, width_low, a_within, b_within, c_within, front_asked, words_bytes}
use Rattle.compactor.proofs.write.words_at.Goals as goal

pub overflow_mul-result : goal.overflow_mul-result
unfolding record_at
overflow_mul-result c =
    let w = width_low _ c.args.list.now _ c.requires.accepted c.requires.below in let e = c.width_at-width.ensures in omega arith

pub overflow_add-result : goal.overflow_add-result
unfolding record_at
overflow_add-result c =
    let w = width_low _ c.args.list.now _ c.requires.accepted c.requires.below in let e = c.width_at-width.ensures in omega arith

pub returns-then-is_blank : goal.returns-then-is_blank
unfolding record_at
returns-then-is_blank c =
    let pre = c.requires in
    let mask = mask_at c.args.list.now c.args.i in
    ap (λ (x : ℕ). three_words (1 + 256 * x) 0 (bit_and mask c.keep_at.result)) c.width_at-width.ensures
    ∙ blank_bytes _ _ _ _ (sym c.is_blank.ensures ∙ c.if-is_blank.true) (width_low _ c.args.list.now _ pre.accepted pre.below)
    (ap (bit_and mask) c.keep_at.ensures)

pub new_number-a-requires : goal.new_number-a-requires
unfolding record_at
new_number-a-requires c =
    let pre = c.requires in a_within _ _ _ pre.accepted pre.below _ pre.numbered c.fields_at-fields.ensures

pub new_number-b-requires : goal.new_number-b-requires
unfolding record_at
new_number-b-requires c =
    let pre = c.requires in b_within _ _ _ pre.accepted pre.below _ pre.numbered c.fields_at-fields.ensures

pub new_number-c-requires : goal.new_number-c-requires
unfolding record_at
new_number-c-requires c =
    let pre = c.requires in c_within _ _ _ pre.accepted pre.below _ pre.numbered c.fields_at-fields.ensures

pub front_word-front-requires : goal.front_word-front-requires
unfolding record_at
front_word-front-requires c =
    let pre = c.requires in
    front_asked _ _ _ pre.accepted pre.below _ pre.numbered c.fields_at-fields.ensures c.code_at.ensures c.width_at-width.ensures
    c.new_number-a.ensures c.new_number-b.ensures c.new_number-c.ensures

pub returns : goal.returns
unfolding record_at
returns c =
    let pre = c.requires in
    words_bytes _ _ _ pre.accepted pre.below _ pre.numbered c.fields_at-fields.ensures c.code_at.ensures c.width_at-width.ensures
    c.new_number-a.ensures c.new_number-b.ensures c.new_number-c.ensures (sym c.is_blank.ensures ∙ c.if-is_blank.false)
    c.front_word-front.ensures (ap (bit_and (mask_at c.args.list.now c.args.i)) c.keep_at.ensures)
