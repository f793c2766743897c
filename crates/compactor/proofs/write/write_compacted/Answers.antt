-- `compactor::write::write_compacted` meets its contract: the header, and behind it the records of all survivors.
-- Assumes nothing.
use mathlib.Core.Path.{sym, ap, ◌∙◌}
use mathlib.Core.List.{List}
use Prim.Native.Nat.{ℕ}
use native.Mathlib.Omega.{arith}
use lib.Seq.{sets}
use Rattle.netlist.specs.Layout.{design_of, count_of, header_size, record_start}
use Rattle.netlist.proofs.PickedLaws.{rank_le}
use Rattle.rules.proofs.Acceptance.{few}
use Rattle.rules.proofs.EncodedBytes.{length_encode}
use Rattle.compact.specs.Part.{compact}
use Rattle.compact.specs.Survivors.{survives}
use Rattle.compact.proofs.Compacted.{compact_count}
use Rattle.compactor.specs.Bytes.{survivors_bytes}
use Rattle.compactor.proofs.WriteLaws.{file_stored}
use Rattle.compactor.proofs.write.write_compacted.Goals as goal

pub write_header-requires : goal.write_header-requires
write_header-requires c = let args = c.args in
    let pre = c.requires in
    let file = args.file.now in
    let e = c.number_survivors-count.ensures.count in
    let r = rank_le (survives (design_of file) args.list.now) (count_of file) in
    let f = few _ _ pre.0.accepted in let s = pre.0.accepted.size in let q = pre.0.room in
    (omega arith, omega arith)

pub record_start-requires : goal.record_start-requires
record_start-requires c = let args = c.args in
    let pre = c.requires in
    let file = args.file.now in
    let e = c.number_survivors-count.ensures.count in
    let r = rank_le (survives (design_of file) args.list.now) (count_of file) in
    let f = few _ _ pre.0.accepted in omega arith

pub returns : goal.returns
unfolding design_of
returns c = let numbered = c.number_survivors-count in
    let pre = c.requires in
    let args = c.args in
    let d = design_of args.file.now in
    let list = args.list.now in
    let old = args.destination.now in
    let count = numbered.ensures.count ∙ sym (compact_count d pre.0.accepted.sound list) in record {
      length = c.record_start.ensures ∙ ap record_start count ∙ sym (length_encode (compact d list));
      destination = c.write_survivors.ensures ∙ ap (λ (l : List ℕ). sets l header_size (survivors_bytes d list)) c.write_header.ensures
          ∙ file_stored (compact d list) old _ count;
    }
