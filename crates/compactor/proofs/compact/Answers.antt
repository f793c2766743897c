-- `compactor::compact` meets its contract: the file, the mask list or the destination is refused, or both lists are written.
-- Assumes nothing.
use mathlib.Core.Path.{sym, ap, ◌∙◌}
use mathlib.Core.List.{List}
use Prim.Native.Nat.{ℕ}
use native.Mathlib.Omega.{arith}
use lib.ListN.{length}
use lib.Seq.{sets}
use Rattle.std.specs.Prelude.{Ok, Err}
use Rattle.netlist.proofs.RefusalLaws.{handed_on}
use Rattle.rules.proofs.Acceptance.{accepted, lent, with_count}
use Rattle.care.proofs.LeastMasks.{masks_length}
use Rattle.compact.proofs.CallLaws.{file_refused, list_refused, destination_refused, compact_done, all_of}
use Rattle.compact.specs.Part.{compacted_by}
use Rattle.compactor.proofs.compact.Goals as goal

pub returns-then-list-n : goal.returns-then-list-n
returns-then-list-n c =
    let args = c.args in
    let b = all_of _ _ (list_refused args.file.now args.list.now args.destination.now (sym c.in_ok-n.ensures)
    (λ q. let t = c.if-list-n.true in omega arith)) in record { answer = ap Err c.into.ensures ∙ b.0; list = b.1.0; destination = b.1.1 }

pub returns-then-destination-file : goal.returns-then-destination-file
returns-then-destination-file c =
    let args = c.args in
    let b = all_of _ _ (destination_refused args.file.now args.list.now args.destination.now (sym c.in_ok-n.ensures)
    (let t = c.if-list-n.false in omega arith) (λ q. let t = c.if-destination-file.true in omega arith)) in record { answer = ap Err c.into-then-destination-file.ensures ∙ b.0; list = b.1.0; destination = b.1.1 }

pub fill-requires : goal.fill-requires
fill-requires c =
    let args = c.args in
    lent (accepted args.file.now _ (sym c.in_ok-n.ensures)) (let t = c.if-list-n.false in omega arith)

pub write_front-requires : goal.write_front-requires
write_front-requires c =
    let fill = c.fill in
    let args = c.args in
    let file = args.file.now in
    let checked = sym c.in_ok-n.ensures in
    let a = accepted file _ checked in
    record {
      accepted = with_count a;
      size = masks_length file _ a fill.ensures.list ∙ a.count;
      room = let t = c.if-destination-file.false in omega arith;
    }

pub returns : goal.returns
returns c = let fill = c.fill in
    let args = c.args in
    let file = args.file.now in
    let destination = args.destination.now in
    let fill = fill.ensures.list in let front = c.write_front.ensures in
    let b = all_of _ _ (compact_done file args.list.now destination _ (sym c.in_ok-n.ensures)
    (let t = c.if-list-n.false in omega arith) (let t = c.if-destination-file.false in omega arith)) in record {
      answer = ap Ok (front.length ∙ ap (λ (l : List ℕ). length (compacted_by file l)) fill) ∙ b.0;
      list = fill ∙ b.1.0;
      destination = front.destination ∙ ap (λ (l : List ℕ). sets destination 0 (compacted_by file l)) fill ∙ b.1.1;
    }

pub returns-in_err-n : goal.returns-in_err-n
returns-in_err-n c = let args = c.args in
    let b = all_of _ _ (file_refused args.file.now args.list.now args.destination.now (sym c.in_err-n.ensures)) in record { answer = handed_on _ c.from_residual.ensures.1 ∙ b.0; list = b.1.0; destination = b.1.1 }
