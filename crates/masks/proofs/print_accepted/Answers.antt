-- `masks::print_accepted` is safe: the front of a local list has a word for each record, before and after it is filled.
-- Assumes nothing.
use mathlib.Core.Path.{sym}
use lib.Seq.{length-take-le}
use Rattle.endian.proofs.ListLaws.{front_within, taken_length}
use Rattle.rules.proofs.Acceptance.{few, lent}
use Rattle.care.proofs.LeastMasks.{masks_length}
use Rattle.masks.proofs.print_accepted.Goals as goal

pub slice_bounds-words-end : goal.slice_bounds-words-end
slice_bounds-words-end g c = few c.args.file.now c.args.n c.requires

pub slice_bounds-fill-end : goal.slice_bounds-fill-end
slice_bounds-fill-end g c = sym (length-take-le c.args.n _ (few c.args.file.now c.args.n c.requires))

pub fill-tally-requires : goal.fill-tally-requires
fill-tally-requires g c = lent c.requires (length-take-le c.args.n _ (few c.args.file.now c.args.n c.requires))

pub slice_bounds-words-end-2 : goal.slice_bounds-words-end-2
slice_bounds-words-end-2 g c = front_within c.fill-tally.new.list _ (masks_length c.args.file.now c.args.n c.requires c.fill-tally.ensures.list)

pub slice_bounds-print_masks-end : goal.slice_bounds-print_masks-end
slice_bounds-print_masks-end g c =
    taken_length c.fill-tally.new.list _ (masks_length c.args.file.now c.args.n c.requires c.fill-tally.ensures.list)

pub print_masks-requires : goal.print_masks-requires
print_masks-requires g c =
    lent c.requires (sym (taken_length c.fill-tally.new.list _ (masks_length c.args.file.now c.args.n c.requires c.fill-tally.ensures.list)))
