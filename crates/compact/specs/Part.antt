-- The part of a design that a test picks, and the compacted design and file. The sentences are those of #107.
-- Assumes nothing.
use Rattle.std.specs.Prelude.{Bool, List, ℕ}
use Rattle.netlist.specs.Kinds.{renumbered}
use Rattle.netlist.specs.Layout.{Design, design_of}
use Rattle.netlist.specs.Picked.{rank_of, place_of}
use Rattle.netlist.specs.declared.record.Record.{Record}
use Rattle.rules.specs.Encode.{encode}
use Rattle.care.specs.Least.{masks_of}
use Rattle.compact.specs.Survivors.{blanked, survives}

-- A record with new numbers for its operands.
abbrev pub renumbered_record : (ℕ → ℕ) → Record → Record
renumbered_record new r = record { kind = renumbered new r.kind; width = r.width; keep = r.keep }

-- "Order is kept and numbers are renewed": the new number of a record is its rank among those that the test picks.
unfoldable pub part : (ℕ → Bool) → Design → Design
part test d = record { count = rank_of test d.count; at = λ r. renumbered_record (rank_of test) (d.at (place_of test d.count r)) }

-- The compacted design, by a list of masks.
unfoldable pub compact : Design → List ℕ → Design
compact d masks = part (survives d masks) (blanked d masks)

-- The new number of a record that survives.
abbrev pub new_number : Design → List ℕ → ℕ → ℕ
new_number d masks = rank_of (survives d masks)

-- A file that is compacted by a list of masks, and "a compacted file": by the masks of its own design.
abbrev pub compacted_by : List ℕ → List ℕ → List ℕ
compacted_by file masks = encode (compact (design_of file) masks)

abbrev pub compacted : List ℕ → List ℕ
compacted file = compacted_by file (masks_of (design_of file))
