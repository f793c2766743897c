-- The file that trim writes, and the design that it holds.
-- Assumes nothing.
use Rattle.std.specs.Prelude.{List, ◌⊎◌, ℕ, zero, suc, ◌+◌, ◌≤◌, ◌<◌}
use Rattle.std.proofs.lemmas.List.Edits.{sets}
use Rattle.endian.specs.Bytes.{bytes}
use Rattle.netlist.specs.Layout.{Design, design_of, count_of, record_at, keep_start}
use Rattle.netlist.specs.declared.record.Record.{Record}
use Rattle.signal.specs.Asks.{demand_of}
use Rattle.care.specs.Least.{mask_at, masks_of}

-- "the new keep word is D"
abbrev pub new_keep : List ℕ → List ℕ → ℕ → ℕ
new_keep file masks i = demand_of (record_at file i) (mask_at masks i)

-- "It changes only bytes 16 to 23 of each record": a file once this is done to the records below i. The bytes of the new keep word stand
-- where the old one stood.
unfoldable pub trim_to : List ℕ → List ℕ → ℕ → List ℕ
trim_to file masks zero = file
trim_to file masks (suc i) = sets (trim_to file masks i) (keep_start i) (bytes 8 (new_keep file masks i))

-- A file that is trimmed by a list of masks, and by the masks of its own design: "Trim works out the masks, .. and writes a file of equal length".
unfoldable pub trimmed_by : List ℕ → List ℕ → List ℕ
trimmed_by file masks = trim_to file masks (count_of file)

abbrev pub trimmed : List ℕ → List ℕ
trimmed file = trimmed_by file (masks_of (design_of file))

-- A place outside "bytes 16 to 23 of each record", where there are n records.
abbrev pub Outside : ℕ → ℕ → Type 0
Outside n p = (i : ℕ) → i < n → (p < keep_start i) ⊎ (keep_start i + 8 ≤ p)

-- The same for designs: the keep word of each record is D, and all else is as it was.
abbrev pub trim_record : Record → ℕ → Record
trim_record r mask = record { kind = r.kind; width = r.width; keep = demand_of r mask }

unfoldable pub trim_design : Design → List ℕ → Design
trim_design d masks = record { count = d.count; at = λ i. trim_record (d.at i) (mask_at masks i) }
