-- The words and bytes that are written: a record, and all survivors. No public promise mentions it.
-- Assumes nothing.
use Rattle.std.specs.Prelude.{List, ◌++◌, ℕ, ◌+◌, ◌*◌}
use Rattle.std.proofs.lemmas.List.Edits.{sets}
use Rattle.endian.specs.Bytes.{bytes}
use Rattle.netlist.specs.Layout.{Design, record_start}
use Rattle.netlist.specs.Refusals.{leaves}
use Rattle.rules.specs.Encode.{encode_from, encode_record}
use Rattle.compact.specs.Part.{renumbered_record, compact, new_number}
use Rattle.compact.specs.Survivors.{blanked, survives}

-- The first word of a record: kind in byte 0, width in 1, operands in 2-3, 4-5, 6-7.
abbrev pub front_of : ℕ → ℕ → ℕ → ℕ → ℕ → ℕ
front_of code width a b c = code + 256 * (width + 256 * (a + 65536 * (b + 65536 * c)))

-- The bytes of a record from its three words.
unfoldable pub three_words : ℕ → ℕ → ℕ → List ℕ
three_words front k keep = bytes 8 front ++ bytes 8 k ++ bytes 8 keep

-- The bytes of record i where it survives.
unfoldable pub survivor_bytes : Design → List ℕ → ℕ → List ℕ
survivor_bytes d masks i = encode_record (renumbered_record (new_number d masks) ((blanked d masks).at i))

-- A buffer with these bytes at the place of the record's new number, if it survives.
abbrev pub with_survivor : Design → List ℕ → ℕ → List ℕ → List ℕ
with_survivor d masks i old = leaves (survives d masks i) (sets old (record_start (new_number d masks i)) (survivor_bytes d masks i)) old

-- The bytes of all survivors.
abbrev pub survivors_bytes : Design → List ℕ → List ℕ
survivors_bytes d masks = encode_from (compact d masks) (compact d masks).count 0
