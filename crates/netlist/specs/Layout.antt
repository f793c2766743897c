-- Where the header and the records stand in a file, and the design that a file holds.
-- Assumes nothing.
use Rattle.std.specs.Prelude.{List, ℕ, ◌+◌, ◌*◌, get_or}
use Rattle.endian.specs.Bytes.{number_at}
use Rattle.netlist.specs.Kinds.{kind_of, uses_of}
use Rattle.netlist.specs.declared.record.Fields.{Fields}
use Rattle.netlist.specs.declared.record.Record.{Record}
use Rattle.netlist.specs.declared.record.Role.{Role}

-- A design: the count of its records and the record of each number. Record i defines signal i.
pub record Design : Type 0 where
  pub count : ℕ
  pub at : ℕ → Record

-- "Header, 8 bytes", then "records of 24 bytes".
abbrev pub header_size : ℕ
header_size = 8

abbrev pub record_size : ℕ
record_size = 24

-- The first byte of record i.
abbrev pub record_start : ℕ → ℕ
record_start i = header_size + record_size * i

abbrev pub byte_at : List ℕ → ℕ → ℕ
byte_at file at = get_or file at 0

-- "16-bit version 1 in bytes 3 and 4", "16-bit count n in bytes 6 and 7".
abbrev pub version_of : List ℕ → ℕ
version_of file = number_at file 3 2

abbrev pub count_of : List ℕ → ℕ
count_of file = number_at file 6 2

-- The table of fields: kind in byte 0 of a record, width in 1, operands in 2-3, 4-5, 6-7, k in 8-15, keep word in 16-23.
abbrev pub keep_start : ℕ → ℕ
keep_start i = record_start i + 16

unfoldable pub code_at : List ℕ → ℕ → ℕ
code_at file i = byte_at file (record_start i)

unfoldable pub width_at : List ℕ → ℕ → ℕ
width_at file i = byte_at file (record_start i + 1)

unfoldable pub fields_at : List ℕ → ℕ → Fields
fields_at file i =
    record {
      a = number_at file (record_start i + 2) 2;
      b = number_at file (record_start i + 4) 2;
      c = number_at file (record_start i + 6) 2;
      k = number_at file (record_start i + 8) 8;
    }

unfoldable pub keep_at : List ℕ → ℕ → ℕ
keep_at file i = number_at file (keep_start i) 8

-- "A record read from the file carries only the fields that its kind uses, with width and keep word beside them."
unfoldable pub record_at : List ℕ → ℕ → Record
record_at file i = record { kind = kind_of (code_at file i) (fields_at file i); width = width_at file i; keep = keep_at file i }

-- The design that a file holds.
unfoldable pub design_of : List ℕ → Design
design_of file = record { count = count_of file; at = record_at file }

-- The role of record i of a design.
abbrev pub role_at : Design → ℕ → Role
role_at d i = (uses_of (d.at i).kind).role
