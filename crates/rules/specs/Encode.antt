-- The file that a design makes.
-- Assumes nothing.
use Rattle.std.specs.Prelude.{◌≡◌, List, [], ◌∷◌, ◌++◌, ℕ, zero, suc, ◌<◌, Ok}
use Rattle.endian.specs.Bytes.{bytes}
use Rattle.netlist.specs.Kinds.{code_of, uses_of}
use Rattle.netlist.specs.Layout.{Design, design_of, byte_at}
use Rattle.netlist.specs.declared.record.Record.{Record}
use Rattle.rules.specs.Check.{check_of}
use Rattle.rules.specs.Sound.{SameDesign}

-- The 24 bytes of a record, with 0 in the fields that its kind does not use.
unfoldable pub encode_record : Record → List ℕ
encode_record r =
    let u = uses_of r.kind in
    code_of r.kind ∷ r.width ∷ bytes 2 u.a ++ bytes 2 u.b ++ bytes 2 u.c ++ bytes 8 u.k ++ bytes 8 r.keep

-- The records from i on, `left` of them.
unfoldable pub encode_from : Design → ℕ → ℕ → List ℕ
encode_from d zero i = []
encode_from d (suc left) i = encode_record (d.at i) ++ encode_from d left (suc i)

-- The header of a file with so many records: mark, version 1, a zero byte, the count.
abbrev pub header_bytes : ℕ → List ℕ
header_bytes count = (0x50 ∷ 0x43 ∷ 0x4e ∷ bytes 2 1) ++ (0 ∷ bytes 2 count)

-- The file that a design makes: the header and the records.
unfoldable pub encode : Design → List ℕ
encode d = header_bytes d.count ++ encode_from d d.count 0

-- Every element of a list is a byte.
pub record AreBytes (l : List ℕ) : Type 0 where
  pub low : (i : ℕ) → byte_at l i < 256

-- A file stands for a design: it is made of bytes, check accepts it, and it holds that design.
pub record StandsFor (file : List ℕ) (d : Design) : Type 0 where
  pub bytes : AreBytes file
  pub accepted : check_of file ≡ Ok d.count
  pub same : SameDesign d (design_of file)
