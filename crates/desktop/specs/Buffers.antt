-- What a call of the desktop does with the byte buffers lent to it, refused calls included.
-- Assumes nothing.
use Rattle.std.specs.Prelude.{List, ℕ, ◌*◌, Ok}
use Rattle.endian.specs.Bytes.{word_bytes}
use Rattle.netlist.specs.Layout.{Design, design_of}
use Rattle.rules.specs.Check.{check_of}
use Rattle.care.specs.Call.{MasksCall, tally_of, call_after}
use Rattle.care.specs.Least.{masks_of}
use Rattle.trim.specs.Call.{TrimCall, trim_after}

-- An accepted call of masks: the tally, and the masks as bytes.
abbrev pub fill_buffer : Design → MasksCall
fill_buffer d = record { answer = Ok (tally_of d (masks_of d)); list = word_bytes (masks_of d) }

-- "there a mask list is 8 × n bytes, and another length is 11"
unfoldable pub masks_buffer : List ℕ → List ℕ → MasksCall
masks_buffer file buffer = call_after (λ n. 8 * n) (check_of file) (fill_buffer (design_of file)) buffer

-- The same for trim, whose destination is a list of bytes on the desktop as elsewhere.
abbrev pub trim_buffers : List ℕ → List ℕ → List ℕ → TrimCall
trim_buffers file masks destination = trim_after (masks_buffer file masks) file masks destination
