-- The operation `compact`: its answer and each lent list afterwards, refused calls included. The sentences are those of #107.
-- Assumes nothing.
use Rattle.std.specs.Prelude.{List, ℕ, length, Result, Ok, Err, is_ok}
use Rattle.std.proofs.lemmas.List.Edits.{sets}
use Rattle.netlist.specs.declared.refusal.Refused.{Refused}
use Rattle.netlist.specs.Refusals.{leaves}
use Rattle.care.specs.declared.Tally.{Tally}
use Rattle.trim.specs.Call.{TrimCall, trim_call}
use Rattle.compact.specs.Part.{compacted}

-- What a call answers, and the mask list and destination that it leaves.
pub record CompactCall : Type 0 where
  pub answer : Result ℕ Refused
  pub list : List ℕ
  pub destination : List ℕ

-- "the answer is the new length"; it refuses as trim does, "The destination has the old length (13)".
unfoldable pub compact_answer : Result Tally Refused → ℕ → Result ℕ Refused
compact_answer (Ok tally) size = Ok size
compact_answer (Err r) size = Err r

-- What a call of compact comes to, where `trimming` is what a call of trim with the same lists comes to. It "fills a lent mask list as trim does and
-- writes a compacted file", "and bytes beyond it are untouched".
unfoldable pub compact_after : TrimCall → List ℕ → List ℕ → CompactCall
compact_after trimming file destination =
    let answer = compact_answer trimming.answer (length (compacted file)) in
    record { answer = answer; list = trimming.list; destination = leaves (is_ok answer) (sets destination 0 (compacted file)) destination }

abbrev pub compact_call : List ℕ → List ℕ → List ℕ → CompactCall
compact_call file list destination = compact_after (trim_call file list destination) file destination
