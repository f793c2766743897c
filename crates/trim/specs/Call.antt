-- The operation `trim`: its answer and each lent list afterwards, refused calls included.
-- Assumes nothing.
use Rattle.std.specs.Prelude.{Bool, cond, List, ℕ, eqb, length, Result, Ok, Err, is_ok}
use Rattle.netlist.specs.declared.refusal.Refused.{Refused}
use Rattle.netlist.specs.Refusals.{leaves, refused}
use Rattle.netlist.specs.declared.refusal.Refusal.TheVariants.{BadDestination}
use Rattle.care.specs.declared.Tally.{Tally}
use Rattle.care.specs.Call.{MasksCall, masks_call}
use Rattle.trim.specs.Trimmed.{trimmed}

-- What a call answers, and the mask list and destination that it leaves.
pub record TrimCall : Type 0 where
  pub answer : Result Tally Refused
  pub list : List ℕ
  pub destination : List ℕ

-- "Masks and trim answer with the tally": 1 to 11 and the tally are those of masks, and then 13, "The destination's length is not the file's."
unfoldable pub trim_answer : Result Tally Refused → Bool → Result Tally Refused
trim_answer (Ok tally) fits = cond fits (Ok tally) (Err (refused BadDestination 0))
trim_answer (Err r) fits = Err r

-- What a call of trim comes to, where `masking` is what a call of masks with the same list comes to.
unfoldable pub trim_after : MasksCall → List ℕ → List ℕ → List ℕ → TrimCall
trim_after masking file list destination =
    let answer = trim_answer masking.answer (eqb (length destination) (length file)) in
    record { answer = answer; list = leaves (is_ok answer) masking.list list; destination = leaves (is_ok answer) (trimmed file) destination }

-- "Trim works out the masks, fills a lent mask list with them and writes a file of equal length to a destination."
abbrev pub trim_call : List ℕ → List ℕ → List ℕ → TrimCall
trim_call file list destination = trim_after (masks_call file list) file list destination
