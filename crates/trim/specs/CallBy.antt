-- The operation `trim_by`, the second step of trimming in two: its answer and the destination afterwards, refused calls included.
-- Assumes nothing.
use Rattle.std.specs.Prelude.{List, ℕ, Result, Ok, Err, is_ok}
use Rattle.netlist.specs.declared.refusal.Refused.{Refused}
use Rattle.netlist.specs.Layout.{Design, design_of}
use Rattle.netlist.specs.Lowest.{lowest}
use Rattle.netlist.specs.Refusals.{leaves, refused}
use Rattle.netlist.specs.declared.refusal.Refusal.TheVariants.{BadMask}
use Rattle.care.specs.declared.Tally.{Tally}
use Rattle.care.specs.Call.{tally_of}
use Rattle.care.specs.Called.{is_faulty}
use Rattle.care.specs.Least.{output_seed}
use Rattle.trim.specs.Call.{trim_call}
use Rattle.trim.specs.Trimmed.{trimmed_by}

-- What a call answers, and the destination that it leaves. The list is only read.
pub record TrimByCall : Type 0 where
  pub answer : Result Tally Refused
  pub destination : List ℕ

-- #105: "14 when a list breaks a width or rule, .. with the lowest record whose mask lacks a called-for bit or has one outside its width". An
-- output calls for all its bits at itself. "Both steps answer with the list's tally".
unfoldable pub list_answer : Design → List ℕ → Result Tally Refused
list_answer d list = lowest (is_faulty d (output_seed d) list) (λ i. Err (refused BadMask i)) (Ok (tally_of d list)) d.count

-- 14 comes "after 13": what trim refuses, 1 to 11 and 13, is refused first.
unfoldable pub after_trim : Result Tally Refused → Result Tally Refused → Result Tally Refused
after_trim (Ok tally) answer = answer
after_trim (Err r) answer = Err r

-- The answer of the second step.
abbrev pub trim_by_answer : List ℕ → List ℕ → List ℕ → Result Tally Refused
trim_by_answer file list destination = after_trim (trim_call file list destination).answer (list_answer (design_of file) list)

-- "the second takes file and list and writes. .. Its file differs in keep words only, each being the old one and the list's mask."
unfoldable pub trim_by_call : List ℕ → List ℕ → List ℕ → TrimByCall
trim_by_call file list destination =
    let answer = trim_by_answer file list destination in
    record { answer = answer; destination = leaves (is_ok answer) (trimmed_by file list) destination }
