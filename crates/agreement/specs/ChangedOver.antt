-- The claim about a run that changes over to the compacted file: "From that moment equal pins give the outputs the old file would have given, in every
-- later cycle" (#108). Assumes nothing.
use Rattle.std.specs.Prelude.{◌≡◌, List, ℕ, take, Ok}
use Rattle.netlist.specs.Layout.{design_of}
use Rattle.clock.specs.Values.{unchanged}
use Rattle.compact.specs.Part.{compacted}
use Rattle.changeover.specs.Call.{change_over_call}
use Rattle.agreement.specs.Compacted.{EqualPins, EqualOutputs}
use Rattle.agreement.specs.Runs.{Call, run_of, of_file, kinds_of}

-- The claim for any file, any call that is accepted, and any two lists of calls from then on. "the outputs the old file would have given": the first
-- run goes on with the old file from the board list of the call. The second is of the compacted file, and begins with the first words of the new list,
-- "one for each record of the compacted file".
abbrev pub ChangedOverRuns : Type 0
ChangedOverRuns =
    (file list board new : List ℕ) → (change_over_call file list board new).answer ≡ Ok tt
    → let other = compacted file in
    let board' = take (design_of other).count (change_over_call file list board new).new in
    (calls calls' : List (Call (List ℕ)))
    → let first = run_of (of_file (λ j. unchanged) file) board calls in
    let second = run_of (of_file (λ j. unchanged) other) board' calls' in
    kinds_of first ≡ kinds_of second → EqualPins (design_of file) (design_of other) first second
    → EqualOutputs (design_of file) (design_of other) first second
