-- The claim about runs of a file and of its compacted file: "From reset, equal pin words in record order give equal outputs in every cycle" (#107).
-- Assumes nothing.
use Rattle.std.specs.Prelude.{◌≡◌, Bool, false, List, ◌∷◌, ℕ, take, Ok}
use Rattle.endian.specs.Lists.{word_at}
use Rattle.netlist.specs.Kinds.{is_input, is_output}
use Rattle.netlist.specs.Layout.{Design, design_of, role_at}
use Rattle.netlist.specs.Picked.{picked}
use Rattle.clock.specs.Values.{unchanged}
use Rattle.compact.specs.Call.{compact_call}
use Rattle.agreement.specs.Runs.{Call, Step, run_of, of_file, kinds_of, EachCycle}

-- "pin words in record order": the words that a cycle puts at the inputs. And the values at the outputs, in the same order.
abbrev pub pin_words : Design → (ℕ → ℕ) → List ℕ
pin_words d words = picked (λ i. is_input (role_at d i)) words d.count

abbrev pub output_words : Design → List ℕ → List ℕ
output_words d values = picked (λ i. is_output (role_at d i)) (word_at values) d.count

-- "From reset": the accepted calls of both runs begin with a start, and are of the same kinds in the same order.
pub record FromReset (first second : List (Step (List ℕ))) : Type 0 where
  pub later : List Bool
  pub begins : kinds_of first ≡ false ∷ later
  pub kinds : kinds_of first ≡ kinds_of second

-- "equal pin words .. give equal outputs in every cycle": of runs of two designs.
abbrev pub EqualPins : Design → Design → List (Step (List ℕ)) → List (Step (List ℕ)) → Type 0
EqualPins d e first second = EachCycle (λ c c'. pin_words d c.words ≡ pin_words e c'.words) first second

abbrev pub EqualOutputs : Design → Design → List (Step (List ℕ)) → List (Step (List ℕ)) → Type 0
EqualOutputs d e first second = EachCycle (λ c c'. output_words d c.values ≡ output_words e c'.values) first second

-- The claim for any file and call that is accepted, any board lists to begin with and any two lists of calls. The compacted file is what the call
-- leaves in the front of its destination.
abbrev pub CompactedRuns : Type 0
CompactedRuns =
    (file list destination : List ℕ) (size : ℕ) → (compact_call file list destination).answer ≡ Ok size
    → let other = take size (compact_call file list destination).destination in
    (board board' : List ℕ) (calls calls' : List (Call (List ℕ)))
    → let first = run_of (of_file (λ j. unchanged) file) board calls in
    let second = run_of (of_file (λ j. unchanged) other) board' calls' in
    FromReset first second → EqualPins (design_of file) (design_of other) first second → EqualOutputs (design_of file) (design_of other) first second
