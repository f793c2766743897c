-- The claim about two whole runs, as 01 states it under "Two runs", for the masks of a design and for a list that trim_by accepts.
-- Assumes nothing.
use Rattle.std.specs.Prelude.{◌≡◌, List, ℕ, ◌<◌, Ok}
use Rattle.endian.specs.Lists.{word_at}
use Rattle.bits.specs.Masks.{Agree}
use Rattle.netlist.specs.Layout.{Design, design_of, role_at}
use Rattle.netlist.specs.declared.record.Role.TheVariants.{Input, Register, Output}
use Rattle.rules.specs.Check.{check_of}
use Rattle.care.specs.Least.{mask_at, masks_of}
use Rattle.care.specs.declared.Tally.{Tally}
use Rattle.trim.specs.CallBy.{trim_by_call}
use Rattle.trim.specs.Trimmed.{trimmed_by}
use Rattle.agreement.specs.Runs.{Call, Step, run_of, of_file, kinds_of, EachCycle}
use Rattle.agreement.specs.Scrambled.{Manner, plain, change_in}

-- The second run "is of the same file or of the one that trim writes for it".
pub data SecondFile : Type 0 where
  same : SecondFile
  trimmed : SecondFile

abbrev pub file_of : SecondFile → List ℕ → List ℕ → List ℕ
file_of same file masks = file
file_of trimmed file masks = trimmed_by file masks

-- The sentences that the claim is made of. "A bit of signal x is cared for where M(x) of that design has it, also when the trimmed file runs."
module _ (d : Design) (masks : List ℕ) where
  -- two board lists "have equal cared bits at each register"
  abbrev pub AtRegisters : List ℕ → List ℕ → Type 0
  AtRegisters board board' = (i a k : ℕ) → i < d.count → role_at d i ≡ Register a k → Agree (mask_at masks i) (word_at board i) (word_at board' i)

  -- "the words put at each input .. have equal cared bits"
  abbrev pub AtInputs : (ℕ → ℕ) → (ℕ → ℕ) → Type 0
  AtInputs words words' = (i : ℕ) → i < d.count → role_at d i ≡ Input → Agree (mask_at masks i) (words i) (words' i)

  -- "the values .. are .. equal in the cared bits of each signal"
  abbrev pub AtSignals : List ℕ → List ℕ → Type 0
  AtSignals values values' = (i : ℕ) → i < d.count → Agree (mask_at masks i) (word_at values i) (word_at values' i)

-- "the values .. are equal at each output"
abbrev pub AtOutputs : Design → List ℕ → List ℕ → Type 0
AtOutputs d values values' = (i : ℕ) → i < d.count → role_at d i ≡ Output → word_at values i ≡ word_at values' i

-- What is supposed of two runs of a design.
pub record Supposed (d : Design) (masks board board' : List ℕ) (first second : List (Step (List ℕ))) : Type 0 where
  -- "the two first board lists have equal cared bits at each register"
  pub registers : AtRegisters d masks board board'
  -- "the accepted calls of both are of the same kinds in the same order"
  pub kinds : kinds_of first ≡ kinds_of second
  -- "for every j, the words put at each input in the j-th accepted cycles have equal cared bits"
  pub inputs : EachCycle (λ c c'. AtInputs d masks c.words c'.words) first second

-- What then follows.
pub record Agreeing (d : Design) (masks : List ℕ) (first second : List (Step (List ℕ))) : Type 0 where
  -- "for every j, the values of the j-th accepted cycles are equal at each output"
  pub outputs : EachCycle (λ c c'. AtOutputs d c.values c'.values) first second
  -- "and equal in the cared bits of each signal"
  pub signals : EachCycle (λ c c'. AtSignals d masks c.values c'.values) first second

-- The claim for a file and a list of masks. "The first run is of the design. The second has its own board list and calls", is of either file,
-- and "may also be scrambled".
abbrev pub RunsAgree : List ℕ → List ℕ → Type 0
RunsAgree file masks =
    let d = design_of file in
    (which : SecondFile) (manner : Manner) (board board' : List ℕ) (calls calls' : List (Call (List ℕ)))
    → let first = run_of (of_file (change_in plain d masks) file) board calls in
    let second = run_of (of_file (change_in manner d masks) (file_of which file masks)) board' calls' in
    Supposed d masks board board' first second → Agreeing d masks first second

-- Demand 3: "An accepted design is a file that check accepts", and the masks are its own.
abbrev pub TwoRuns : Type 0
TwoRuns = (file : List ℕ) (n : ℕ) → check_of file ≡ Ok n → RunsAgree file (masks_of (design_of file))

-- #105: "For two runs, the accepted list then plays the part of the masks, and this file that of the trimmed one": the call leaves
-- `trimmed_by file list` in its destination.
abbrev pub GivenListRuns : Type 0
GivenListRuns =
    (file list destination : List ℕ) (tally : Tally) → (trim_by_call file list destination).answer ≡ Ok tally → RunsAgree file list
