-- The claim about two whole runs: for any masks that are closed above the outputs, and so for the masks of the design and for a list that
-- trim_by accepts. Assumes nothing.
use mathlib.Core.Path.{◌≡◌, sym, subst, ◌∙◌}
use mathlib.Core.Bool.{cond}
use mathlib.Core.List.{List}
use Prim.Native.Nat.{ℕ, ◌<◌}
use lib.ListN.{length}
use Rattle.std.specs.Prelude.{Ok}
use Rattle.bits.specs.Masks.{Within}
use Rattle.bits.specs.Words.{low_mask}
use Rattle.bits.proofs.Agreement.{agree_within, agree_equal}
use Rattle.netlist.specs.Kinds.{is_output}
use Rattle.netlist.specs.Layout.{Design, design_of}
use Rattle.netlist.specs.declared.record.Role.{Role}
use Rattle.rules.specs.Check.{check_of}
use Rattle.rules.specs.Sound.{Sound}
use Rattle.rules.proofs.Acceptance.{accepted}
use Rattle.care.specs.Least.{Closed, output_seed, mask_at, masks_of}
use Rattle.care.proofs.LeastMasks.{masks_least}
use Rattle.clock.specs.Call.{start_call, cycle_with}
use Rattle.clock.specs.Values.{unchanged, with_inputs, values_of}
use Rattle.clock.proofs.InputLaws.{length_inputs}
use Rattle.clock.proofs.Promises.{start_left, values_left, next_left, cycle_sound, board_length}
use Rattle.trim.proofs.PromisesBy.{accepted_only_if}
use Rattle.agreement.specs.Claim.{file_of, AtInputs, AtOutputs, RunsAgree, TwoRuns, GivenListRuns}
use Rattle.agreement.specs.Runs.{of_file}
use Rattle.agreement.specs.Scrambled.{change_in}
use Rattle.agreement.proofs.Between.{Tied, tied_first, tied_start, tied_next, held_agree}
use Rattle.agreement.proofs.Follow.{Follows, follows}
use Rattle.agreement.proofs.InStep.{InStep, runs_close}
use Rattle.agreement.proofs.OneCycle.{AllClose, cycle_close}
use Rattle.agreement.proofs.ScrambleLaws.{Gentle, gentle}

module _ (file file' masks : List ℕ) (sound : Sound (design_of file)) (seed : ℕ → ℕ) (closed : Closed (design_of file) seed (mask_at masks))
    (f : Follows (design_of file) (design_of file') (mask_at masks)) (change : ℕ → ℕ → ℕ → ℕ) (g : (j : ℕ) → Gentle (design_of file) masks (change j)) where
  abbrev d : Design
  d = design_of file

  abbrev e : Design
  e = design_of file'

  -- two accepted starts
  starts_tied : (board board' : List ℕ) → (start_call file board).answer ≡ Ok tt → (start_call file' board').answer ≡ Ok tt
      → Tied d masks (start_call file board).board (start_call file' board').board
  starts_tied board board' s s' = rw (start_left file board s, start_left file' board' s') (tied_start d e masks f)

  -- two accepted cycles
  module _ (j : ℕ) (words words' : ℕ → ℕ) (board next board' next' : List ℕ)
      (s : (cycle_with unchanged file (with_inputs (design_of file) words board) next).answer ≡ Ok tt)
      (s' : (cycle_with (change j) file' (with_inputs (design_of file') words' board') next').answer ≡ Ok tt)
      (tied : Tied (design_of file) masks board board') (inputs : AtInputs (design_of file) masks words words') where
    abbrev put : List ℕ
    put = with_inputs d words board

    abbrev put' : List ℕ
    put' = with_inputs e words' board'

    close : AllClose d (mask_at masks) (values_of d unchanged put) (values_of e (change j) put')
    unfolding design_of
    close i h =
        let size = board_length unchanged file put next s in
        let size' = board_length (change j) file' put' next' s' in
        let inner = length_inputs d words board in
        let inner' = length_inputs e words' board' in
        cycle_close d e sound (cycle_sound (change j) file' put' next' s') masks seed closed f (change j) (g j) put put' size size'
        (held_agree d e masks f words words' board board' (sym inner ∙ size) (sym inner' ∙ size') tied inputs) i h

    close_and_tied : let call = cycle_with unchanged file put next in
        let call' = cycle_with (change j) file' put' next' in
        AllClose d (mask_at masks) call.board call'.board × Tied d masks call.next call'.next
    close_and_tied = (
      rw (values_left unchanged file put next s, values_left (change j) file' put' next' s') close,
      rw (next_left unchanged file put next s, next_left (change j) file' put' next' s') (tied_next d e masks f sound seed closed _ _ close),
    )

  pub files_in_step : InStep (of_file (λ j. unchanged) file) (of_file change file') (Tied d masks) (AtInputs d masks) (AllClose d (mask_at masks))
  files_in_step = record { starts = starts_tied; cycles = λ j. close_and_tied }

-- the values of an output are equal, since its mask has all its bits
pub outputs_equal : (d : Design) (masks values values' : List ℕ) → ((i : ℕ) → i < d.count → Within (output_seed d i) (mask_at masks i))
    → AllClose d (mask_at masks) values values' → AtOutputs d values values'
outputs_equal d masks values values' seeded close i h q =
    let c = close i h in
    let all = subst (λ (role : Role). Within (cond (is_output role) (low_mask (d.at i).width) 0) (mask_at masks i)) q (seeded i h) in
    agree_equal (d.at i).width c.first c.second (agree_within all c.agree)

-- the claim for any closed masks, smallest or not
pub closed_runs_agree : (file masks : List ℕ) (n : ℕ) → check_of file ≡ Ok n → Closed (design_of file) (output_seed (design_of file)) (mask_at masks)
    → RunsAgree file masks
unfolding change_in
closed_runs_agree file masks n e closed which manner board board' calls calls' supposed =
    let d = design_of file in
    let step = files_in_step file (file_of which file masks) masks (accepted file n e).sound (output_seed d) closed (follows which file masks n e)
    (change_in manner d masks) (gentle manner d masks) in
    let all = runs_close step board board' calls calls' (tied_first d masks board board' supposed.registers) supposed.kinds supposed.inputs in
    record {
      outputs = λ j c c' x x'. outputs_equal d masks c.values c'.values closed.seeded (all j c c' x x');
      signals = λ j c c' x x' i h. (all j c c' x x' i h).agree;
    }

-- demand 3: the masks of the design are closed
pub two_runs : TwoRuns
two_runs file n e = closed_runs_agree file (masks_of (design_of file)) n e (masks_least (design_of file) (accepted file n e).sound).closed

-- #105: so is a list that trim_by accepts
pub given_list_runs : GivenListRuns
given_list_runs file list destination tally e =
    let a = accepted_only_if file list destination tally e in
    closed_runs_agree file list (length list) a.records a.closed
