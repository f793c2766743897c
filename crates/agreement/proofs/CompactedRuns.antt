-- The claim about runs of a file and of its compacted file, and that the compacted one accepts what the old one accepts.
-- Assumes nothing.
use mathlib.Core.Path.{◌≡◌, sym, subst, ◌∙◌}
use mathlib.Core.List.{List}
use Prim.Native.Nat.{ℕ}
use lib.ListN.{length}
use Rattle.std.specs.Prelude.{Ok}
use Rattle.netlist.specs.Layout.{Design, design_of}
use Rattle.rules.specs.Check.{check_of}
use Rattle.rules.specs.Sound.{Sound}
use Rattle.rules.proofs.Acceptance.{accepted}
use Rattle.care.specs.Least.{masks_of}
use Rattle.care.proofs.LeastMasks.{masks_least}
use Rattle.clock.specs.Call.{start_call, cycle_call}
use Rattle.clock.specs.Values.{unchanged, with_inputs}
use Rattle.clock.proofs.InputLaws.{length_inputs}
use Rattle.clock.proofs.Promises.{start_left, values_left, next_left, board_length}
use Rattle.compact.specs.Part.{compacted}
use Rattle.compact.proofs.Compacted.{blanked_sound, stands, holds_part}
use Rattle.compact.proofs.Promises.{accepts, front_compacted}
use Rattle.agreement.specs.Compacted.{pin_words, output_words, FromReset, EqualPins, EqualOutputs, CompactedRuns}
use Rattle.agreement.specs.Runs.{of_file, run_of}
use Rattle.agreement.proofs.CompactedCycle.{TiedAtNew, starts_at_new, outputs_same, next_at_new}
use Rattle.agreement.proofs.InStep.{InStep, runs_from_start}

module _ (file : List ℕ) (n : ℕ) (a : check_of file ≡ Ok n) where
  abbrev d : Design
  d = design_of file

  abbrev e : Design
  e = design_of (compacted file)

  abbrev masks : List ℕ
  masks = masks_of d

  sound : Sound d
  sound = (accepted file n a).sound

  sound' : Sound e
  sound' = (accepted (compacted file) _ (stands file n a).accepted).sound

  -- two accepted starts
  starts : (board board' : List ℕ) → (start_call file board).answer ≡ Ok tt → (start_call (compacted file) board').answer ≡ Ok tt
      → TiedAtNew d masks (start_call file board).board (start_call (compacted file) board').board
  starts board board' s s' =
      rw (start_left file board s, start_left (compacted file) board' s')
      (starts_at_new d sound masks (masks_least d sound).closed (blanked_sound d sound masks) e sound' (holds_part file n a))

  -- two accepted cycles
  module _ (words words' : ℕ → ℕ) (board next board' next' : List ℕ) (s : (cycle_call file (with_inputs (design_of file) words board) next).answer ≡ Ok tt)
      (s' : (cycle_call (compacted file) (with_inputs (design_of (compacted file)) words' board') next').answer ≡ Ok tt)
      (tied : TiedAtNew (design_of file) (masks_of (design_of file)) board board') (pins : pin_words (design_of file) words ≡ pin_words (design_of (compacted file)) words') where
    size : length board ≡ d.count
    unfolding design_of
    size = sym (length_inputs d words board) ∙ board_length unchanged file (with_inputs d words board) next s

    size' : length board' ≡ e.count
    unfolding design_of
    size' = sym (length_inputs e words' board') ∙ board_length unchanged (compacted file) (with_inputs e words' board') next' s'

    cycles : let call = cycle_call file (with_inputs d words board) next in
        let call' = cycle_call (compacted file) (with_inputs e words' board') next' in
        (output_words d call.board ≡ output_words e call'.board) × TiedAtNew d masks call.next call'.next
    cycles =
        let c = (masks_least d sound).closed in
        let b = blanked_sound d sound masks in
        let p = holds_part file n a in (
          rw (values_left unchanged file (with_inputs d words board) next s, values_left unchanged (compacted file) (with_inputs e words' board') next' s')
              (outputs_same d sound masks c b e sound' p words words' board board' size size' tied pins),
          rw (next_left unchanged file (with_inputs d words board) next s, next_left unchanged (compacted file) (with_inputs e words' board') next' s')
              (next_at_new d sound masks c b e sound' p words words' board board' size size' tied pins),
        )

  pub compacted_in_step : InStep (of_file (λ j. unchanged) file) (of_file (λ j. unchanged) (compacted file)) (TiedAtNew (design_of file) (masks_of (design_of file)))
      (λ words words'. pin_words (design_of file) words ≡ pin_words (design_of (compacted file)) words')
      (λ values values'. output_words (design_of file) values ≡ output_words (design_of (compacted file)) values')
  compacted_in_step = record { starts = starts; cycles = λ j j'. cycles }

-- #107
pub compacted_runs : CompactedRuns
compacted_runs file list destination size q board board' calls calls' =
    let c = accepts file list destination size q in
    subst
    (λ (other : List ℕ).
    let first = run_of (of_file (λ j. unchanged) file) board calls in
    let second = run_of (of_file (λ j. unchanged) other) board' calls' in
    FromReset first second → EqualPins (design_of file) (design_of other) first second → EqualOutputs (design_of file) (design_of other) first second)
    (sym (front_compacted file list destination size q))
    (λ reset pins.
    runs_from_start (compacted_in_step file c.count c.checked) board board' calls calls' reset.later reset.begins reset.kinds pins)
