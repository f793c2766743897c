-- The claim about a run that changes over to the compacted file: the board list that goes over is tied to the old one. And the compacted file accepts
-- at once what the old one would have accepted. Assumes nothing.
use mathlib.Core.Path.{◌≡◌, sym, ap, ◌∙◌}
use mathlib.Core.List.{List}
use Prim.Native.Nat.{ℕ}
use lib.Bits.{bit_and}
use lib.ListN.{length, take}
use Rattle.std.specs.Prelude.{Ok}
use Rattle.endian.specs.Lists.{word_at, words_of}
use Rattle.endian.proofs.ListLaws.{words_of-word_at}
use Rattle.bits.specs.Masks.{Agree}
use Rattle.bits.proofs.Agreement.{agree_within}
use Rattle.bits.proofs.Order.{meet_left, meet_right}
use Rattle.netlist.specs.Layout.{Design, design_of}
use Rattle.netlist.specs.declared.record.Role.{Role}
use Rattle.rules.specs.Check.{check_of}
use Rattle.rules.proofs.Acceptance.{accepted}
use Rattle.care.specs.Least.{mask_at, masks_of}
use Rattle.care.proofs.LeastMasks.{masks_least}
use Rattle.clock.specs.Call.{cycle_call}
use Rattle.clock.specs.Values.{with_inputs}
use Rattle.compact.specs.Part.{compacted}
use Rattle.compact.proofs.Compacted.{blanked_sound, stands, holds_part}
use Rattle.changeover.specs.Call.{change_over_call}
use Rattle.changeover.specs.Carried.{carried_word, carried_at, compact_board}
use Rattle.changeover.proofs.CarriedLaws.{carried_was, board_word}
use Rattle.changeover.proofs.Promises.{accepts, first_words, one_each, goes_on}
use Rattle.agreement.specs.ChangedOver.{ChangedOverRuns}
use Rattle.agreement.specs.Compacted.{pin_words}
use Rattle.agreement.proofs.Between.{Tied}
use Rattle.agreement.proofs.CompactedAccepts.{accepts_too}
use Rattle.agreement.proofs.CompactedCycle.{TiedAtNew, tied_at_new}
use Rattle.agreement.proofs.CompactedRuns.{compacted_in_step}
use Rattle.agreement.proofs.InStep.{runs_close}

-- a word and what a mask leaves of it agree on the mask
cut_agrees : (word mask : ℕ) → Agree mask word (bit_and word mask)
cut_agrees word mask = record { equal = sym (meet_right word mask).meet }

module _ (d : Design) (masks board : List ℕ) where
  -- what goes over for each record, by its old number, is tied to what was there
  tied_over : Tied d masks board (words_of (carried_at d masks board) d.count)
  tied_over =
      record {
        each = λ i a k h q.
            let word = words_of-word_at (carried_at d masks board) d.count i h ∙ carried_was d masks i board
            ∙ ap (λ (role : Role). carried_word role (mask_at masks i) (word_at board i)) q in
            agree_within (meet_left (mask_at masks i) (d.at i).keep) (rw word (cut_agrees (word_at board i) (mask_at masks i)));
      }

-- the board list that goes over is tied to the old one
tied_changed : (file : List ℕ) (n : ℕ) → check_of file ≡ Ok n → (board : List ℕ)
    → TiedAtNew (design_of file) (masks_of (design_of file)) board (compact_board (design_of file) (masks_of (design_of file)) board)
tied_changed file n a board =
    let d = design_of file in
    let masks = masks_of d in
    let sound = (accepted file n a).sound in
    tied_at_new d sound masks (masks_least d sound).closed (blanked_sound d sound masks) (design_of (compacted file))
    (accepted (compacted file) _ (stands file n a).accepted).sound (holds_part file n a) board (words_of (carried_at d masks board) d.count)
    (compact_board d masks board) (tied_over d masks board)
    (λ i h s. words_of-word_at (carried_at d masks board) d.count i h ∙ sym (board_word d masks board i h s))

-- #108
pub changed_over_runs : ChangedOverRuns
changed_over_runs file list board new e calls calls' kinds pins =
    let a = accepts file list board new e in
    runs_close (compacted_in_step file a.count a.checked) board
    (take (design_of (compacted file)).count (change_over_call file list board new).new) calls calls'
    (rw (first_words file list board new e) (tied_changed file a.count a.checked board)) kinds pins

-- where the old file would accept a cycle, the compacted one does with the same pin words, on the new list
pub accepts_changed : (file list board new : List ℕ) → (change_over_call file list board new).answer ≡ Ok tt
    → let d = design_of file in
    let other = design_of (compacted file) in
    let board' = take other.count (change_over_call file list board new).new in
    (words words' : ℕ → ℕ) (next next' : List ℕ) → (cycle_call file (with_inputs d words board) next).answer ≡ Ok tt
    → pin_words d words ≡ pin_words other words' → length next' ≡ other.count
    → (cycle_call (compacted file) (with_inputs other words' board') next').answer ≡ Ok tt
accepts_changed file list board new e words words' next next' s pins room =
    let a = accepts file list board new e in
    accepts_too file a.count a.checked words words' board next
    (take (design_of (compacted file)).count (change_over_call file list board new).new) next' s pins (one_each file list board new e) room
    (goes_on file list board new e)
