-- The answer of each operation fits into its number.
-- Assumes nothing.
use mathlib.Core.Path.{◌≡◌, refl, ◌∙◌}
use mathlib.Core.Bool.{Bool, true, false, cond}
use mathlib.Core.Logic.{◌⊎◌, inl, inr}
use mathlib.Core.List.{List}
use Prim.Native.Nat.{ℕ}
use native.Mathlib.Omega.{arith}
use lib.Dec.{eqb, lit<}
use lib.ListN.{length}
use Rattle.std.specs.Prelude.{Result, Ok, Err}
use Rattle.netlist.specs.Refusals.{refused}
use Rattle.netlist.specs.declared.refusal.Refused.{Refused}
use Rattle.netlist.specs.Layout.{design_of}
use Rattle.netlist.specs.declared.refusal.Refusal.TheVariants.{BadList, WideWord, BadMask}
use Rattle.netlist.proofs.LowestLaws.{lowest_cases}
use Rattle.rules.specs.Check.{check_of}
use Rattle.rules.proofs.Acceptance.{accepted, refused_low}
use Rattle.care.specs.declared.Tally.{Tally}
use Rattle.care.specs.Call.{tally_of, refuse, fill_masks, call_after, masks_call}
use Rattle.care.specs.Called.{is_faulty}
use Rattle.care.specs.Least.{output_seed, masks_of}
use Rattle.care.proofs.CalledLaws.{clear_fits}
use Rattle.care.proofs.LeastMasks.{masks_fit}
use Rattle.care.proofs.TallyLaws.{tally_low}
use Rattle.clock.specs.Call.{answer_after, both_have, is_wide, words_answer, start_call, cycle_with, cycle_call}
use Rattle.trim.specs.Call.{trim_answer, trim_after, trim_call}
use Rattle.trim.specs.CallBy.{list_answer, trim_by_call}
use Rattle.trim.proofs.CallByLaws.{by_ends}
use Rattle.compact.specs.Call.{compact_answer, compact_after, compact_call}
use Rattle.changeover.specs.Call.{all_have, change_over_call}
use Rattle.answer.specs.Fits.{RecordFits, TalliedFits, RefusalFits}

record_low : (file : List ℕ) (r : Refused) → check_of file ≡ Err r → RecordFits r
record_low file r e = let h = refused_low file r e in omega arith

-- ---- check

check_case : (file : List ℕ) (c : Result ℕ Refused) → check_of file ≡ c → RefusalFits c
check_case file (Ok n) e = tt
check_case file (Err r) e = record_low file r e

pub check_fits : (file : List ℕ) → RefusalFits (check_of file)
check_fits file = check_case file (check_of file) refl

-- ---- masks, trim and trim_by

module _ (file list : List ℕ) where
  list_case : (n : ℕ) → check_of file ≡ Ok n → (b : Bool) → TalliedFits (cond b (fill_masks (design_of file)) (refuse (refused BadList 0) list)).answer
  list_case n e true = let s = (accepted file n e).sound in tally_low (design_of file) s (masks_of (design_of file)) (masks_fit (design_of file) s)
  list_case n e false = lit< tt

  masks_case : (c : Result ℕ Refused) → check_of file ≡ c → TalliedFits (call_after (λ n. n) c (fill_masks (design_of file)) list).answer
  unfolding call_after
  masks_case (Ok n) e = list_case n e (eqb (length list) n)
  masks_case (Err r) e = record_low file r e

  pub masks_fits : TalliedFits (masks_call file list).answer
  unfolding masks_call
  masks_fits = masks_case (check_of file) refl

destination_case : (a : Result Tally Refused) (b : Bool) → TalliedFits a → TalliedFits (trim_answer a b)
unfolding trim_answer
destination_case (Ok t) true h = h
destination_case (Ok t) false h = lit< tt
destination_case (Err r) b h = h

pub trim_fits : (file list destination : List ℕ) → TalliedFits (trim_call file list destination).answer
unfolding trim_after
trim_fits file list destination = destination_case _ _ (masks_fits file list)

-- a list that is refused names a record of the file, and one that is accepted fits
pub trim_by_fits : (file list destination : List ℕ) → TalliedFits (trim_by_call file list destination).answer
unfolding list_answer design_of
trim_by_fits file list destination =
    let d = design_of file in
    by_ends file list destination (λ c. TalliedFits c.answer) named
    (λ n e h g.
    let a = accepted file n e in
    lowest_cases (is_faulty d (output_seed d) list) (λ i. Err (refused BadMask i)) (Ok (tally_of d list)) d.count TalliedFits
    (λ i l p c. let f = a.sound.few in omega arith)
    (λ c. tally_low d a.sound list (clear_fits d a.sound (output_seed d) list c (h ∙ a.count))))
  where
    named : (r : Refused) → (r.at ≡ 0) ⊎ (check_of file ≡ Err r) → RecordFits r
    named r (inl e) = omega arith
    named r (inr e) = record_low file r e

-- ---- compact

written_case : (a : Result Tally Refused) (size : ℕ) → TalliedFits a → RefusalFits (compact_answer a size)
unfolding compact_answer
written_case (Ok t) size h = tt
written_case (Err r) size h = h

pub compact_fits : (file list destination : List ℕ) → RefusalFits (compact_call file list destination).answer
unfolding compact_after
compact_fits file list destination = written_case _ _ (trim_fits file list destination)

-- ---- start, cycle and change_over

module _ (file : List ℕ) (fit : ℕ → Bool) (rest : Result (Unit {0}) Refused) (h : (n : ℕ) → check_of file ≡ Ok n → RefusalFits rest) where
  lists_case : (b : Bool) → RefusalFits rest → RefusalFits (cond b rest (Err (refused BadList 0)))
  lists_case true g = g
  lists_case false g = lit< tt

  clock_case : (c : Result ℕ Refused) → check_of file ≡ c → RefusalFits (answer_after c fit rest)
  unfolding answer_after
  clock_case (Ok n) e = lists_case (fit n) (h n e)
  clock_case (Err r) e = record_low file r e

pub start_fits : (file board : List ℕ) → RefusalFits (start_call file board).answer
unfolding start_call
start_fits file board = clock_case file (λ n. eqb (length board) n) (Ok tt) (λ n e. tt) (check_of file) refl

-- a cycle, or another call that looks at the words of a board list, whatever lists it is lent
words_fits : (file board : List ℕ) (fit : ℕ → Bool) → RefusalFits (answer_after (check_of file) fit (words_answer (design_of file) board))
unfolding words_answer
words_fits file board fit =
    let d = design_of file in
    clock_case file fit (words_answer d board)
    (λ n e. lowest_cases (is_wide d board) (λ i. Err (refused WideWord i)) (Ok tt) d.count RefusalFits
    (λ i h p c. let f = (accepted file n e).sound.few in omega arith) (λ c. tt)) (check_of file) refl

pub cycle_fits : (file board next : List ℕ) → RefusalFits (cycle_call file board next).answer
unfolding cycle_with
cycle_fits file board next = words_fits file board (both_have (length board) (length next))

pub change_over_fits : (file list board new : List ℕ) → RefusalFits (change_over_call file list board new).answer
unfolding change_over_call
change_over_fits file list board new = words_fits file board (all_have (length list) (length board) (length new))
