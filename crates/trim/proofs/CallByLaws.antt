-- The ends of a call of trim_by: refused as trim is, or by what the list is found to be.
-- Assumes nothing.
use mathlib.Core.Path.{◌≡◌, refl, sym, ap, subst}
use mathlib.Core.Bool.{Bool}
use mathlib.Core.Logic.{◌≢◌, ◌⊎◌, inl, inr}
use mathlib.Core.List.{List}
use Prim.Native.Nat.{ℕ, ◌≤◌, ◌<◌}
use native.Mathlib.Omega.{arith}
use lib.ListN.{length}
use Rattle.std.specs.Prelude.{Result, Ok, Err, is_ok}
use Rattle.netlist.specs.declared.refusal.Refused.{Refused}
use Rattle.netlist.specs.Layout.{Design, design_of}
use Rattle.netlist.specs.Lowest.{lowest}
use Rattle.netlist.specs.Refusals.{leaves, refused}
use Rattle.netlist.specs.declared.refusal.Refusal.TheVariants.{BadList, BadDestination, BadMask}
use Rattle.netlist.proofs.LowestLaws.{number_lowest, lowest_found, lowest_none}
use Rattle.rules.specs.Check.{check_of}
use Rattle.rules.specs.Sound.{Sound}
use Rattle.care.specs.Call.{tally_of}
use Rattle.care.specs.Called.{is_faulty}
use Rattle.care.specs.Least.{output_seed, Fits}
use Rattle.care.specs.declared.Tally.{Tally}
use Rattle.care.proofs.CalledLaws.{clear_fits}
use Rattle.care.proofs.Families.{same_or_not}
use Rattle.trim.specs.Call.{TrimCall, trim_call}
use Rattle.trim.specs.CallBy.{TrimByCall, list_answer, after_trim, trim_by_call}
use Rattle.trim.specs.Trimmed.{trimmed_by}
use Rattle.trim.proofs.CallLaws.{refuse_trim, written, file_refused, list_refused, destination_refused}
use Rattle.trim.proofs.Promises.{writes}

-- a call that gives an answer, and leaves a destination by it
abbrev pub answering : Result Tally Refused → List ℕ → List ℕ → TrimByCall
answering answer new old = record { answer = answer; destination = leaves (is_ok answer) new old }

module _ (file list destination : List ℕ) where
  after : TrimCall → TrimByCall
  after c = answering (after_trim c.answer (list_answer (design_of file) list)) (trimmed_by file list) destination

  pub by_list : {tally : Tally} {masks other : List ℕ} → trim_call file list destination ≡ written tally masks other
      → trim_by_call file list destination ≡ answering (list_answer (design_of file) list) (trimmed_by file list) destination
  unfolding trim_by_call after_trim after
  by_list e = ap after e

  pub by_refused : {r : Refused} → trim_call file list destination ≡ refuse_trim r list destination
      → trim_by_call file list destination ≡ answering (Err r) (trimmed_by file list) destination
  unfolding trim_by_call after_trim after
  by_refused e = ap after e

  -- what is so of each end is so of the call
  module _ (P : TrimByCall → Type 0) (refuses : (r : Refused) → (r.at ≡ 0) ⊎ (check_of file ≡ Err r) → P (answering (Err r) (trimmed_by file list) destination))
      (decides : (n : ℕ) → check_of file ≡ Ok n → length list ≡ n → length destination ≡ length file
      → P (answering (list_answer (design_of file) list) (trimmed_by file list) destination)) where
    by_room : (n : ℕ) → check_of file ≡ Ok n → length list ≡ n → (length destination ≡ length file) ⊎ (length destination ≢ length file)
        → P (trim_by_call file list destination)
    by_room n q h (inl g) = subst P (sym (by_list (writes file list destination n q h g))) (decides n q h g)
    by_room n q h (inr g) = subst P (sym (by_refused (destination_refused file list destination q h g))) (refuses (refused BadDestination 0) (inl refl))

    by_size : (n : ℕ) → check_of file ≡ Ok n → (length list ≡ n) ⊎ (length list ≢ n) → P (trim_by_call file list destination)
    by_size n q (inl h) = by_room n q h (same_or_not (length destination) (length file))
    by_size n q (inr h) = subst P (sym (by_refused (list_refused file list destination q h))) (refuses (refused BadList 0) (inl refl))

    by_check : (c : Result ℕ Refused) → check_of file ≡ c → P (trim_by_call file list destination)
    by_check (Ok n) q = by_size n q (same_or_not (length list) n)
    by_check (Err r) q = subst P (sym (by_refused (file_refused file list destination q))) (refuses r (inr q))

    pub by_ends : P (trim_by_call file list destination)
    by_ends = by_check (check_of file) refl

-- the answer that a list gives, by r, the lowest record at fault or the count of records
module _ (d : Design) (list : List ℕ) where
  abbrev faulty : ℕ → Bool
  faulty = is_faulty d (output_seed d) list

  module _ (r : ℕ) (e : r ≡ lowest faulty (λ i. i) d.count d.count) where
    module _ (h : d.count ≤ r) where
      pub list_done : list_answer d list ≡ Ok (tally_of d list)
      unfolding list_answer
      list_done = lowest_none faulty (λ i. Err (refused BadMask i)) (Ok (tally_of d list)) d.count r (number_lowest faulty d.count r e) h

      pub list_fits : Sound d → length list ≡ d.count → Fits d list
      list_fits s size = clear_fits d s (output_seed d) list (λ i g. (number_lowest faulty d.count r e).clear i (omega arith)) size

    pub list_broken : r < d.count → list_answer d list ≡ Err (refused BadMask r)
    unfolding list_answer
    list_broken h = lowest_found faulty (λ i. Err (refused BadMask i)) (Ok (tally_of d list)) d.count r (number_lowest faulty d.count r e) h

-- the answer and the destination of a call, from what the call is
pub two_of : (c e : TrimByCall) → c ≡ e → (e.answer ≡ c.answer) × (e.destination ≡ c.destination)
two_of c e q = (ap (λ (t : TrimByCall). t.answer) (sym q), ap (λ (t : TrimByCall). t.destination) (sym q))
