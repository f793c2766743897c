-- The ends of a call of trim: masks would be refused, the destination has another length, or both lists are written.
-- Assumes nothing.
use mathlib.Core.Path.{◌≡◌, sym, ap, ◌∙◌}
use mathlib.Core.Bool.{Bool}
use mathlib.Core.List.{List}
use Prim.Native.Nat.{ℕ}
use lib.ListN.{length}
use borrow.Author.Tests.{eq-eqb, ne_eqb}
use Rattle.std.specs.Prelude.{Ok, Err, is_ok}
use Rattle.netlist.specs.declared.refusal.Refused.{Refused}
use Rattle.netlist.specs.Layout.{design_of}
use Rattle.netlist.specs.Refusals.{leaves, refused}
use Rattle.netlist.specs.declared.refusal.Refusal.TheVariants.{BadList, BadDestination}
use Rattle.rules.specs.Check.{check_of}
use Rattle.care.specs.Call.{MasksCall, refuse, fill_masks, masks_call}
use Rattle.care.specs.declared.Tally.{Tally}
use Rattle.care.proofs.CallLaws.{call_refused, call_bad_list, call_filled}
use Rattle.trim.specs.Call.{TrimCall, trim_answer, trim_after, trim_call}
use Rattle.trim.specs.Trimmed.{trimmed}

-- a refused call, and one that writes both lists
abbrev pub refuse_trim : Refused → List ℕ → List ℕ → TrimCall
refuse_trim r list destination = record { answer = Err r; list = list; destination = destination }

abbrev pub written : Tally → List ℕ → List ℕ → TrimCall
written tally list destination = record { answer = Ok tally; list = list; destination = destination }

module _ (masking : MasksCall) (file list destination : List ℕ) where
  abbrev after : MasksCall → TrimCall
  after m = trim_after m file list destination

  pub trim_refused : {r : Refused} → masking ≡ refuse r list → trim_after masking file list destination ≡ refuse_trim r list destination
  unfolding trim_after trim_answer
  trim_refused e = ap after e

  module _ {tally : Tally} {masks : List ℕ} (e : masking ≡ record { answer = Ok tally; list = masks }) where
    -- what the call comes to, by whether the destination fits
    abbrev ends : Bool → TrimCall
    ends fits =
        let answer = trim_answer (Ok tally) fits in
        record { answer = answer; list = leaves (is_ok answer) masks list; destination = leaves (is_ok answer) (trimmed file) destination }

    pub trim_bad_destination : (length destination ≡ length file → ⊥) → trim_after masking file list destination ≡ refuse_trim (refused BadDestination 0) list destination
    unfolding trim_after trim_answer
    trim_bad_destination h = ap after e ∙ ap ends (ne_eqb (length destination) (length file) h)

    pub trim_done : length destination ≡ length file → trim_after masking file list destination ≡ written tally masks (trimmed file)
    unfolding trim_after trim_answer
    trim_done h = ap after e ∙ ap ends (eq-eqb (length destination) (length file) h)

-- the refusals of a call, by the answer of check and the lengths of its lists
module _ (file list destination : List ℕ) where
  pub file_refused : {r : Refused} → check_of file ≡ Err r → trim_call file list destination ≡ refuse_trim r list destination
  unfolding masks_call
  file_refused e = trim_refused _ file list destination (call_refused (λ n. n) file (fill_masks (design_of file)) list e)

  pub list_refused : {n : ℕ} → check_of file ≡ Ok n → (length list ≡ n → ⊥) → trim_call file list destination ≡ refuse_trim (refused BadList 0) list destination
  unfolding masks_call
  list_refused e h = trim_refused _ file list destination (call_bad_list (λ n. n) file (fill_masks (design_of file)) list e h)

  pub destination_refused : {n : ℕ} → check_of file ≡ Ok n → length list ≡ n → (length destination ≡ length file → ⊥)
      → trim_call file list destination ≡ refuse_trim (refused BadDestination 0) list destination
  unfolding masks_call
  destination_refused e h g = trim_bad_destination _ file list destination (call_filled (λ n. n) file (fill_masks (design_of file)) list e h) g

-- the answer and the lists of a call, from what the call is
pub all_of : (c e : TrimCall) → c ≡ e → (e.answer ≡ c.answer) × ((e.list ≡ c.list) × (e.destination ≡ c.destination))
all_of c e q = (
  ap (λ (t : TrimCall). t.answer) (sym q),
  (ap (λ (t : TrimCall). t.list) (sym q), ap (λ (t : TrimCall). t.destination) (sym q)),
)
