-- The ends of a call of compact: trim would refuse it, or both lists are written.
-- Assumes nothing.
use mathlib.Core.Path.{◌≡◌, sym, ap}
use mathlib.Core.List.{List}
use Prim.Native.Nat.{ℕ}
use lib.ListN.{length}
use lib.Seq.{sets}
use Rattle.std.specs.Prelude.{Ok, Err}
use Rattle.netlist.specs.declared.refusal.Refused.{Refused}
use Rattle.netlist.specs.Refusals.{refused}
use Rattle.netlist.specs.Layout.{design_of}
use Rattle.netlist.specs.declared.refusal.Refusal.TheVariants.{BadList, BadDestination}
use Rattle.rules.specs.Check.{check_of}
use Rattle.care.specs.Least.{masks_of}
use Rattle.trim.specs.Call.{TrimCall, trim_call}
use Rattle.trim.proofs.CallLaws as trim
use Rattle.trim.proofs.Promises.{writes}
use Rattle.compact.specs.Call.{CompactCall, compact_answer, compact_after, compact_call}
use Rattle.compact.specs.Part.{compacted}

-- a refused call, and one that writes both lists
abbrev pub refuse_compact : Refused → List ℕ → List ℕ → CompactCall
refuse_compact r list destination = record { answer = Err r; list = list; destination = destination }

abbrev pub written : List ℕ → List ℕ → CompactCall
written file destination =
    record { answer = Ok (length (compacted file)); list = masks_of (design_of file); destination = sets destination 0 (compacted file) }

module _ (file list destination : List ℕ) where
  abbrev after : TrimCall → CompactCall
  after t = compact_after t file destination

  as_trim : {r : Refused} → trim_call file list destination ≡ trim.refuse_trim r list destination
      → compact_call file list destination ≡ refuse_compact r list destination
  unfolding compact_after compact_answer
  as_trim e = ap after e

  pub file_refused : {r : Refused} → check_of file ≡ Err r → compact_call file list destination ≡ refuse_compact r list destination
  file_refused e = as_trim (trim.file_refused file list destination e)

  pub list_refused : {n : ℕ} → check_of file ≡ Ok n → (length list ≡ n → ⊥)
      → compact_call file list destination ≡ refuse_compact (refused BadList 0) list destination
  list_refused e h = as_trim (trim.list_refused file list destination e h)

  pub destination_refused : {n : ℕ} → check_of file ≡ Ok n → length list ≡ n → (length destination ≡ length file → ⊥)
      → compact_call file list destination ≡ refuse_compact (refused BadDestination 0) list destination
  destination_refused e h g = as_trim (trim.destination_refused file list destination e h g)

  pub compact_done : (n : ℕ) → check_of file ≡ Ok n → length list ≡ n → length destination ≡ length file
      → compact_call file list destination ≡ written file destination
  unfolding compact_after compact_answer
  compact_done n e h g = ap after (writes file list destination n e h g)

-- the answer and the lists of a call, from what the call is
pub all_of : (c e : CompactCall) → c ≡ e → (e.answer ≡ c.answer) × ((e.list ≡ c.list) × (e.destination ≡ c.destination))
all_of c e q = (
  ap (λ (t : CompactCall). t.answer) (sym q),
  (ap (λ (t : CompactCall). t.list) (sym q), ap (λ (t : CompactCall). t.destination) (sym q)),
)
