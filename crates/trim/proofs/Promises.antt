-- What a call of trim comes to, in the paper's words: it writes the masks and a file in which only keep words changed, and a refused call
-- changes nothing. Assumes nothing.
use mathlib.Core.Path.{◌≡◌, sym, ap, subst}
use mathlib.Core.List.{List}
use Prim.Native.Nat.{ℕ, ◌<◌}
use lib.ListN.{length}
use Rattle.std.specs.Prelude.{Result, Ok, Err, is_ok}
use Rattle.netlist.specs.declared.refusal.Refused.{Refused}
use Rattle.netlist.specs.Layout.{design_of, byte_at, count_of, keep_at, record_at}
use Rattle.netlist.specs.Refusals.{leaves}
use Rattle.rules.specs.Check.{check_of}
use Rattle.rules.specs.Sound.{SameDesign}
use Rattle.signal.specs.Asks.{demand_of}
use Rattle.care.specs.declared.Tally.{Tally}
use Rattle.care.specs.Call.{MasksCall, tally_of, masks_call}
use Rattle.care.specs.Least.{mask_at, masks_of}
use Rattle.care.proofs.Promises.{filled}
use Rattle.trim.specs.Call.{TrimCall, trim_after, trim_call}
use Rattle.trim.specs.Trimmed.{trimmed, trim_design, Outside}
use Rattle.trim.proofs.CallLaws.{written, trim_done}
use Rattle.trim.proofs.Trimmed.{byte_same, size_same, keep_cut, holds_cut, trim_accepted}

-- an accepted call
module _ (file list destination : List ℕ) (n : ℕ) (e : check_of file ≡ Ok n) (h : length list ≡ n) (g : length destination ≡ length file) where
  -- "fills a lent mask list with them and writes a file of equal length to a destination", and answers "with the tally"
  pub writes : trim_call file list destination ≡ written (tally_of (design_of file) (masks_of (design_of file))) (masks_of (design_of file)) (trimmed file)
  writes = trim_done (masks_call file list) file list destination (filled file list n e h) g

  abbrev call : TrimCall
  call = trim_call file list destination

  -- what is so of the masks and the trimmed file is so of what the call leaves
  of_call : (P : List ℕ → List ℕ → Type 0) → P (masks_of (design_of file)) (trimmed file) → P call.list call.destination
  of_call P p = subst (λ (c : TrimCall). P c.list c.destination) (sym writes) p

  pub equal_length : length call.destination ≡ length file
  equal_length = of_call (λ masks other. length other ≡ length file) (size_same file n e (masks_of (design_of file)))

  -- "It changes only bytes 16 to 23 of each record"
  pub only_keep_words : (p : ℕ) → Outside (count_of file) p → byte_at call.destination p ≡ byte_at file p
  only_keep_words p out = of_call (λ masks other. byte_at other p ≡ byte_at file p) (byte_same file n e (masks_of (design_of file)) p out)

  -- "the new keep word is D"
  pub keep_is_D : (i : ℕ) → i < count_of file → keep_at call.destination i ≡ demand_of (record_at file i) (mask_at call.list i)
  unfolding trim_design design_of
  keep_is_D i l =
      of_call (λ masks other. keep_at other i ≡ demand_of (record_at file i) (mask_at masks i)) (keep_cut file n e (masks_of (design_of file)) i l)

  pub holds_D : SameDesign (trim_design (design_of file) call.list) (design_of call.destination)
  holds_D = of_call (λ masks other. SameDesign (trim_design (design_of file) masks) (design_of other)) (holds_cut file n e (masks_of (design_of file)))

  pub still_accepted : check_of call.destination ≡ Ok n
  still_accepted = of_call (λ masks other. check_of other ≡ Ok n) (trim_accepted file n e (masks_of (design_of file)))

-- "No lent word or byte changes": a call that answers with a refusal leaves both lists as they were, of words or of bytes
pub untouched : (masking : MasksCall) (file list destination : List ℕ) (r : Refused) → (trim_after masking file list destination).answer ≡ Err r
    → ((trim_after masking file list destination).list ≡ list) × ((trim_after masking file list destination).destination ≡ destination)
unfolding trim_after
untouched masking file list destination r e =
    (ap (λ (a : Result Tally Refused). leaves (is_ok a) masking.list list) e, ap (λ (a : Result Tally Refused). leaves (is_ok a) (trimmed file) destination) e)
