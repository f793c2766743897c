-- What a call of `masks` comes to, in the paper's words: the masks are the smallest, the tally counts them, a refused call changes no word.
-- Assumes nothing.
use mathlib.Core.Path.{◌≡◌, refl, sym, subst}
use mathlib.Core.Bool.{Bool, true, false, cond}
use mathlib.Core.List.{List}
use Prim.Native.Nat.{ℕ}
use lib.Dec.{eqb}
use lib.ListN.{length}
use Rattle.std.specs.Prelude.{Result, Ok, Err}
use Rattle.netlist.specs.Refusals.{refused}
use Rattle.netlist.specs.declared.refusal.Refused.{Refused}
use Rattle.netlist.specs.Layout.{design_of}
use Rattle.netlist.specs.declared.refusal.Refusal.TheVariants.{BadList}
use Rattle.rules.specs.Check.{check_of}
use Rattle.rules.proofs.Acceptance.{accepted}
use Rattle.care.specs.Call.{MasksCall, tally_of, refuse, fill_masks, call_after, masks_call}
use Rattle.care.specs.Least.{Least, output_seed, mask_at}
use Rattle.care.specs.declared.Tally.{Tally}
use Rattle.care.proofs.CallLaws.{call_filled}
use Rattle.care.proofs.LeastMasks.{masks_least}

-- an accepted call
module _ (file list : List ℕ) (n : ℕ) (e : check_of file ≡ Ok n) (h : length list ≡ n) where
  pub filled : masks_call file list ≡ fill_masks (design_of file)
  unfolding masks_call
  filled = call_filled (λ n. n) file (fill_masks (design_of file)) list e h

  -- "M is the smallest family of masks, bit by bit, for which" the care rules hold
  pub smallest : Least (design_of file) (output_seed (design_of file)) (mask_at (masks_call file list).list)
  smallest =
      subst (λ (c : MasksCall). Least (design_of file) (output_seed (design_of file)) (mask_at c.list)) (sym filled)
      (masks_least (design_of file) (accepted file n e).sound)

  -- "the sum of all widths, and the count of ones over all masks"
  pub counted : (masks_call file list).answer ≡ Ok (tally_of (design_of file) (masks_call file list).list)
  counted = subst (λ (c : MasksCall). c.answer ≡ Ok (tally_of (design_of file) c.list)) (sym filled) refl

-- "No lent word or byte changes": whatever the list must be like, a call that answers with a refusal leaves it as it was
pub untouched : (size : ℕ → ℕ) (c : Result ℕ Refused) (t : Tally) (masks list : List ℕ) (r : Refused)
    → (call_after size c (record { answer = Ok t; list = masks }) list).answer ≡ Err r
    → (call_after size c (record { answer = Ok t; list = masks }) list).list ≡ list
unfolding call_after
untouched size (Err s) t masks list r e = refl
untouched size (Ok n) t masks list r e = go (eqb (length list) (size n)) e
  where
    done : MasksCall
    done = record { answer = Ok t; list = masks }

    go : (b : Bool) → (cond b done (refuse (refused BadList 0) list)).answer ≡ Err r → (cond b done (refuse (refused BadList 0) list)).list ≡ list
    go true e = cc
    go false e = refl
