-- The operation `masks`: its answer and the mask list afterwards, refused calls included.
-- Assumes nothing.
use Rattle.std.specs.Prelude.{cond, List, ℕ, eqb, length, Result, Ok, Err}
use Rattle.netlist.specs.Refusals.{refused}
use Rattle.netlist.specs.declared.refusal.Refused.{Refused}
use Rattle.netlist.specs.Layout.{Design, design_of}
use Rattle.netlist.specs.declared.refusal.Refusal.TheVariants.{BadList}
use Rattle.rules.specs.Check.{check_of}
use Rattle.care.specs.Least.{width_sum, ones_sum, masks_of}
use Rattle.care.specs.declared.Tally.{Tally}

-- What a call answers, and the mask list that it leaves.
pub record MasksCall : Type 0 where
  pub answer : Result Tally Refused
  pub list : List ℕ

-- "Masks and trim answer with the tally, two numbers: the sum of all widths, and the count of ones over all masks."
abbrev pub tally_of : Design → List ℕ → Tally
tally_of d masks = record { widths = width_sum d; ones = ones_sum d masks }

-- A refused call: "No lent word or byte changes."
abbrev pub refuse : Refused → List ℕ → MasksCall
refuse r list = record { answer = Err r; list = list }

-- An accepted call fills the list with the masks.
abbrev pub fill_masks : Design → MasksCall
fill_masks d = record { answer = Ok (tally_of d (masks_of d)); list = masks_of d }

-- What a call comes to once the file is checked, where the lent list must have `size n` places.
-- 11: "A mask, board or next list has not n words."
unfoldable pub call_after : (ℕ → ℕ) → Result ℕ Refused → MasksCall → List ℕ → MasksCall
call_after size (Ok n) filled list = cond (eqb (length list) (size n)) filled (refuse (refused BadList 0) list)
call_after size (Err r) filled list = refuse r list

unfoldable pub masks_call : List ℕ → List ℕ → MasksCall
masks_call file list = call_after (λ n. n) (check_of file) (fill_masks (design_of file)) list
