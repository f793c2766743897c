-- What a call of compact comes to, in the paper's words: when it is accepted, what it answers, the file that it leaves in the front of its destination,
-- and that nothing else changes. Assumes nothing.
use mathlib.Core.Path.{◌≡◌, refl, sym, ap, ◌∙◌}
use mathlib.Core.Bool.{true, false}
use mathlib.Core.List.{List}
use mathlib.Core.Logic.{◌⊎◌, inl, inr, ◌≢◌}
use Prim.Native.Nat.{ℕ, ◌≤◌, ◌<◌}
use native.Mathlib.Omega.{arith}
use lib.ListN.{length, take}
use lib.Seq.{sets, sets-eq, length-sets, take_at}
use Rattle.std.specs.Prelude.{Result, Ok, Err, is_ok}
use Rattle.endian.proofs.Stores.{stored_outside}
use Rattle.netlist.specs.declared.refusal.Refused.{Refused}
use Rattle.netlist.proofs.RefusalLaws.{err_not_ok, err_same}
use Rattle.netlist.specs.Layout.{Design, design_of, byte_at, record_at, record_start}
use Rattle.netlist.specs.Refusals.{leaves}
use Rattle.netlist.specs.declared.record.Kind.TheVariants.{Constant}
use Rattle.rules.specs.Check.{check_of}
use Rattle.rules.proofs.Acceptance.{accepted}
use Rattle.care.specs.declared.Tally.{Tally}
use Rattle.care.specs.Least.{mask_at, masks_of}
use Rattle.care.proofs.Families.{same_or_not}
use Rattle.care.proofs.LeastMasks.{masks_least}
use Rattle.care.specs.Call.{masks_call}
use Rattle.trim.specs.Call.{trim_call}
use Rattle.trim.specs.Trimmed.{trim_record, trim_design}
use Rattle.trim.proofs.Promises as trim
use Rattle.compact.specs.Call.{CompactCall, compact_answer, compact_after, compact_call}
use Rattle.compact.specs.Part.{renumbered_record, compact, new_number, compacted}
use Rattle.compact.specs.Survivors.{is_blank, with_blanks, blanked, Survivors, survives}
use Rattle.compact.proofs.CallLaws.{refuse_compact, written, file_refused, list_refused, destination_refused, compact_done}
use Rattle.compact.proofs.Compacted.{stands, length_compacted, not_longer, compact_part, compact_count, blank_becomes, other_becomes}
use Rattle.compact.proofs.PartLaws.{part_below}
use Rattle.compact.proofs.SurvivorLaws.{survivors}

-- ---- when a call is accepted

-- the file is accepted, the mask list has a word for each record, and "The destination has the old length"
pub record Accepts (file list destination : List ℕ) : Type 0 where
  pub count : ℕ
  pub checked : check_of file ≡ Ok count
  pub words : length list ≡ count
  pub room : length destination ≡ length file

module _ (file list destination : List ℕ) where
  done_not : {r : Refused} {size : ℕ} {P : Type 0} → compact_call file list destination ≡ refuse_compact r list destination
      → (compact_call file list destination).answer ≡ Ok size → P
  done_not q e = err_not_ok (sym (ap (λ (c : CompactCall). c.answer) q) ∙ e)

  module _ (size : ℕ) (e : (compact_call file list destination).answer ≡ Ok size) where
    by_room : (n : ℕ) → check_of file ≡ Ok n → length list ≡ n → (length destination ≡ length file) ⊎ (length destination ≢ length file)
        → Accepts file list destination
    by_room n q h (inl g) = record { count = n; checked = q; words = h; room = g }
    by_room n q h (inr g) = done_not (destination_refused file list destination q h g) e

    by_size : (n : ℕ) → check_of file ≡ Ok n → (length list ≡ n) ⊎ (length list ≢ n) → Accepts file list destination
    by_size n q (inl h) = by_room n q h (same_or_not (length destination) (length file))
    by_size n q (inr h) = done_not (list_refused file list destination q h) e

    by_check : (c : Result ℕ Refused) → check_of file ≡ c → Accepts file list destination
    by_check (Ok n) q = by_size n q (same_or_not (length list) n)
    by_check (Err r) q = done_not (file_refused file list destination q) e

    pub accepts : Accepts file list destination
    accepts = by_check (check_of file) refl

    pub size_compacted : size ≡ length (compacted file)
    size_compacted =
        let a = accepts in
        let w = sym (ap (λ (c : CompactCall). c.answer) (compact_done file list destination a.count a.checked a.words a.room)) ∙ e in cc

-- ---- what it leaves

module _ (file list destination : List ℕ) (a : Accepts file list destination) where
  abbrev call : CompactCall
  call = compact_call file list destination

  abbrev d : Design
  d = design_of file

  comes_to : compact_call file list destination ≡ written file destination
  comes_to = compact_done file list destination a.count a.checked a.words a.room

  -- "the answer is the new length": 8 bytes, and 24 for each survivor
  pub answers_length : (compact_call file list destination).answer ≡ Ok (record_start (new_number (design_of file) (masks_of (design_of file)) a.count))
  answers_length = ap (λ (c : CompactCall). c.answer) comes_to ∙ ap Ok (length_compacted file a.count a.checked)

  -- "fills a lent mask list as trim does"
  pub fills : (compact_call file list destination).list ≡ masks_of (design_of file)
  fills = ap (λ (c : CompactCall). c.list) comes_to

  leaves_it : call.destination ≡ sets destination 0 (compacted file)
  leaves_it = ap (λ (c : CompactCall). c.destination) comes_to

  -- "writes a compacted file" into the front of the destination, whose length stays
  pub in_front : take (length (compacted file)) (compact_call file list destination).destination ≡ compacted file
  in_front =
      ap (take (length (compacted file)))
      (leaves_it ∙ sets-eq (compacted file) destination 0 (let l = not_longer file a.count a.checked in let r = a.room in omega arith))
      ∙ take_at (compacted file) _ (length (compacted file)) refl

  pub length_stays : length (compact_call file list destination).destination ≡ length destination
  length_stays = ap length leaves_it ∙ length-sets destination 0 (compacted file)

  -- "and bytes beyond it are untouched"
  pub beyond_untouched : (p : ℕ) → length (compacted file) ≤ p → byte_at (compact_call file list destination).destination p ≡ byte_at destination p
  beyond_untouched p h = ap (λ (l : List ℕ). byte_at l p) leaves_it ∙ stored_outside (compacted file) destination 0 p (inr (omega arith))

  -- check accepts it, with as many records as survive
  pub compacted_accepted : check_of (compacted file) ≡ Ok (new_number (design_of file) (masks_of (design_of file)) (design_of file).count)
  compacted_accepted =
      (stands file a.count a.checked).accepted ∙ ap Ok (compact_count d (accepted file a.count a.checked).sound (masks_of d))

  -- "Inputs and outputs survive. .. Whatever any other survivor names survives too, and nothing else does."
  pub who_survives : Survivors (design_of file) (masks_of (design_of file)) (survives (design_of file) (masks_of (design_of file)))
  who_survives = survivors d (masks_of d) (masks_least d (accepted file a.count a.checked).sound)

  -- what stands in it at the new number of a survivor
  module _ (i : ℕ) (h : i < (design_of file).count) (t : survives (design_of file) (masks_of (design_of file)) i ≡ true) where
    abbrev new : ℕ → ℕ
    new = new_number d (masks_of d)

    new_below : new i < (compact d (masks_of d)).count
    unfolding blanked with_blanks trim_design
    new_below = part_below (compact_part d (accepted file a.count a.checked).sound (masks_of d)) i h t

    read : record_at (compacted file) (new i) ≡ (compact d (masks_of d)).at (new i)
    unfolding design_of
    read = sym ((stands file a.count a.checked).same.each (new i) new_below)

    -- "becomes a constant of its width with k and keep word 0, naming nothing"
    pub constant_written : is_blank (design_of file) (masks_of (design_of file)) i ≡ true
        → record_at (compacted file) (new_number (design_of file) (masks_of (design_of file)) i)
        ≡ record { kind = Constant 0; width = ((design_of file).at i).width; keep = 0 }
    constant_written b = read ∙ blank_becomes d (accepted file a.count a.checked).sound (masks_of d) i h t b

    -- "Others carry their trimmed keep words. Order is kept and numbers are renewed."
    pub record_written : is_blank (design_of file) (masks_of (design_of file)) i ≡ false
        → record_at (compacted file) (new_number (design_of file) (masks_of (design_of file)) i)
        ≡ renumbered_record (new_number (design_of file) (masks_of (design_of file))) (trim_record ((design_of file).at i) (mask_at (masks_of (design_of file)) i))
    record_written b = read ∙ other_becomes d (accepted file a.count a.checked).sound (masks_of d) i h t b

-- the front of what an accepted call leaves, by its answer
pub front_compacted : (file list destination : List ℕ) (size : ℕ) → (compact_call file list destination).answer ≡ Ok size
    → take size (compact_call file list destination).destination ≡ compacted file
front_compacted file list destination size e =
    ap (λ (n : ℕ). take n (compact_call file list destination).destination) (size_compacted file list destination size e)
    ∙ in_front file list destination (accepts file list destination size e)

-- ---- a refused call: "No lent word or byte changes"

refused_back : (a : Result Tally Refused) (size : ℕ) (r : Refused) → compact_answer a size ≡ Err r → a ≡ Err r
unfolding compact_answer
refused_back (Ok t) size r e = err_not_ok (sym e)
refused_back (Err s) size r e = ap Err (err_same e)

pub untouched : (file list destination : List ℕ) (r : Refused) → (compact_call file list destination).answer ≡ Err r
    → ((compact_call file list destination).list ≡ list) × ((compact_call file list destination).destination ≡ destination)
unfolding compact_after
untouched file list destination r e = (
  (trim.untouched (masks_call file list) file list destination r (refused_back (trim_call file list destination).answer _ r e)).0,
  ap (λ (w : Result ℕ Refused). leaves (is_ok w) (sets destination 0 (compacted file)) destination) e,
)
