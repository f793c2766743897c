-- What a call of trim_by comes to, in the paper's words: which lists it accepts, the file that it writes by them, and what a refused call names.
-- Assumes nothing.
use mathlib.Core.Path.{◌≡◌, refl, sym, ap, subst, ◌∙◌}
use mathlib.Core.Bool.{Bool}
use mathlib.Core.List.{List}
use Prim.Native.Nat.{ℕ, ◌<◌}
use native.Mathlib.Omega.{arith}
use lib.ListN.{length}
use Rattle.std.specs.Prelude.{Result, Ok, Err, is_ok}
use Rattle.netlist.specs.declared.refusal.Refused.{Refused}
use Rattle.netlist.proofs.RefusalLaws.{err_not_ok, err_same}
use Rattle.netlist.specs.Layout.{Design, design_of, byte_at, count_of, keep_at, record_at}
use Rattle.netlist.specs.Refusals.{leaves, refused}
use Rattle.netlist.specs.declared.refusal.Refusal.TheVariants.{BadMask}
use Rattle.netlist.proofs.LowestLaws.{Clear, Lowest, lowest_cases, lowest_number}
use Rattle.rules.specs.Check.{check_of}
use Rattle.rules.specs.Sound.{SameDesign}
use Rattle.rules.proofs.Acceptance.{accepted}
use Rattle.signal.specs.Asks.{demand_of}
use Rattle.care.specs.Call.{tally_of}
use Rattle.care.specs.Called.{is_faulty}
use Rattle.care.specs.Least.{Closed, output_seed, mask_at, masks_of, Fits}
use Rattle.care.specs.declared.Tally.{Tally}
use Rattle.care.proofs.CalledLaws.{closed_clear, clear_fits, clear_closed}
use Rattle.care.proofs.LeastMasks.{masks_least, masks_fit, masks_length}
use Rattle.trim.specs.Call.{TrimCall, trim_call}
use Rattle.trim.specs.CallBy.{TrimByCall, list_answer, after_trim, trim_by_call}
use Rattle.trim.specs.Trimmed.{trimmed_by, trim_design, Outside}
use Rattle.trim.proofs.CallByLaws.{answering, by_list, by_ends, list_done}
use Rattle.trim.proofs.Promises.{writes}
use Rattle.trim.proofs.Trimmed.{byte_same, size_same, keep_cut, holds_cut, trim_accepted}

-- What is accepted: a list of n words for an accepted file of n records, that "lies within the widths and meets every care rule, smallest or not,
-- whoever made it", and a destination of the file's length.
pub record Accepts (file list destination : List ℕ) : Type 0 where
  pub records : check_of file ≡ Ok (length list)
  pub fits : Fits (design_of file) list
  pub closed : Closed (design_of file) (output_seed (design_of file)) (mask_at list)
  pub room : length destination ≡ length file

-- ---- the answer that the list gives

module _ (d : Design) (list : List ℕ) where
  abbrev faulty : ℕ → Bool
  faulty = is_faulty d (output_seed d) list

  clear_done : Clear faulty d.count → list_answer d list ≡ Ok (tally_of d list)
  clear_done clear =
      list_done d list d.count (lowest_number (record { low = omega arith; picked = λ h. absurd (omega arith); clear = clear })) (omega arith)

  done_clear : (t : Tally) → list_answer d list ≡ Ok t → Clear faulty d.count
  unfolding list_answer
  done_clear t =
      lowest_cases faulty (λ i. Err (refused BadMask i)) (Ok (tally_of d list)) d.count
      (λ a. a ≡ Ok t → Clear faulty d.count) (λ i h p c. err_not_ok) (λ c e. c)

  refused_lowest : (r : Refused) → list_answer d list ≡ Err r → (r.refusal ≡ BadMask) × ((r.at < d.count) × Lowest faulty d.count r.at)
  unfolding list_answer
  refused_lowest r =
      lowest_cases faulty (λ i. Err (refused BadMask i)) (Ok (tally_of d list)) d.count
      (λ a. a ≡ Err r → (r.refusal ≡ BadMask) × ((r.at < d.count) × Lowest faulty d.count r.at))
      (λ j h p c e.
      subst (λ (s : Refused). (s.refusal ≡ BadMask) × ((s.at < d.count) × Lowest faulty d.count s.at)) (err_same e)
      (refl, (h, record { low = omega arith; picked = λ l. p; clear = c })))
      (λ c e. err_not_ok (sym e))

-- ---- which lists are accepted

module _ (file list destination : List ℕ) where
  abbrev d : Design
  d = design_of file

  abbrev call : TrimByCall
  call = trim_by_call file list destination

  -- where trim would be accepted, the list decides
  decided : (n : ℕ) → check_of file ≡ Ok n → length list ≡ n → length destination ≡ length file
      → call ≡ answering (list_answer d list) (trimmed_by file list) destination
  decided n e h g = by_list file list destination (writes file list destination n e h g)

  -- "The second accepts a list exactly if it lies within the widths and meets every care rule": where it does, it is accepted, answered with its
  -- tally, and the file is written
  pub accepted_if : Accepts file list destination → call ≡ answering (Ok (tally_of d list)) (trimmed_by file list) destination
  accepted_if a =
      let s = (accepted file (length list) a.records).sound in
      decided (length list) a.records refl a.room
      ∙ ap (λ (t : Result Tally Refused). answering t (trimmed_by file list) destination) (clear_done d list (closed_clear d s (output_seed d) list a.fits a.closed))

  -- and no other list is
  pub accepted_only_if : (t : Tally) → call.answer ≡ Ok t → Accepts file list destination
  unfolding design_of
  accepted_only_if t =
      by_ends file list destination (λ c. c.answer ≡ Ok t → Accepts file list destination) (λ r e. err_not_ok)
      (λ n q h g e.
      let a = accepted file n q in
      let clear = done_clear d list t e in
      record {
        records = q ∙ ap Ok (sym h);
        fits = clear_fits d a.sound (output_seed d) list clear (h ∙ a.count);
        closed = clear_closed d a.sound (output_seed d) list clear (h ∙ a.count);
        room = g;
      })

-- ---- an accepted call

module _ (file list destination : List ℕ) (a : Accepts file list destination) where
  abbrev accepting : TrimByCall
  accepting = trim_by_call file list destination

  abbrev n : ℕ
  n = length list

  -- "the second .. writes"
  pub writes_by : accepting.destination ≡ trimmed_by file list
  writes_by = ap (λ (c : TrimByCall). c.destination) (accepted_if file list destination a)

  -- "Both steps answer with the list's tally"
  pub answers_tally : accepting.answer ≡ Ok (tally_of (design_of file) list)
  answers_tally = ap (λ (c : TrimByCall). c.answer) (accepted_if file list destination a)

  pub equal_length_by : length accepting.destination ≡ length file
  equal_length_by = ap length writes_by ∙ size_same file n a.records list

  -- "Its file differs in keep words only"
  pub only_keep_words_by : (p : ℕ) → Outside (count_of file) p → byte_at accepting.destination p ≡ byte_at file p
  only_keep_words_by p out = ap (λ (other : List ℕ). byte_at other p) writes_by ∙ byte_same file n a.records list p out

  -- "each being the old one and the list's mask"
  pub keep_is_cut : (i : ℕ) → i < count_of file → keep_at accepting.destination i ≡ demand_of (record_at file i) (mask_at list i)
  unfolding trim_design design_of
  keep_is_cut i l = ap (λ (other : List ℕ). keep_at other i) writes_by ∙ keep_cut file n a.records list i l

  pub holds_cut_by : SameDesign (trim_design (design_of file) list) (design_of accepting.destination)
  holds_cut_by =
      subst (λ (other : List ℕ). SameDesign (trim_design (design_of file) list) (design_of other)) (sym writes_by) (holds_cut file n a.records list)

  pub still_accepted_by : check_of accepting.destination ≡ Ok n
  still_accepted_by = ap check_of writes_by ∙ trim_accepted file n a.records list

-- ---- the smallest masks

module _ (file list destination : List ℕ) (n : ℕ) (e : check_of file ≡ Ok n) (h : length list ≡ n) (g : length destination ≡ length file) where
  abbrev smallest : List ℕ
  smallest = masks_of (design_of file)

  -- they are accepted
  pub smallest_accepted : Accepts file smallest destination
  smallest_accepted =
      let a = accepted file n e in
      record {
        records = e ∙ ap Ok (sym (masks_length file n a refl));
        fits = masks_fit (design_of file) a.sound;
        closed = (masks_least (design_of file) a.sound).closed;
        room = g;
      }

  -- and with them the file is the one that trim writes
  pub same_as_trim : (trim_by_call file smallest destination).destination ≡ (trim_call file list destination).destination
  same_as_trim =
      writes_by file smallest destination smallest_accepted ∙ sym (ap (λ (c : TrimCall). c.destination) (writes file list destination n e h g))

-- ---- a refused call

module _ (file list destination : List ℕ) (r : Refused) where
  abbrev refusing : TrimByCall
  refusing = trim_by_call file list destination

  -- 14 is "after 13": what trim refuses is refused in the same way
  pub refused_as_trim : (trim_call file list destination).answer ≡ Err r → refusing.answer ≡ Err r
  unfolding trim_by_call after_trim
  refused_as_trim e = ap (λ (t : Result Tally Refused). after_trim t (list_answer (design_of file) list)) e

  -- "14 when a list breaks a width or rule, .. with the lowest record whose mask lacks a called-for bit or has one outside its width"
  pub lowest_named : (n : ℕ) → check_of file ≡ Ok n → length list ≡ n → length destination ≡ length file → refusing.answer ≡ Err r
      → (r.refusal ≡ BadMask)
      × ((r.at < (design_of file).count) × Lowest (is_faulty (design_of file) (output_seed (design_of file)) list) (design_of file).count r.at)
  lowest_named n e h g q =
      refused_lowest (design_of file) list r (ap (λ (c : TrimByCall). c.answer) (sym (decided file list destination n e h g)) ∙ q)

  -- "No lent word or byte changes."
  pub untouched_by : refusing.answer ≡ Err r → refusing.destination ≡ destination
  unfolding trim_by_call
  untouched_by e = ap (λ (t : Result Tally Refused). leaves (is_ok t) (trimmed_by file list) destination) e
