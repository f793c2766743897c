-- A call on a buffer of bytes is the operation's on a list of words that matches it, with the words as bytes where the call is accepted.
-- Assumes nothing.
use mathlib.Core.Path.{◌≡◌, refl, sym, ap, subst, ◌∙◌}
use mathlib.Core.Bool.{Bool, true, false}
use mathlib.Core.List.{List}
use Prim.Native.Nat.{ℕ, ◌*◌, ◌≤◌}
use lib.Dec.{eqb}
use lib.ListN.{length}
use borrow.Author.Tests.{eqb-true, eqb-false}
use Rattle.std.specs.Prelude.{Result, Ok, Err, is_ok}
use Rattle.endian.specs.Bytes.{word_bytes}
use Rattle.netlist.specs.declared.refusal.Refused.{Refused}
use Rattle.netlist.specs.Layout.{design_of}
use Rattle.netlist.specs.Limits.{max_count}
use Rattle.netlist.specs.Refusals.{leaves}
use Rattle.rules.specs.Check.{check_of}
use Rattle.rules.proofs.Acceptance.{accepted, few}
use Rattle.care.specs.declared.Tally.{Tally}
use Rattle.care.specs.Call.{MasksCall, fill_masks, masks_call}
use Rattle.care.proofs.CallLaws.{call_refused, call_bad_list, call_filled}
use Rattle.care.proofs.LeastMasks.{masks_length}
use Rattle.trim.specs.Call.{TrimCall, trim_answer, trim_after, trim_call}
use Rattle.trim.specs.Trimmed.{trimmed}
use Rattle.desktop.specs.Buffers.{fill_buffer, masks_buffer, trim_buffers}
use Rattle.desktop.specs.Words.{Matches, Room}

-- a call on words, as one on bytes that held `buffer`
abbrev pub in_bytes : MasksCall → List ℕ → MasksCall
in_bytes c buffer = record { answer = c.answer; list = leaves (is_ok c.answer) (word_bytes c.list) buffer }

abbrev pub trim_in_bytes : TrimCall → List ℕ → TrimCall
trim_in_bytes c buffer = record { answer = c.answer; list = leaves (is_ok c.answer) (word_bytes c.list) buffer; destination = c.destination }

-- what there is to say of a call of masks with a list that matches a buffer
pub record Matched (file buffer : List ℕ) (call : MasksCall) : Type 0 where
  pub same : masks_buffer file buffer ≡ in_bytes call buffer
  pub room : Room call.answer (length call.list) (length buffer)

module _ (file buffer words : List ℕ) (s : Matches (length words) (length buffer)) where
  ends : (call : MasksCall) → masks_call file words ≡ call → masks_buffer file buffer ≡ in_bytes call buffer → Room call.answer (length call.list) (length buffer)
      → Matched file buffer (masks_call file words)
  ends call e q r = subst (Matched file buffer) (sym e) (record { same = q; room = r })

  list_case : (n : ℕ) → check_of file ≡ Ok n → (b : Bool) → eqb (length words) n ≡ b → Matched file buffer (masks_call file words)
  unfolding masks_call masks_buffer
  list_case n e true q =
      let d = design_of file in
      let l = eqb-true (length words) n q in
      let a = accepted file n e in
      let h : length buffer ≡ 8 * n = s.there (subst (λ (m : ℕ). m ≤ max_count) (sym l) (few file n a)) ∙ ap (λ (m : ℕ). 8 * m) l in
      ends (fill_masks d) (call_filled (λ n. n) file (fill_masks d) words e l) (call_filled (λ n. 8 * n) file (fill_buffer d) buffer e h)
      (h ∙ ap (λ (m : ℕ). 8 * m) (sym (masks_length file n a refl)))
  list_case n e false q =
      let d = design_of file in
      let g = eqb-false (length words) n q in
      ends _ (call_bad_list (λ n. n) file (fill_masks d) words e g)
      (call_bad_list (λ n. 8 * n) file (fill_buffer d) buffer e (λ h. g (s.back n (few file n (accepted file n e)) h))) tt

  file_case : (c : Result ℕ Refused) → check_of file ≡ c → Matched file buffer (masks_call file words)
  unfolding masks_call masks_buffer
  file_case (Ok n) e = list_case n e (eqb (length words) n) refl
  file_case (Err r) e =
      let d = design_of file in
      ends _ (call_refused (λ n. n) file (fill_masks d) words e) (call_refused (λ n. 8 * n) file (fill_buffer d) buffer e) tt

  pub masks_match : Matched file buffer (masks_call file words)
  masks_match = file_case (check_of file) refl

  -- ---- trim: whatever masks comes to, and whether or not the destination fits

  list_left : (a : Result Tally Refused) (list : List ℕ) (fits : Bool)
      → let done = is_ok (trim_answer a fits) in
      leaves done (leaves (is_ok a) (word_bytes list) buffer) buffer ≡ leaves done (word_bytes (leaves done list words)) buffer
  unfolding trim_answer
  list_left (Ok t) list true = refl
  list_left (Ok t) list false = refl
  list_left (Err r) list fits = refl

  room_left : (a : Result Tally Refused) (list : List ℕ) (fits : Bool) → Room a (length list) (length buffer)
      → Room (trim_answer a fits) (length (leaves (is_ok (trim_answer a fits)) list words)) (length buffer)
  unfolding trim_answer
  room_left (Ok t) list true r = r
  room_left (Ok t) list false r = tt
  room_left (Err r) list fits h = tt

  module _ (destination : List ℕ) where
    abbrev fits : Bool
    fits = eqb (length destination) (length file)

    abbrev answer : Result Tally Refused
    answer = trim_answer (masks_call file words).answer fits

    pub same_trim : trim_buffers file buffer destination ≡ trim_in_bytes (trim_call file words destination) buffer
    unfolding trim_after
    same_trim =
        ap (λ (m : MasksCall). trim_after m file buffer destination) masks_match.same
        ∙ ap (λ (l : List ℕ). record { answer = answer; list = l; destination = leaves (is_ok answer) (trimmed file) destination })
        (list_left (masks_call file words).answer (masks_call file words).list fits)

    pub trim_room : Room (trim_call file words destination).answer (length (trim_call file words destination).list) (length buffer)
    unfolding trim_after
    trim_room = room_left (masks_call file words).answer (masks_call file words).list fits masks_match.room
