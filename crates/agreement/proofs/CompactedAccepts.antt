-- Where a cycle of a file is accepted, so is one of its compacted file with the same pin words, on lists of its length to which 12 does not apply.
-- Assumes nothing. After a start and after a cycle 12 applies to no word (`start_goes_on`, `goes_on`).
use mathlib.Core.Path.{◌≡◌, refl, sym, ap, ap₂, subst, ◌∙◌}
use mathlib.Core.Bool.{true, false}
use mathlib.Core.List.{List}
use Prim.Native.Nat.{ℕ, ◌<◌}
use native.Mathlib.Omega.{arith}
use lib.ListN.{length}
use Rattle.std.specs.Prelude.{Ok}
use Rattle.endian.specs.Lists.{word_at}
use Rattle.netlist.specs.Kinds.{is_input}
use Rattle.netlist.specs.Layout.{Design, design_of, role_at}
use Rattle.netlist.specs.Picked.{rank_of}
use Rattle.netlist.specs.declared.record.Role.{Role}
use Rattle.netlist.specs.declared.record.Role.TheVariants.{Input, Register, Output, Gate}
use Rattle.netlist.proofs.PickedLaws.{Ranked, ranked}
use Rattle.netlist.proofs.RoleLaws.{input_role}
use Rattle.rules.specs.Check.{check_of}
use Rattle.care.specs.Least.{masks_of}
use Rattle.clock.specs.Call.{word_is_wide, is_wide, cycle_with, cycle_call}
use Rattle.clock.specs.Values.{unchanged, put_word, with_inputs}
use Rattle.clock.proofs.CallLaws.{answer_fit, fit_both, words_clear, clear_words}
use Rattle.clock.proofs.InputLaws.{length_inputs, input_word}
use Rattle.clock.proofs.Promises.{passed, board_length}
use Rattle.trim.specs.Trimmed.{trim_design}
use Rattle.compact.specs.Part.{compacted}
use Rattle.compact.specs.Survivors.{is_blank, with_blanks, blanked, survives}
use Rattle.compact.proofs.BlankLaws.{width_stays}
use Rattle.compact.proofs.Compacted.{stands, holds_part}
use Rattle.compact.proofs.PartLaws.{PartOf, part_below, width_part}
use Rattle.compact.proofs.Ports.{input_at}
use Rattle.agreement.specs.Compacted.{pin_words}
use Rattle.agreement.proofs.CompactedCycle.{equal_pins}

-- the words of the compacted design, where those of the old one pass
module _ (d : Design) (masks : List ℕ) (e : Design) (p : PartOf (survives d masks) (blanked d masks) e) (words words' : ℕ → ℕ)
    (board board' : List ℕ) (size : length board ≡ d.count) (size' : length board' ≡ e.count) (pins : pin_words d words ≡ pin_words e words')
    (passes : (i : ℕ) → i < d.count → is_wide d (with_inputs d words board) i ≡ false) (fits : (i : ℕ) → i < e.count → is_wide e board' i ≡ false) where
  abbrev new : ℕ → ℕ
  new = rank_of (survives d masks)

  module _ (i : ℕ) (h : i < d.count) (t : survives d masks i ≡ true) where
    abbrev w : ℕ
    w = (e.at (new i)).width

    width_new : (e.at (new i)).width ≡ (d.at i).width
    unfolding blanked with_blanks trim_design
    width_new = width_part p i h t ∙ width_stays (is_blank d masks) (trim_design d masks) i

    below_new : new i < e.count
    unfolding blanked with_blanks trim_design
    below_new = part_below p i h t

    -- an input gets the word that the old one got
    input_passes : role_at d i ≡ Input → word_is_wide Input (words' (new i)) w ≡ false
    input_passes q =
        ap₂ (word_is_wide Input) (sym (equal_pins d masks e p words words' pins i h (ap is_input q))) width_new
        ∙ ap (λ (role : Role). word_is_wide role (put_word role (words i) (word_at board i)) (d.at i).width) (sym q)
        ∙ ap (λ (word : ℕ). word_is_wide (role_at d i) word (d.at i).width) (sym (input_word d words board i (omega arith)))
        ∙ passes i h

    by_role : (role : Role) → role_at e (new i) ≡ role → word_is_wide role (put_word role (words' (new i)) (word_at board' (new i))) w ≡ false
    by_role Input q = input_passes (input_role (role_at d i) (sym (input_at d masks e p i h t) ∙ ap is_input q))
    by_role (Register a k) q = ap (λ (role : Role). word_is_wide role (word_at board' (new i)) w) (sym q) ∙ fits (new i) below_new
    by_role Output q = refl
    by_role Gate q = refl

    new_passes : is_wide e (with_inputs e words' board') (new i) ≡ false
    new_passes =
        ap (λ (word : ℕ). word_is_wide (role_at e (new i)) word w) (input_word e words' board' (new i) (let l = below_new in omega arith))
        ∙ by_role (role_at e (new i)) refl

  pub compacted_passes : (r : ℕ) → r < e.count → is_wide e (with_inputs e words' board') r ≡ false
  unfolding blanked with_blanks trim_design
  compacted_passes r l = go (ranked (survives d masks) d.count r (let q = p.count in omega arith))
    where
      go : Ranked (survives d masks) d.count r → is_wide e (with_inputs e words' board') r ≡ false
      go t = subst (λ (k : ℕ). is_wide e (with_inputs e words' board') k ≡ false) t.rank (new_passes t.place t.below t.picks)

-- #107
pub accepts_too : (file : List ℕ) (n : ℕ) → check_of file ≡ Ok n → let d = design_of file in
    let e = design_of (compacted file) in
    (words words' : ℕ → ℕ) (board next board' next' : List ℕ) → (cycle_call file (with_inputs d words board) next).answer ≡ Ok tt
    → pin_words d words ≡ pin_words e words' → length board' ≡ e.count → length next' ≡ e.count
    → ((i : ℕ) → i < e.count → is_wide e board' i ≡ false) → (cycle_call (compacted file) (with_inputs e words' board') next').answer ≡ Ok tt
unfolding cycle_with design_of
accepts_too file n a words words' board next board' next' s pins size' room fits =
    let d = design_of file in
    let e = design_of (compacted file) in
    let size = sym (length_inputs d words board) ∙ board_length unchanged file (with_inputs d words board) next s in
    let c = stands file n a in
    answer_fit _ _ c.accepted
    (fit_both _ _ _ (length_inputs e words' board' ∙ size' ∙ sym c.same.count) (room ∙ sym c.same.count))
    ∙ clear_words e (with_inputs e words' board')
    (compacted_passes d (masks_of d) e (holds_part file n a) words words' board board' size size' pins
    (words_clear d (with_inputs d words board) (passed _ _ _ s).clear) fits)
