-- What a call of change_over comes to, in the paper's words: when it is accepted, the words that it leaves in the new list, that 12 applies to none of
-- them, and that a refused call changes nothing. Assumes nothing.
use mathlib.Core.Path.{◌≡◌, sym, ap, subst, ◌∙◌}
use mathlib.Core.Bool.{Bool, true, false, not, ◌&&◌}
use mathlib.Core.List.{List}
use mathlib.Core.Logic.{◌≢◌, ◌⊎◌, inl, inr}
use Prim.Native.Nat.{ℕ, ◌^◌, ◌≤◌, ◌<◌}
use native.Mathlib.Omega.{arith}
use lib.Bits.{bit_and}
use lib.Dec.{ltb}
use lib.ListN.{length, take}
use lib.Seq.{get_or-take}
use Rattle.std.specs.Prelude.{Result, Ok, Err, is_ok}
use Rattle.endian.specs.Lists.{word_at}
use Rattle.netlist.specs.declared.refusal.Refused.{Refused}
use Rattle.netlist.specs.Kinds.{is_input, is_held}
use Rattle.netlist.specs.Layout.{Design, design_of, role_at}
use Rattle.netlist.specs.Refusals.{leaves}
use Rattle.netlist.specs.declared.record.Role.{Role}
use Rattle.netlist.specs.declared.record.Role.TheVariants.{Input, Register}
use Rattle.netlist.proofs.PickedLaws.{Ranked, ranked, rank_lt}
use Rattle.netlist.proofs.RoleLaws.{new_held}
use Rattle.netlist.proofs.Tests.{by_test}
use Rattle.rules.specs.Check.{check_of}
use Rattle.care.specs.Least.{mask_at, masks_of}
use Rattle.care.proofs.Families.{below_or_not}
use Rattle.clock.specs.Call.{is_wide}
use Rattle.clock.proofs.CallLaws.{answer_fit, words_clear, clear_words}
use Rattle.clock.proofs.Promises.{passed}
use Rattle.trim.specs.Trimmed.{trim_design}
use Rattle.compact.specs.Part.{new_number, compacted}
use Rattle.compact.specs.Survivors.{is_blank, with_blanks, blanked, survives}
use Rattle.compact.proofs.BlankLaws.{width_stays}
use Rattle.compact.proofs.Compacted.{holds_part}
use Rattle.compact.proofs.PartLaws.{PartOf, width_part, role_part}
use Rattle.compact.proofs.SurvivorLaws.{input_port, cared_survives, surviving}
use Rattle.changeover.specs.Call.{change_over_call}
use Rattle.changeover.specs.Carried.{carried_word, carried_at, compact_board, new_list}
use Rattle.changeover.proofs.CallLaws.{fit_all, all_fit}
use Rattle.changeover.proofs.CarriedLaws.{input_whole, not_held, carried_was, carried_passes, length_board, length_new, new_front, new_beyond, board_word}

-- ---- when a call is accepted

-- the file is accepted, each list has a word for each record, and 12 applies to no word of the board list
pub record Accepts (file list board new : List ℕ) : Type 0 where
  pub count : ℕ
  pub checked : check_of file ≡ Ok count
  pub masks : length list ≡ count
  pub boards : length board ≡ count
  pub room : length new ≡ count
  pub clear : (i : ℕ) → i < (design_of file).count → is_wide (design_of file) board i ≡ false

module _ (file list board new : List ℕ) where
  pub accepts : (change_over_call file list board new).answer ≡ Ok tt → Accepts file list board new
  unfolding change_over_call
  accepts e =
      let p = passed _ _ _ e in
      let sizes = all_fit _ _ _ _ p.room in
      record {
        count = p.count;
        checked = p.checked;
        masks = sizes.0;
        boards = sizes.1.0;
        room = sizes.1.1;
        clear = words_clear (design_of file) board p.clear;
      }

  pub accepted_if : Accepts file list board new → (change_over_call file list board new).answer ≡ Ok tt
  unfolding change_over_call
  accepted_if a =
      answer_fit _ _ a.checked (fit_all _ _ _ _ a.masks a.boards a.room) ∙ clear_words (design_of file) board a.clear

-- ---- what it leaves

module _ (file list board new : List ℕ) (e : (change_over_call file list board new).answer ≡ Ok tt) where
  abbrev d : Design
  d = design_of file

  abbrev other : Design
  other = design_of (compacted file)

  abbrev m : List ℕ
  m = masks_of d

  abbrev a : Accepts file list board new
  a = accepts file list board new e

  -- "a mask list that it fills as trim does"
  pub fills : (change_over_call file list board new).list ≡ masks_of (design_of file)
  unfolding change_over_call
  fills = ap (λ (c : Result (Unit {0}) Refused). leaves (is_ok c) m list) e

  leaves_new : (change_over_call file list board new).new ≡ new_list d m board
  unfolding change_over_call
  leaves_new = ap (λ (c : Result (Unit {0}) Refused). leaves (is_ok c) (new_list d m board) new) e

  part : PartOf (survives d m) (blanked d m) other
  part = holds_part file a.count a.checked

  new_count : other.count ≡ new_number d m d.count
  unfolding blanked with_blanks trim_design
  new_count = part.count

  -- "a new list of n words"
  pub new_length : length (change_over_call file list board new).new ≡ (design_of file).count
  new_length = ap length leaves_new ∙ length_new d m board

  -- "whose first words, one for each record of the compacted file, become that file's board list"
  pub first_words : take (design_of (compacted file)).count (change_over_call file list board new).new ≡ compact_board (design_of file) (masks_of (design_of file)) board
  first_words = rw (new_count, leaves_new) (new_front d m board)

  pub one_each : length (take (design_of (compacted file)).count (change_over_call file list board new).new) ≡ (design_of (compacted file)).count
  one_each = ap length first_words ∙ length_board d m board ∙ sym new_count

  -- the word of a survivor, at its new number
  new_word : (i : ℕ) → i < d.count → survives d m i ≡ true → word_at (change_over_call file list board new).new (new_number d m i) ≡ carried_at d m board i
  new_word i h s =
      let l = rank_lt (survives d m) i d.count h s in
      sym (get_or-take other.count (change_over_call file list board new).new (new_number d m i) 0 (let q = new_count in omega arith))
      ∙ ap (λ (l : List ℕ). word_at l (new_number d m i)) first_words ∙ board_word d m board i h s

  module _ (i : ℕ) (h : i < (design_of file).count) where
    abbrev goes : Role → ℕ
    goes role = carried_word role (mask_at m i) (word_at board i)

    -- "at each record that is still a register, its state with the bits outside its mask cleared"
    pub state_goes : (b k : ℕ) → role_at (design_of file) i ≡ Register b k → mask_at (masks_of (design_of file)) i ≢ 0
        → word_at (change_over_call file list board new).new (new_number (design_of file) (masks_of (design_of file)) i)
        ≡ bit_and (word_at board i) (mask_at (masks_of (design_of file)) i)
    state_goes b k q c = new_word i h (cared_survives d m i c) ∙ carried_was d m i board ∙ ap goes q

    -- "input words go along unchanged"
    pub input_goes : role_at (design_of file) i ≡ Input
        → word_at (change_over_call file list board new).new (new_number (design_of file) (masks_of (design_of file)) i) ≡ word_at board i
    input_goes q =
        new_word i h ((surviving d m).ports i h (input_port (role_at d i) (ap is_input q))) ∙ carried_was d m i board ∙ ap goes q
        ∙ input_whole (mask_at m i) (word_at board i)

  -- "and all other words of the new list become 0": those at no new number of a record that is an input or still a register
  pub others_zero : (j : ℕ) → j < (design_of file).count
      → ((i : ℕ) → i < (design_of file).count → is_held (role_at (blanked (design_of file) (masks_of (design_of file))) i) ≡ true
      → new_number (design_of file) (masks_of (design_of file)) i ≢ j) → word_at (change_over_call file list board new).new j ≡ 0
  unfolding carried_at
  others_zero j h none = cases (below_or_not j (new_number d m d.count))
    where
      at_survivor : Ranked (survives d m) d.count j → word_at (change_over_call file list board new).new j ≡ 0
      at_survivor t =
          let i = t.place in
          subst (λ (k : ℕ). word_at (change_over_call file list board new).new k ≡ 0) t.rank
          (new_word i t.below t.picks
          ∙ not_held (role_at (blanked d m) i) (mask_at m i) (word_at board i)
          (by_test (is_held (role_at (blanked d m) i)) (λ q. absurd (none i t.below q t.rank)) (λ q. q)))

      cases : (j < new_number d m d.count) ⊎ (new_number d m d.count ≤ j) → word_at (change_over_call file list board new).new j ≡ 0
      cases (inl l) = at_survivor (ranked (survives d m) d.count j l)
      cases (inr l) = ap (λ (l : List ℕ). word_at l j) leaves_new ∙ new_beyond d m board j l h

  -- ---- 12 applies to no word of that board list

  survivor_passes : (i : ℕ) → i < d.count → survives d m i ≡ true → is_wide other (compact_board d m board) (new_number d m i) ≡ false
  unfolding blanked with_blanks trim_design
  survivor_passes i h s =
      rw (role_part part i h s, board_word d m board i h s, width_part part i h s, width_stays (is_blank d m) (trim_design d m) i)
      (ap (λ (held : Bool). held && not (ltb (carried_at d m board i) (2 ^ (d.at i).width))) (new_held (new_number d m) (role_at (blanked d m) i))
      ∙ carried_passes d m board i (d.at i).width (a.clear i h))

  pub goes_on : (r : ℕ) → r < (design_of (compacted file)).count
      → is_wide (design_of (compacted file)) (take (design_of (compacted file)).count (change_over_call file list board new).new) r ≡ false
  goes_on r l = rw first_words (at_survivor (ranked (survives d m) d.count r (let q = new_count in omega arith)))
    where
      at_survivor : Ranked (survives d m) d.count r → is_wide other (compact_board d m board) r ≡ false
      at_survivor t = subst (λ (k : ℕ). is_wide other (compact_board d m board) k ≡ false) t.rank (survivor_passes t.place t.below t.picks)

-- ---- a refused call: "No lent word or byte changes"

pub untouched : (file list board new : List ℕ) (r : Refused) → (change_over_call file list board new).answer ≡ Err r
    → ((change_over_call file list board new).list ≡ list) × ((change_over_call file list board new).new ≡ new)
unfolding change_over_call
untouched file list board new r e = (
  ap (λ (c : Result (Unit {0}) Refused). leaves (is_ok c) (masks_of (design_of file)) list) e,
  ap (λ (c : Result (Unit {0}) Refused). leaves (is_ok c) (new_list (design_of file) (masks_of (design_of file)) board) new) e,
)
