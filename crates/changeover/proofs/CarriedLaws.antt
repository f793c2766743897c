-- Laws of the words that go over: what goes over for each record, the words of the new list, and that none is too wide for a cycle.
-- Assumes nothing.
use mathlib.Core.Path.{◌≡◌, refl, sym, ap, ◌∙◌}
use mathlib.Core.Bool.{true, false, not}
use mathlib.Core.List.{List}
use mathlib.Core.Logic.{inr}
use Prim.Native.Nat.{ℕ, ◌^◌, ◌≤◌, ◌<◌}
use native.Mathlib.Omega.{arith}
use lib.Bits.{bit_and, and_zero_r}
use lib.Dec.{ltb}
use lib.ListN.{length, take}
use lib.Seq.{sets-eq, length-sets, take_at}
use borrow.Author.Tests.{lt-ltb, ltb-true, not-false}
use Rattle.endian.specs.Lists.{word_at, words_of}
use Rattle.endian.proofs.ListLaws.{length_words, words_of-word_at}
use Rattle.endian.proofs.Stores.{stored_outside}
use Rattle.bits.proofs.Order.{meet_left, within_lt}
use Rattle.netlist.specs.Kinds.{uses_of, is_held}
use Rattle.netlist.specs.Layout.{Design, role_at}
use Rattle.netlist.specs.declared.record.Kind.{Kind}
use Rattle.netlist.specs.declared.record.Record.{Record}
use Rattle.netlist.specs.declared.record.Role.{Role}
use Rattle.netlist.specs.declared.record.Role.TheVariants.{Input, Register, Output, Gate}
use Rattle.netlist.proofs.LowestLaws.{not_both}
use Rattle.netlist.proofs.PickedLaws.{length_picked, rank_le, at_rank}
use Rattle.netlist.proofs.Tests.{by_test}
use Rattle.care.specs.Least.{mask_at}
use Rattle.clock.specs.Call.{word_is_wide}
use Rattle.trim.specs.Trimmed.{trim_design}
use Rattle.compact.specs.Part.{new_number}
use Rattle.compact.specs.Survivors.{is_port, is_blank, blanked, survives}
use Rattle.compact.proofs.BlankLaws.{blank_here}
use Rattle.compact.proofs.SurvivorLaws.{blank_mask, blank_no_port, stays_kind, stays_survives}
use Rattle.changeover.specs.Carried.{carried_word, carried_at, compact_board, new_list}

-- ---- what goes over for one record

-- the word of an input as it is, and nothing where a cycle takes no word
pub input_whole : (mask word : ℕ) → carried_word Input mask word ≡ word
input_whole mask word = refl

pub not_held : (role : Role) (mask word : ℕ) → is_held role ≡ false → carried_word role mask word ≡ 0
not_held Input mask word n = cc
not_held (Register a k) mask word n = cc
not_held Output mask word n = refl
not_held Gate mask word n = refl

module _ (d : Design) (masks : List ℕ) (i : ℕ) where
  -- what a record becomes: a constant, or what it was
  pub blank_role : is_blank d masks i ≡ true → role_at (blanked d masks) i ≡ Gate
  unfolding blanked
  blank_role b = ap (λ (r : Record). (uses_of r.kind).role) (blank_here (is_blank d masks) (trim_design d masks) i b)

  pub stays_role : is_blank d masks i ≡ false → role_at (blanked d masks) i ≡ role_at d i
  stays_role b = ap (λ (k : Kind). (uses_of k).role) (stays_kind d masks i b)

  module _ (board : List ℕ) where
    abbrev carry : Role → ℕ
    carry role = carried_word role (mask_at masks i) (word_at board i)

    -- nothing goes over for a blank, whose mask is 0
    pub carried_blank : is_blank d masks i ≡ true → carried_at d masks board i ≡ 0
    unfolding carried_at
    carried_blank b = rw (blank_role b) refl

    was_blank : (role : Role) → mask_at masks i ≡ 0 → is_port role ≡ false → carried_word role (mask_at masks i) (word_at board i) ≡ 0
    was_blank Input m p = cc
    was_blank (Register a k) m p = ap (bit_and (word_at board i)) m ∙ and_zero_r (word_at board i)
    was_blank Output m p = cc
    was_blank Gate m p = refl

    -- so it is all one whether the role is that of before or after
    pub carried_was : carried_at d masks board i ≡ carried_word (role_at d i) (mask_at masks i) (word_at board i)
    unfolding carried_at
    carried_was =
        by_test (is_blank d masks i)
        (λ b. ap carry (blank_role b) ∙ sym (was_blank (role_at d i) (blank_mask d masks i b) (blank_no_port d masks i b)))
        (λ b. ap carry (stays_role b))

    -- and nothing goes over for a record that does not survive
    pub carried_none : survives d masks i ≡ false → carried_at d masks board i ≡ 0
    carried_none s = carried_blank (by_test (is_blank d masks i) (λ b. b) (λ b. not_both (stays_survives d masks i b) s))

-- ---- none is too wide

-- a state that is cut is no wider than it was
carried_narrow : (role : Role) (mask word w : ℕ) → word_is_wide role word w ≡ false → word_is_wide role (carried_word role mask word) w ≡ false
carried_narrow Input mask word w h = h
carried_narrow (Register a k) mask word w h =
    ap not (lt-ltb (bit_and word mask) (2 ^ w) (within_lt w (meet_left word mask) (ltb-true word (2 ^ w) (not-false (ltb word (2 ^ w)) h))))
carried_narrow Output mask word w h = refl
carried_narrow Gate mask word w h = refl

-- where a cycle would take the word of a record, one takes what goes over for it, by the role that it has then
pub carried_passes : (d : Design) (masks board : List ℕ) (i w : ℕ) → word_is_wide (role_at d i) (word_at board i) w ≡ false
    → word_is_wide (role_at (blanked d masks) i) (carried_at d masks board i) w ≡ false
unfolding carried_at
carried_passes d masks board i w h =
    carried_narrow (role_at (blanked d masks) i) (mask_at masks i) (word_at board i) w
    (by_test (is_blank d masks i)
    (λ b. ap (λ (role : Role). word_is_wide role (word_at board i) w) (blank_role d masks i b))
    (λ b. ap (λ (role : Role). word_is_wide role (word_at board i) w) (stays_role d masks i b) ∙ h))

-- ---- the lists

module _ (d : Design) (masks board : List ℕ) where
  -- "one for each record of the compacted file"
  pub length_board : length (compact_board d masks board) ≡ new_number d masks d.count
  unfolding compact_board
  length_board = length_picked (survives d masks) (carried_at d masks board) d.count

  board_fits : length (compact_board d masks board) ≤ d.count
  board_fits = let l = length_board in let r = rank_le (survives d masks) d.count in omega arith

  -- the words behind it are 0
  pub new_beyond : (p : ℕ) → new_number d masks d.count ≤ p → p < d.count → word_at (new_list d masks board) p ≡ 0
  unfolding new_list
  new_beyond p h g =
      stored_outside (compact_board d masks board) (words_of (λ i. 0) d.count) 0 p (inr (let l = length_board in omega arith))
      ∙ words_of-word_at (λ i. 0) d.count p g

  pub length_new : length (new_list d masks board) ≡ d.count
  unfolding new_list
  length_new = length-sets (words_of (λ i. 0) d.count) 0 (compact_board d masks board) ∙ length_words (λ i. 0) d.count

  -- its first words are that board list
  pub new_front : take (new_number d masks d.count) (new_list d masks board) ≡ compact_board d masks board
  unfolding new_list
  new_front =
      let l = length_words (λ i. 0) d.count in
      let f = board_fits in
      ap (take (new_number d masks d.count)) (sets-eq (compact_board d masks board) (words_of (λ i. 0) d.count) 0 (omega arith))
      ∙ take_at (compact_board d masks board) _ (new_number d masks d.count) length_board

  -- the word of a survivor stands at its new number
  pub board_word : (i : ℕ) → i < d.count → survives d masks i ≡ true → word_at (compact_board d masks board) (new_number d masks i) ≡ carried_at d masks board i
  unfolding compact_board
  board_word i h s = at_rank (survives d masks) (carried_at d masks board) d.count i h s
