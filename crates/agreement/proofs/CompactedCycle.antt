-- A start and a cycle of a design, and those of its compacted design. The design with constants in the place of blanks stands between the two: it
-- follows the old one, and the compacted one is a part of it. Assumes nothing.
use mathlib.Core.Path.{◌≡◌, sym, ap, subst, ◌∙◌}
use mathlib.Core.Bool.{Bool, true}
use mathlib.Core.Logic.{◌≢◌, ◌⊎◌, inl, inr}
use mathlib.Core.List.{List}
use Prim.Native.Nat.{ℕ, ◌<◌}
use native.Mathlib.Omega.{arith}
use lib.ListN.{length}
use Rattle.endian.specs.Lists.{word_at, words_of}
use Rattle.endian.proofs.ListLaws.{length_words, words_of-word_at}
use Rattle.bits.specs.Masks.{Agree}
use Rattle.bits.proofs.Agreement.{agree_refl, agree_zero, agree_within}
use Rattle.bits.proofs.Order.{meet_left}
use Rattle.netlist.specs.Kinds.{is_input, is_output}
use Rattle.netlist.specs.Layout.{Design, role_at}
use Rattle.netlist.specs.Picked.{rank_of}
use Rattle.netlist.specs.declared.record.Role.{Role}
use Rattle.netlist.specs.declared.record.Role.TheVariants.{Register}
use Rattle.netlist.proofs.PickedLaws.{picked_same, same_picked}
use Rattle.netlist.proofs.RoleLaws.{output_role}
use Rattle.rules.specs.Sound.{Sound}
use Rattle.signal.specs.Asks.{demand_of}
use Rattle.care.specs.Least.{Closed, output_seed, mask_at}
use Rattle.care.proofs.Families.{same_or_not}
use Rattle.clock.specs.Values.{unchanged, put_word, with_inputs, values_of, next_of, start_of}
use Rattle.clock.proofs.InputLaws.{length_inputs, input_word}
use Rattle.trim.specs.Trimmed.{trim_design}
use Rattle.compact.specs.Survivors.{with_blanks, blanked, survives}
use Rattle.compact.proofs.PartLaws.{PartOf, part_below, role_part}
use Rattle.compact.proofs.Ports.{inputs_picked, outputs_picked}
use Rattle.compact.proofs.SurvivorLaws.{output_port, cared_survives, names_survive, surviving}
use Rattle.agreement.specs.Compacted.{pin_words, output_words}
use Rattle.agreement.specs.Scrambled.{plain, change_in}
use Rattle.agreement.proofs.Between.{Tied, tied_start, tied_next, held_agree}
use Rattle.agreement.proofs.Follow.{follows_blanked}
use Rattle.agreement.proofs.OneCycle.{AllClose, cycle_close}
use Rattle.agreement.proofs.PartCycle.{put_new, start_part, values_part, next_part}
use Rattle.agreement.proofs.ScrambleLaws.{gentle}
use Rattle.agreement.proofs.TwoRuns.{outputs_equal}

-- a list of the compacted file's, read at the new numbers: as many words as the old file has records
abbrev pub at_new : (ℕ → Bool) → ℕ → List ℕ → List ℕ
at_new test n list = words_of (λ i. word_at list (rank_of test i)) n

-- two board lists are tied by way of the new numbers
abbrev pub TiedAtNew : Design → List ℕ → List ℕ → List ℕ → Type 0
TiedAtNew d masks board board' = Tied d masks board (at_new (survives d masks) d.count board')

-- equal pin words in record order are equal at each input, by way of the new numbers
pub equal_pins : (d : Design) (masks : List ℕ) (e : Design) (p : PartOf (survives d masks) (blanked d masks) e) (words words' : ℕ → ℕ)
    → pin_words d words ≡ pin_words e words' → (i : ℕ) → i < d.count → is_input (role_at d i) ≡ true → words i ≡ words' (rank_of (survives d masks) i)
equal_pins d masks e p words words' pins =
    same_picked (λ i. is_input (role_at d i)) words (λ i. words' (rank_of (survives d masks) i)) d.count (pins ∙ inputs_picked d masks e p words')

module _ (d : Design) (sd : Sound d) (masks : List ℕ) (closed : Closed d (output_seed d) (mask_at masks)) (sb : Sound (blanked d masks))
    (e : Design) (se : Sound e) (p : PartOf (survives d masks) (blanked d masks) e) where
  abbrev b : Design
  b = blanked d masks

  abbrev new : ℕ → ℕ
  new = rank_of (survives d masks)

  -- lists that are the same at each survivor are tied alike, since a record that is not cared for has D 0
  pub tied_at_new : (board board'' board' : List ℕ) → Tied d masks board board''
      → ((i : ℕ) → i < d.count → survives d masks i ≡ true → word_at board'' i ≡ word_at board' (new i)) → TiedAtNew d masks board board'
  tied_at_new board board'' board' tied same = record { each = λ i a k h q. go i a k h q (same_or_not (mask_at masks i) 0) }
    where
      go : (i a k : ℕ) → i < d.count → role_at d i ≡ Register a k → (mask_at masks i ≡ 0) ⊎ (mask_at masks i ≢ 0)
          → Agree (demand_of (d.at i) (mask_at masks i)) (word_at board i) (word_at (at_new (survives d masks) d.count board') i)
      go i a k h q (inl z) = agree_within (meet_left (mask_at masks i) (d.at i).keep) (rw z (agree_zero _ _))
      go i a k h q (inr c) =
          subst (λ (w : ℕ). Agree (demand_of (d.at i) (mask_at masks i)) (word_at board i) w)
          (same i h (cared_survives d masks i c) ∙ sym (words_of-word_at (λ j. word_at board' (new j)) d.count i h)) (tied.each i a k h q)

  pub starts_at_new : TiedAtNew d masks (start_of d) (start_of e)
  unfolding blanked with_blanks trim_design
  starts_at_new =
      tied_at_new (start_of d) (start_of b) (start_of e) (tied_start d b masks (follows_blanked d masks))
      (start_part (survives d masks) b e sb se (names_survive d masks) p)

  -- one cycle of each
  module _ (words words' : ℕ → ℕ) (board board' : List ℕ) (size : length board ≡ d.count) (size' : length board' ≡ e.count)
      (tied : TiedAtNew d masks board board') (pins : pin_words d words ≡ pin_words e words') where
    -- the words at the inputs of the design between them, and its board
    abbrev words'' : ℕ → ℕ
    words'' i = words' (new i)

    abbrev board'' : List ℕ
    board'' = at_new (survives d masks) d.count board'

    size'' : length board'' ≡ d.count
    size'' = length_words _ d.count

    abbrev put : List ℕ
    put = with_inputs d words board

    abbrev put'' : List ℕ
    put'' = with_inputs b words'' board''

    abbrev put' : List ℕ
    put' = with_inputs e words' board'

    abbrev values : List ℕ
    values = values_of d unchanged put

    abbrev values'' : List ℕ
    values'' = values_of b unchanged put''

    abbrev values' : List ℕ
    values' = values_of e unchanged put'

    values_close : AllClose d (mask_at masks) values values''
    unfolding change_in blanked with_blanks trim_design
    values_close =
        cycle_close d b sd sb masks (output_seed d) closed (follows_blanked d masks) unchanged (gentle plain d masks 0) put put''
        (length_inputs d words board ∙ size) (length_inputs b words'' board'' ∙ size'')
        (held_agree d b masks (follows_blanked d masks) words words'' board board'' size size'' tied
        (λ i h q. rw (equal_pins d masks e p words words' pins i h (ap is_input q)) (agree_refl (mask_at masks i) (words' (new i)))))

    -- what stands on the boards at a survivor
    put_same : (i : ℕ) → i < d.count → survives d masks i ≡ true → word_at put'' i ≡ word_at put' (new i)
    unfolding blanked with_blanks trim_design
    put_same i h t =
        input_word b words'' board'' i (let l = size'' in omega arith)
        ∙ ap (put_word (role_at b i) (words'' i)) (words_of-word_at (λ j. word_at board' (new j)) d.count i h)
        ∙ sym (put_new new (role_at b i) (words'' i) (word_at board' (new i)))
        ∙ ap (λ (role : Role). put_word role (words'' i) (word_at board' (new i))) (sym (role_part p i h t))
        ∙ sym (input_word e words' board' (new i) (let l = part_below p i h t in omega arith))

    values_same : (i : ℕ) → i < d.count → survives d masks i ≡ true → word_at values'' i ≡ word_at values' (new i)
    unfolding blanked with_blanks trim_design
    values_same =
        values_part (survives d masks) b e sb se (names_survive d masks) p put'' put' (length_inputs b words'' board'' ∙ size'')
        (length_inputs e words' board' ∙ size') (λ i h t held. put_same i h t)

    -- the outputs are the same, and the next states are tied
    pub outputs_same : output_words d (values_of d unchanged (with_inputs d words board)) ≡ output_words e (values_of e unchanged (with_inputs e words' board'))
    outputs_same =
        picked_same (λ i. is_output (role_at d i)) _ _ d.count
        (λ i h q.
        outputs_equal d masks values values'' closed.seeded values_close i h (output_role (role_at d i) q)
        ∙ values_same i h ((surviving d masks).ports i h (output_port (role_at d i) q)))
        ∙ sym (outputs_picked d masks e p (word_at values'))

    pub next_at_new : TiedAtNew d masks (next_of d (values_of d unchanged (with_inputs d words board))) (next_of e (values_of e unchanged (with_inputs e words' board')))
    unfolding blanked with_blanks trim_design
    next_at_new =
        tied_at_new (next_of d values) (next_of b values'') (next_of e values')
        (tied_next d b masks (follows_blanked d masks) sd (output_seed d) closed values values'' values_close)
        (next_part (survives d masks) b e sb se (names_survive d masks) p values'' values' values_same)
