-- Words put at the inputs: what stands at each place, and that words put there before make no difference.
-- Assumes nothing.
use mathlib.Core.Path.{◌≡◌, refl, sym, ap, ◌∙◌}
use mathlib.Core.List.{List}
use Prim.Native.Nat.{ℕ, ◌<◌}
use native.Mathlib.Omega.{arith}
use lib.ListN.{length}
use lib.Seq.{ext_get_or}
use Rattle.endian.specs.Lists.{word_at}
use Rattle.endian.proofs.ListLaws.{length_words, words_of-word_at}
use Rattle.netlist.specs.Layout.{Design, role_at}
use Rattle.netlist.specs.declared.record.Role.{Role}
use Rattle.netlist.specs.declared.record.Role.TheVariants.{Input, Register, Output, Gate}
use Rattle.clock.specs.Values.{put_word, with_inputs}

module _ (d : Design) (words : ℕ → ℕ) (board : List ℕ) where
  pub length_inputs : length (with_inputs d words board) ≡ length board
  unfolding with_inputs
  length_inputs = length_words _ (length board)

  pub input_word : (i : ℕ) → i < length board → word_at (with_inputs d words board) i ≡ put_word (role_at d i) (words i) (word_at board i)
  unfolding with_inputs
  input_word i h = words_of-word_at (λ j. put_word (role_at d j) (words j) (word_at board j)) (length board) i h

-- it is all one whether a refused cycle leaves its own words there
pub inputs_replaced : (d : Design) (words old : ℕ → ℕ) (board : List ℕ) → with_inputs d words (with_inputs d old board) ≡ with_inputs d words board
inputs_replaced d words old board =
    let inner = length_inputs d old board in
    let outer = length_inputs d words (with_inputs d old board) in
    ext_get_or 0 (with_inputs d words (with_inputs d old board)) (with_inputs d words board) (outer ∙ inner ∙ sym (length_inputs d words board))
    (λ i h.
    input_word d words (with_inputs d old board) i (omega arith)
    ∙ ap (put_word (role_at d i) (words i)) (input_word d old board i (omega arith))
    ∙ replaced (role_at d i) (words i) (old i) (word_at board i)
    ∙ sym (input_word d words board i (omega arith)))
  where
    replaced : (role : Role) (new old was : ℕ) → put_word role new (put_word role old was) ≡ put_word role new was
    replaced Input new old was = refl
    replaced (Register a k) new old was = refl
    replaced Output new old was = refl
    replaced Gate new old was = refl
