-- The board list that a compacted file goes on with, and the list that holds it. The sentences are those of #108.
-- Assumes nothing.
use Rattle.std.specs.Prelude.{List, ℕ}
use Rattle.std.specs.Int.Bits.{bit_and}
use Rattle.std.proofs.lemmas.List.Edits.{sets}
use Rattle.endian.specs.Lists.{word_at, words_of}
use Rattle.netlist.specs.Layout.{Design, role_at}
use Rattle.netlist.specs.Picked.{picked}
use Rattle.netlist.specs.declared.record.Role.{Role}
use Rattle.netlist.specs.declared.record.Role.TheVariants.{Input, Register, Output, Gate}
use Rattle.care.specs.Least.{mask_at}
use Rattle.compact.specs.Survivors.{blanked, survives}

-- "at each record that is still a register, its state with the bits outside its mask cleared; input words go along unchanged, and all other words
-- of the new list become 0"
abbrev pub carried_word : Role → ℕ → ℕ → ℕ
carried_word Input mask word = word
carried_word (Register a k) mask word = bit_and word mask
carried_word Output mask word = 0
carried_word Gate mask word = 0

-- What goes over for record i. "still a register": the role is that of what the record becomes, and a register with mask 0 becomes a constant.
unfoldable pub carried_at : Design → List ℕ → List ℕ → ℕ → ℕ
carried_at d masks board i = carried_word (role_at (blanked d masks) i) (mask_at masks i) (word_at board i)

-- "one for each record of the compacted file": the words of the survivors, in record order.
unfoldable pub compact_board : Design → List ℕ → List ℕ → List ℕ
compact_board d masks board = picked (survives d masks) (carried_at d masks board) d.count

-- "a new list of n words, whose first words .. become that file's board list", "and all other words of the new list become 0"
unfoldable pub new_list : Design → List ℕ → List ℕ → List ℕ
new_list d masks board = sets (words_of (λ i. 0) d.count) 0 (compact_board d masks board)
