-- The words that a cycle begins with, its values, the states that follow it, and the states after a start.
-- Assumes nothing.
use Rattle.std.specs.Prelude.{List, ℕ, zero, suc, length, set}
use Rattle.std.specs.Int.Bits.{bit_and}
use Rattle.endian.specs.Lists.{word_at, words_of}
use Rattle.netlist.specs.Layout.{Design, role_at}
use Rattle.netlist.specs.declared.record.Role.{Role}
use Rattle.netlist.specs.declared.record.Role.TheVariants.{Input, Register, Output, Gate}
use Rattle.signal.specs.Results.{result_at}

-- "The board list has n words of 64 bits. Before a cycle it holds each pin's word at its input and each state at its register; other words
-- may be anything." A next list has n words too: the board list of the cycle that follows, before new words are put at the inputs.

-- "A cycle gets it with its own words put at the inputs".
abbrev pub put_word : Role → ℕ → ℕ → ℕ
put_word Input word old = word
put_word (Register a k) word old = old
put_word Output word old = old
put_word Gate word old = old

unfoldable pub with_inputs : Design → (ℕ → ℕ) → List ℕ → List ℕ
with_inputs d words board = words_of (λ i. put_word (role_at d i) (words i) (word_at board i)) (length board)

-- "The value of a signal is this result with the bits cleared where its keep word has 0."
abbrev pub value_at : Design → List ℕ → ℕ → ℕ
value_at d board i = bit_and (result_at d.at (word_at board) i) (d.at i).keep

-- What becomes of the value of a record right after it is worked out: a number for each record and value. In a plain cycle it
-- stays as it is.
abbrev pub unchanged : ℕ → ℕ → ℕ
unchanged i value = value

-- A board list once the records below i are worked out, in rising order, each value changed and put at its place.
unfoldable pub values_to : Design → (ℕ → ℕ → ℕ) → List ℕ → ℕ → List ℕ
values_to d change board zero = board
values_to d change board (suc i) =
    let below = values_to d change board i in
    set below i (change i (value_at d below i))

-- "After it, word i is the value of signal i."
unfoldable pub values_of : Design → (ℕ → ℕ → ℕ) → List ℕ → List ℕ
values_of d change board = values_to d change board d.count

-- "The next list gets, at each register, the value of its a, and 0 elsewhere. All registers change together."
abbrev pub next_word : List ℕ → Role → ℕ
next_word values Input = 0
next_word values (Register a k) = word_at values a
next_word values Output = 0
next_word values Gate = 0

unfoldable pub next_of : Design → List ℕ → List ℕ
next_of d values = words_of (λ i. next_word values (role_at d i)) d.count

-- The values and the next states of a plain cycle.
abbrev pub plain_values : Design → List ℕ → List ℕ
plain_values d board = values_of d unchanged board

abbrev pub plain_next : Design → List ℕ → List ℕ
plain_next d board = next_of d (plain_values d board)

-- "Start writes the reset states at the registers and 0 elsewhere in a board list."
abbrev pub start_word : Role → ℕ
start_word Input = 0
start_word (Register a k) = k
start_word Output = 0
start_word Gate = 0

unfoldable pub start_of : Design → List ℕ
start_of d = words_of (λ i. start_word (role_at d i)) d.count
