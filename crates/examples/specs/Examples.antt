-- The examples of 01 that are marked P: one table, each row from the bytes of a file; refused multipliers, a run, lists to trim by, compacted files and
-- boards that change over, as further ones.
-- Assumes nothing.
use Rattle.std.specs.Prelude.{List, [], ◌∷◌, ◌++◌, ℕ, length, Result, Ok, Err}
use Rattle.endian.specs.Bytes.{bytes}
use Rattle.endian.specs.Lists.{words_of}
use Rattle.bits.specs.Words.{low_mask}
use Rattle.netlist.specs.declared.refusal.Refused.{Refused}
use Rattle.netlist.specs.Layout.{count_of}
use Rattle.netlist.specs.Refusals.{number_of}
use Rattle.care.specs.declared.Tally.{Tally}
use Rattle.care.specs.Call.{masks_call}
use Rattle.clock.specs.Call.{cycle_call}
use Rattle.clock.specs.Values.{unchanged}
use Rattle.trim.specs.CallBy.{trim_by_call}
use Rattle.compact.specs.Call.{compact_call}
use Rattle.changeover.specs.Call.{change_over_call}
use Rattle.agreement.specs.Runs.{Call, start, cycle, Cycle, run_of, of_file, cycles_of}

-- The bytes of a record: kind, width, a, b, c, k and keep word. "All keep words are full unless stated."
abbrev kept : ℕ → ℕ → ℕ → ℕ → ℕ → ℕ → ℕ → List ℕ
kept kind w a b c k keep = kind ∷ w ∷ bytes 2 a ++ bytes 2 b ++ bytes 2 c ++ bytes 8 k ++ bytes 8 keep

abbrev full : ℕ → ℕ → ℕ → ℕ → ℕ → ℕ → List ℕ
full kind w a b c k = kept kind w a b c k (low_mask w)

-- The bytes of a file with these records.
abbrev joined : List (List ℕ) → List ℕ
joined [] = []
joined (l ∷ ls) = l ++ joined ls

abbrev file_with : List (List ℕ) → List ℕ
file_with records = 0x50 ∷ 0x43 ∷ 0x4e ∷ bytes 2 1 ++ (0 ∷ bytes 2 (length records)) ++ joined records

abbrev input : ℕ → List ℕ
input w = full 0 w 0 0 0 0

abbrev constant : ℕ → ℕ → List ℕ
constant w k = full 1 w 0 0 0 k

abbrev register : ℕ → ℕ → ℕ → List ℕ
register w a k = full 2 w a 0 0 k

abbrev output : ℕ → ℕ → List ℕ
output w a = full 3 w a 0 0 0

abbrev extract : ℕ → ℕ → ℕ → List ℕ
extract w a k = full 4 w a 0 0 k

abbrev concat : ℕ → ℕ → ℕ → List ℕ
concat w a b = full 5 w a b 0 0

abbrev mux : ℕ → ℕ → ℕ → ℕ → List ℕ
mux w a b c = full 9 w a b c 0

abbrev add : ℕ → ℕ → ℕ → List ℕ
add w a b = full 10 w a b 0 0

abbrev sub : ℕ → ℕ → ℕ → List ℕ
sub w a b = full 11 w a b 0 0

abbrev mul : ℕ → ℕ → ℕ → List ℕ
mul w a b = full 12 w a b 0 0

-- The files. A ramp has the width of its output and the k of its extract.
abbrev ramp : ℕ → ℕ → List ℕ
ramp w k = file_with (input 32 ∷ input 32 ∷ input 32 ∷ mul 32 0 1 ∷ add 32 3 2 ∷ extract w 4 k ∷ output w 5 ∷ [])

abbrev counter : List ℕ
counter = file_with (register 8 2 0 ∷ constant 8 1 ∷ add 8 0 1 ∷ [])

abbrev shift_chain : List ℕ
shift_chain = file_with (input 1 ∷ register 4 3 0 ∷ extract 3 1 1 ∷ concat 4 0 2 ∷ extract 1 1 0 ∷ output 1 4 ∷ [])

abbrev unread_mux : List ℕ
unread_mux = file_with (input 1 ∷ input 8 ∷ input 8 ∷ mux 8 0 1 2 ∷ [])

abbrev swapped : List ℕ
swapped = file_with (register 8 1 1 ∷ register 8 0 2 ∷ [])

abbrev difference : List ℕ
difference = file_with (constant 8 0 ∷ constant 8 1 ∷ sub 8 0 1 ∷ [])

abbrev square : ℕ → ℕ → List ℕ
square w k = file_with (constant w k ∷ mul w 0 0 ∷ [])

abbrev nibble : List ℕ
nibble = file_with (kept 0 8 0 0 0 0 0x0f ∷ [])

-- What `masks` prints of a file: n and the two tally numbers, and the mask of each record.
abbrev answer_of : Result Tally Refused → List ℕ
answer_of (Ok t) = t.widths ∷ t.ones ∷ []
answer_of (Err r) = number_of r.refusal ∷ r.at ∷ []

abbrev masks_say : List ℕ → List ℕ
masks_say file =
    let n = count_of file in
    let call = masks_call file (words_of (λ i. 0) n) in
    n ∷ (answer_of call.answer ++ call.list)

-- The values after a cycle on a board list, and the next list.
abbrev values_say : List ℕ → List ℕ → List ℕ
values_say file board = (cycle_call file board board).board

abbrev next_say : List ℕ → List ℕ → List ℕ
next_say file board = (cycle_call file board board).next

-- A row: what the definitions say, and what the paper says.
pub record Row : Type 0 where
  pub defined : List ℕ
  pub said : List ℕ

unfoldable pub table : List Row
table =
    record { defined = masks_say (ramp 16 0); said = 7 ∷ 192 ∷ 112 ∷ 0xffff ∷ 0xffff ∷ 0xffff ∷ 0xffff ∷ 0xffff ∷ 0xffff ∷ 0xffff ∷ [] }
    ∷ record { defined = masks_say (ramp 8 8); said = 7 ∷ 176 ∷ 88 ∷ 0xffff ∷ 0xffff ∷ 0xffff ∷ 0xffff ∷ 0xff00 ∷ 0xff ∷ 0xff ∷ [] }
    ∷ record { defined = masks_say counter; said = 3 ∷ 24 ∷ 0 ∷ 0 ∷ 0 ∷ 0 ∷ [] }
    ∷ record { defined = masks_say shift_chain; said = 6 ∷ 14 ∷ 14 ∷ 1 ∷ 0xf ∷ 7 ∷ 0xf ∷ 1 ∷ 1 ∷ [] }
    ∷ record { defined = masks_say unread_mux; said = 4 ∷ 25 ∷ 0 ∷ 0 ∷ 0 ∷ 0 ∷ 0 ∷ [] }
    ∷ record { defined = next_say swapped (1 ∷ 2 ∷ []); said = 2 ∷ 1 ∷ [] }
    ∷ record { defined = values_say difference (0 ∷ 0 ∷ 0 ∷ []); said = 0 ∷ 1 ∷ 255 ∷ [] }
    ∷ record { defined = values_say (square 32 0x10001) (0 ∷ 0 ∷ []); said = 0x10001 ∷ 131073 ∷ [] }
    ∷ record { defined = values_say nibble (0xab ∷ []); said = 0x0b ∷ [] }
    ∷ []

-- The two columns.
unfoldable pub defined_of : List Row → List (List ℕ)
defined_of [] = []
defined_of (row ∷ rows) = row.defined ∷ defined_of rows

unfoldable pub said_of : List Row → List (List ℕ)
said_of [] = []
said_of (row ∷ rows) = row.said ∷ said_of rows

-- Multipliers that are refused, by #106 and not in the table: "the 64-bit square in 01"; one of 33 bits with an operand of 32; one of 33 bits, and one of
-- 32, with a k that no multiplier uses.
unfoldable pub refused_multipliers : List (List ℕ)
refused_multipliers =
    masks_say (square 64 0x100000001)
    ∷ masks_say (file_with (constant 32 1 ∷ mul 33 0 0 ∷ []))
    ∷ masks_say (file_with (constant 33 1 ∷ full 12 33 0 0 0 7 ∷ []))
    ∷ masks_say (file_with (constant 32 1 ∷ full 12 32 0 0 0 7 ∷ []))
    ∷ []

-- A run of the swapped registers, not from 01: a start, a cycle that 11 refuses, and two cycles. The values of its accepted cycles.
abbrev values_in : List (Cycle (List ℕ)) → List (List ℕ)
values_in [] = []
values_in (c ∷ cs) = c.values ∷ values_in cs

unfoldable pub swapped_run : List (List ℕ)
swapped_run =
    let calls : List (Call (List ℕ)) = start ∷ cycle (λ i. 0) [] ∷ cycle (λ i. 0) (7 ∷ 7 ∷ []) ∷ cycle (λ i. 0) (0 ∷ 0 ∷ []) ∷ [] in
    values_in (cycles_of (run_of (of_file (λ j. unchanged) swapped) (9 ∷ 9 ∷ []) calls))

-- What trim_by answers for a file and a list, not from 01: the tally, or the refusal and its record.
abbrev list_says : List ℕ → List ℕ → List ℕ
list_says file list = answer_of (trim_by_call file list file).answer

-- The ramp by its smallest masks, and by all bits. Then the shift chain, whose smallest masks are 1, f, 7, f, 1, 1: the register lacks a bit that
-- record 2 asks for; record 3 lacks a bit that the register loads; the output lacks its own; the input has a bit beyond its width; and the last
-- two at once.
unfoldable pub list_answers : List (List ℕ)
list_answers =
    list_says (ramp 16 0) (0xffff ∷ 0xffff ∷ 0xffff ∷ 0xffff ∷ 0xffff ∷ 0xffff ∷ 0xffff ∷ [])
    ∷ list_says (ramp 16 0) (low_mask 32 ∷ low_mask 32 ∷ low_mask 32 ∷ low_mask 32 ∷ low_mask 32 ∷ 0xffff ∷ 0xffff ∷ [])
    ∷ list_says shift_chain (1 ∷ 7 ∷ 7 ∷ 0xf ∷ 1 ∷ 1 ∷ [])
    ∷ list_says shift_chain (1 ∷ 0xf ∷ 7 ∷ 7 ∷ 1 ∷ 1 ∷ [])
    ∷ list_says shift_chain (1 ∷ 0xf ∷ 7 ∷ 0xf ∷ 1 ∷ 0 ∷ [])
    ∷ list_says shift_chain (3 ∷ 0xf ∷ 7 ∷ 0xf ∷ 1 ∷ 1 ∷ [])
    ∷ list_says shift_chain (3 ∷ 0xf ∷ 7 ∷ 0xf ∷ 1 ∷ 0 ∷ [])
    ∷ []

-- What compact answers for a file, and then the destination that it leaves, not from 01. Before the call each byte of that is hex ee.
abbrev old : ℕ → List ℕ
old n = words_of (λ i. 0xee) n

abbrev length_of : Result ℕ Refused → List ℕ
length_of (Ok size) = size ∷ []
length_of (Err r) = number_of r.refusal ∷ r.at ∷ []

abbrev compact_says : List ℕ → List ℕ
compact_says file =
    let call = compact_call file (words_of (λ i. 0) (count_of file)) (old (length file)) in
    length_of call.answer ++ call.destination

-- An input that nobody reads; a register that only record 3 reads; 3, which only an output that keeps no bit reads; and a register that is read beside
-- a constant without a bit.
abbrev leftovers : List ℕ
leftovers =
    file_with (
    input 8
    ∷ input 8
    ∷ register 8 3 7
    ∷ add 8 2 1
    ∷ register 8 6 9
    ∷ constant 8 0
    ∷ full 6 8 4 5 0 0
    ∷ output 8 6
    ∷ kept 3 8 3 0 0 0 0
    ∷ output 8 1
    ∷ [])

-- What is left of it: the unread input keeps no bit, the register that only 3 reads is gone, and 3 and the other register are constants.
abbrev remainder : List ℕ
remainder =
    file_with (
    kept 0 8 0 0 0 0 0
    ∷ input 8
    ∷ kept 1 8 0 0 0 0 0
    ∷ kept 1 8 0 0 0 0 0
    ∷ constant 8 0
    ∷ full 6 8 3 4 0 0
    ∷ output 8 5
    ∷ kept 3 8 2 0 0 0 0
    ∷ output 8 1
    ∷ [])

-- Of the counter nothing is left, of the shift chain all.
unfoldable pub compact_answers : List (List ℕ)
compact_answers = compact_says counter ∷ compact_says shift_chain ∷ compact_says leftovers ∷ []

unfoldable pub compact_said : List (List ℕ)
compact_said = (8 ∷ (file_with [] ++ old 72)) ∷ (152 ∷ shift_chain) ∷ (224 ∷ (remainder ++ old 24)) ∷ []

-- What change_over answers for a file, a mask list and a board list, and then the new list that it leaves, not from 01. Before the call each word of that
-- is hex ee. An accepted call has no number.
abbrev accepted_of : Result (Unit {0}) Refused → List ℕ
accepted_of (Ok done) = []
accepted_of (Err r) = number_of r.refusal ∷ r.at ∷ []

abbrev change_says : List ℕ → List ℕ → List ℕ → List ℕ
change_says file list board =
    let call = change_over_call file list board (old (count_of file)) in
    accepted_of call.answer ++ call.new

-- A constant that nobody reads, and a register whose lower half is read.
abbrev half_read : List ℕ
half_read = file_with (constant 8 1 ∷ input 8 ∷ register 8 1 7 ∷ extract 4 2 0 ∷ output 4 3 ∷ [])

-- The board of that one; then with a pin's word that is too wide, and with a mask list that is too short as well. And the board of the leftovers.
unfoldable pub change_answers : List (List ℕ)
change_answers =
    change_says half_read (old 5) (1 ∷ 0xab ∷ 0xcd ∷ 2 ∷ 3 ∷ [])
    ∷ change_says half_read (old 5) (0x100 ∷ 0x1ab ∷ 0x1cd ∷ 2 ∷ 3 ∷ [])
    ∷ change_says half_read (old 4) (0x100 ∷ 0x1ab ∷ 0x1cd ∷ 2 ∷ 3 ∷ [])
    ∷ change_says leftovers (old 10) (0x12 ∷ 0x34 ∷ 0x56 ∷ 0x78 ∷ 0x9a ∷ 1 ∷ 2 ∷ 3 ∷ 4 ∷ 5 ∷ [])
    ∷ []

-- The word of the input goes along whole, and of the register the half that is read; of the leftovers only the two inputs have words that go along.
unfoldable pub change_said : List (List ℕ)
change_said =
    (0xab ∷ 0xd ∷ 0 ∷ 0 ∷ 0 ∷ [])
    ∷ (12 ∷ 1 ∷ old 5)
    ∷ (11 ∷ 0 ∷ old 5)
    ∷ (0x12 ∷ 0x34 ∷ 0 ∷ 0 ∷ 0 ∷ 0 ∷ 0 ∷ 0 ∷ 0 ∷ 0 ∷ [])
    ∷ []
