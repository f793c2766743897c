-- The refusals and their numbers, what a refused call answers, and what it changes.
-- Assumes nothing.
use Rattle.std.specs.Prelude.{Bool, cond, ℕ}
use Rattle.netlist.specs.declared.refusal.Refusal.{Refusal}
use Rattle.netlist.specs.declared.refusal.Refused.{Refused}
use Rattle.netlist.specs.declared.refusal.Refusal.TheVariants.{TooShort, BadMark, BadVersion, TooManyRecords, BadLength, BadKind, BadWidth, BadOperand, BadWidthRule, UnusedBit, BadList, WideWord, BadDestination, BadMask, WideMultiplier}

-- "What is refused, in checking order": the numbers of that list.
abbrev pub number_of : Refusal → ℕ
number_of TooShort = 1
number_of BadMark = 2
number_of BadVersion = 3
number_of TooManyRecords = 4
number_of BadLength = 5
number_of BadKind = 6
number_of BadWidth = 7
number_of BadOperand = 8
number_of BadWidthRule = 9
number_of UnusedBit = 10
number_of BadList = 11
number_of WideWord = 12
number_of BadDestination = 13
number_of BadMask = 14
number_of WideMultiplier = 15

-- "The answer is the number and the record": a refusal, and the record that it is about.
abbrev pub refused : Refusal → ℕ → Refused
refused r i = record { refusal = r; at = i }

-- "No lent word or byte changes": a call leaves in a list lent to it what it writes if it is done, and else what was there.
abbrev pub leaves : {L : Type 0} → Bool → L → L → L
leaves done new old = cond done new old
