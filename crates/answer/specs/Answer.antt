-- The 64-bit number that each call gives, for each case of an answer.
-- Assumes nothing.
use Rattle.std.specs.Prelude.{ℕ, ◌+◌, ◌*◌, ◌^◌, Result, Ok, Err}
use Rattle.netlist.specs.Refusals.{number_of}
use Rattle.netlist.specs.declared.refusal.Refused.{Refused}
use Rattle.care.specs.declared.Tally.{Tally}

-- "when refused, 2^63 + 2^32 × the refusal number + the record"
abbrev pub refused_answer : ℕ → ℕ → ℕ
refused_answer number i = 2 ^ 63 + 2 ^ 32 * number + i

-- The number of an answer, where `number` gives that of an accepted call.
abbrev pub answer_number : {A : Type 0} → (A → ℕ) → Result A Refused → ℕ
answer_number number (Ok accepted) = number accepted
answer_number number (Err r) = refused_answer (number_of r.refusal) r.at

-- "and 2^32 × the first tally number + the second for masks and trim"
abbrev pub tally_answer : Tally → ℕ
tally_answer t = 2 ^ 32 * t.widths + t.ones

abbrev pub tallied_answer : Result Tally Refused → ℕ
tallied_answer = answer_number tally_answer

-- "otherwise n for check", and #107: "the answer is the new length"
abbrev pub count_answer : ℕ → ℕ
count_answer n = n

abbrev pub check_answer : Result ℕ Refused → ℕ
check_answer = answer_number count_answer

abbrev pub written_answer : Result ℕ Refused → ℕ
written_answer = answer_number count_answer

-- 01 and 02 name no number for an accepted start, cycle or change over, which say only that they were accepted: 0.
abbrev pub done_answer : Unit {0} → ℕ
done_answer done = 0

abbrev pub clocked_answer : Result (Unit {0}) Refused → ℕ
clocked_answer = answer_number done_answer
