-- What is refused, in checking order, and the answer of a check.
-- Assumes nothing.
use Rattle.std.specs.Prelude.{cond, List, [], ◌∷◌, ℕ, zero, suc, ◌+◌, ◌*◌, Result, Ok, Err, length}
use Rattle.netlist.specs.Kinds.{uses_of}
use Rattle.netlist.specs.Limits.{max_count, kind_count}
use Rattle.netlist.specs.Layout.{design_of, header_size, record_size, byte_at, version_of, count_of, code_at, fields_at}
use Rattle.netlist.specs.Rules.{Rule, equal, below, at_most, test_all}
use Rattle.netlist.specs.Refusals.{refused}
use Rattle.netlist.specs.declared.refusal.Refusal.{Refusal}
use Rattle.netlist.specs.declared.refusal.Refusal.TheVariants.{TooShort, BadMark, BadVersion, TooManyRecords, BadLength, BadKind, BadWidth, BadOperand, BadWidthRule, UnusedBit, WideMultiplier}
use Rattle.netlist.specs.declared.refusal.Refused.{Refused}
use Rattle.rules.specs.Fit.{width_range, operand_rules, width_rules_at, multiplier_rules, field_rules, word_rules}

-- 2: "The mark is not `PCN`, or byte 5 is not zero."
abbrev pub mark_rules : List ℕ → List Rule
mark_rules file = equal (byte_at file 0) 0x50 ∷ equal (byte_at file 1) 0x43 ∷ equal (byte_at file 2) 0x4e ∷ equal (byte_at file 5) 0 ∷ []

-- Rules 1 to 5, of the file as a whole: each refusal applies where its rules do not all hold. 1: "The file has fewer than 8 bytes." 2 as above.
-- 3: "The version is not 1." 4: "The count is above 2,048." 5: "The length is not 8 + 24 × n."
unfoldable pub header_rules : List ℕ → List (Refusal × List Rule)
header_rules file =
    (TooShort, at_most header_size (length file) ∷ [])
    ∷ (BadMark, mark_rules file)
    ∷ (BadVersion, equal (version_of file) 1 ∷ [])
    ∷ (TooManyRecords, at_most (count_of file) max_count ∷ [])
    ∷ (BadLength, equal (length file) (header_size + record_size * count_of file) ∷ [])
    ∷ []

-- "Numbers 6 to 10 are tried in turn within a record", with 15 "directly after 9". 6: "The kind is above 18." 7 to 10 and 15 are in `Fit`.
unfoldable pub record_rules : List ℕ → ℕ → List (Refusal × List Rule)
record_rules file i =
    let d = design_of file in
    (BadKind, below (code_at file i) kind_count ∷ [])
    ∷ (BadWidth, width_range (d.at i).width)
    ∷ (BadOperand, operand_rules d i)
    ∷ (BadWidthRule, width_rules_at d i)
    ∷ (WideMultiplier, multiplier_rules (d.at i).kind (d.at i).width)
    ∷ (UnusedBit, field_rules (fields_at file i) (uses_of (d.at i).kind))
    ∷ (UnusedBit, word_rules (d.at i))
    ∷ []

-- The first refusal whose rules do not all hold.
unfoldable pub first_broken : List (Refusal × List Rule) → Result (Unit {0}) Refusal
first_broken [] = Ok tt
first_broken (e ∷ es) = cond (test_all e.1) (first_broken es) (Err e.0)

-- "The answer is the number and the record": what a broken rule of record i answers, and else what comes next.
unfoldable pub refuse_at : ℕ → Result (Unit {0}) Refusal → Result ℕ Refused → Result ℕ Refused
refuse_at i (Ok kept) next = next
refuse_at i (Err r) next = Err (refused r i)

-- "and records in rising order": the records from i on, `left` of them.
unfoldable pub check_from : List ℕ → ℕ → ℕ → Result ℕ Refused
check_from file zero i = Ok (count_of file)
check_from file (suc left) i = refuse_at i (first_broken (record_rules file i)) (check_from file left (suc i))

-- The answer of check: "the record is 0 outside 6 to 10 and 12", of which 12 is no refusal of a file; 15 comes "with its record".
unfoldable pub check_of : List ℕ → Result ℕ Refused
check_of file = refuse_at 0 (first_broken (header_rules file)) (check_from file (count_of file) 0)
