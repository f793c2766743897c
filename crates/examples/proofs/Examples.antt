-- The table of examples: what the definitions give is what the paper says, by computation.
-- Assumes nothing.
use mathlib.Core.Path.{◌≡◌, refl}
use mathlib.Core.List.{[], ◌∷◌}
use lib.Count.{ones_in}
use Rattle.endian.specs.Lists.{words_from, words_of, sum_to}
use Rattle.bits.specs.Words.{length_in}
use Rattle.netlist.specs.Kinds.{kind_of, operands_of, renumbered}
use Rattle.netlist.specs.Layout.{code_at, width_at, fields_at, keep_at, record_at, design_of}
use Rattle.netlist.specs.Lowest.{lowest_from}
use Rattle.netlist.specs.Picked.{picked}
use Rattle.rules.specs.Fit.{names_rules, operand_rules, width_rules_at, field_rules, word_rules}
use Rattle.rules.specs.Check.{header_rules, record_rules, first_broken, refuse_at, check_from, check_of}
use Rattle.rules.specs.Encode.{encode_record, encode_from, encode}
use Rattle.signal.specs.Results.{result_at}
use Rattle.signal.specs.Asks.{beside, asked}
use Rattle.care.specs.Call.{call_after, masks_call}
use Rattle.care.specs.Called.{called_for, is_faulty}
use Rattle.care.specs.Least.{grant, round_to, settle, least_above, masks_of}
use Rattle.clock.specs.Call.{answer_after, words_answer, start_call, cycle_with}
use Rattle.clock.specs.Values.{with_inputs, values_to, values_of, next_of, start_of}
use Rattle.trim.specs.Call.{trim_answer, trim_after}
use Rattle.trim.specs.CallBy.{after_trim, list_answer, trim_by_call}
use Rattle.trim.specs.Trimmed.{trim_design}
use Rattle.compact.specs.Call.{compact_answer, compact_after}
use Rattle.compact.specs.Part.{part, compact}
use Rattle.compact.specs.Survivors.{is_blank, with_blanks, blanked, survives}
use Rattle.changeover.specs.Call.{change_over_call}
use Rattle.changeover.specs.Carried.{carried_at, compact_board, new_list}
use Rattle.agreement.specs.Runs.{call_on, run_from, cycles_of}
use Rattle.examples.specs.Examples.{table, defined_of, said_of, refused_multipliers, swapped_run, list_answers, compact_answers, compact_said, change_answers, change_said}

pub examples : defined_of table ≡ said_of table
unfolding table defined_of said_of ones_in length_in words_from words_of sum_to kind_of operands_of code_at width_at fields_at keep_at record_at design_of
    header_rules names_rules operand_rules width_rules_at field_rules word_rules record_rules first_broken refuse_at check_from check_of asked result_at
    call_after masks_call grant round_to settle least_above masks_of answer_after lowest_from words_answer cycle_with values_to values_of next_of
examples = refl

-- 15 stands between 9 and 10 of its record
pub multiplier_examples : refused_multipliers ≡ (2 ∷ 15 ∷ 1 ∷ 0 ∷ 0 ∷ []) ∷ (2 ∷ 9 ∷ 1 ∷ 0 ∷ 0 ∷ []) ∷ (2 ∷ 15 ∷ 1 ∷ 0 ∷ 0 ∷ []) ∷ (2 ∷ 10 ∷ 1 ∷ 0 ∷ 0 ∷ []) ∷ []
unfolding refused_multipliers words_from words_of kind_of operands_of code_at width_at fields_at keep_at record_at design_of
    header_rules names_rules operand_rules width_rules_at field_rules word_rules record_rules first_broken refuse_at check_from check_of call_after masks_call
multiplier_examples = refl

-- runs compute, too: the registers exchange their values, and the refused call leaves no trace
pub run_example : swapped_run ≡ (1 ∷ 2 ∷ []) ∷ (2 ∷ 1 ∷ []) ∷ []
unfolding swapped_run run_from call_on cycles_of with_inputs start_call start_of words_from words_of kind_of operands_of code_at width_at fields_at keep_at record_at
    design_of header_rules names_rules operand_rules width_rules_at field_rules word_rules record_rules first_broken refuse_at check_from check_of result_at
    answer_after lowest_from words_answer cycle_with values_to values_of next_of
run_example = refl

-- and so do lists to trim by
pub list_examples : list_answers ≡ (192 ∷ 112 ∷ []) ∷ (192 ∷ 192 ∷ []) ∷ (14 ∷ 1 ∷ []) ∷ (14 ∷ 3 ∷ []) ∷ (14 ∷ 5 ∷ []) ∷ (14 ∷ 0 ∷ []) ∷ (14 ∷ 0 ∷ []) ∷ []
unfolding list_answers ones_in length_in words_from words_of sum_to kind_of operands_of code_at width_at fields_at keep_at record_at design_of
    header_rules names_rules operand_rules width_rules_at field_rules word_rules record_rules first_broken refuse_at check_from check_of asked
    call_after masks_call grant round_to lowest_from called_for is_faulty trim_answer trim_after after_trim list_answer trim_by_call
list_examples = refl

-- and compacted files
pub compact_examples : compact_answers ≡ compact_said
unfolding compact_answers compact_said ones_in length_in words_from words_of sum_to kind_of operands_of renumbered code_at width_at fields_at keep_at record_at design_of
    header_rules names_rules operand_rules width_rules_at field_rules word_rules record_rules first_broken refuse_at check_from check_of encode_record encode_from encode asked
    beside call_after masks_call grant round_to settle least_above masks_of lowest_from picked trim_answer trim_after trim_design is_blank with_blanks blanked survives part
    compact compact_answer compact_after
compact_examples = refl

-- and boards that change over
pub change_examples : change_answers ≡ change_said
unfolding change_answers change_said ones_in length_in words_from words_of sum_to kind_of operands_of code_at width_at fields_at keep_at record_at design_of
    header_rules names_rules operand_rules width_rules_at field_rules word_rules record_rules first_broken refuse_at check_from check_of asked
    beside grant round_to settle least_above masks_of lowest_from picked answer_after words_answer trim_design is_blank with_blanks blanked survives
    carried_at compact_board new_list change_over_call
change_examples = refl
