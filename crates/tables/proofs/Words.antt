-- What the proofs of tables compute with, written once: to name one of these on an `unfolding` line is to unfold all that its line names.
use Rattle.busset.specs.Sets.{add, meet, lack, less, up_to, set_of}
use Rattle.busset.specs.Held.{hold, word_of}
use lib.Count.{ones, ones_in}
use Rattle.busset.specs.Bytes.{byte_of, bytes_from}
use Rattle.grid.specs.Rows.{set_at, neighbours, circuits, with_bit, with_circuits, with_end, with_line}
use Rattle.rules.specs.Grids.{total}
use Rattle.rules.specs.Figures.{figure}
use Rattle.text_field.specs.Split.{split, join, after}
use Rattle.text_field.specs.Number.{number_from, numeral_of, digits}
use Rattle.case_line.specs.Fields.{mark_of, if_one_field, if_no_field}
use Rattle.case_line.specs.Record.{record_word_of, line_fields, bus_fields, record_of, record_text}
use Rattle.case_line.specs.CaseText.{bus_records, members, line_records, lines_text}
use Rattle.case_judge.specs.Judging.{is_bus, is_several, is_after, past_buses, judged}
use Rattle.case_read.specs.Reading.{read_lines, read_text, read_case}
use Rattle.step_line.specs.StepLine.{step_word_of, lettered_fields, reason_fields, step_fields, step_line_of, step_text}
use Rattle.step_text.specs.Steps.{step_in_range, step_lines, read_steps, steps_in, steps_from}
use Rattle.report_lines.specs.Printing.{refused_text}
use Rattle.case_write.specs.Lines.{line_text}
use Rattle.report_day.specs.Day.{steps_text}
use Rattle.plan_input.specs.Asking.{plan_fields, budget_of, read_plan}
use Rattle.round_calls.specs.Replies.{round_numbers}
use Rattle.report_rounds.specs.Rounds.{round_fields, round_lines}
use Rattle.tables.proofs.Tests.{within_test, above, sub_test, pick, closed_test, is_one}
use Rattle.tables.proofs.Drawn.{written_row, row_test, lines_test, valid_test}
use Rattle.tables.proofs.Deriving.{holds_test, accepted_test, least_test, reason_for, reason_at, step_for, pass_from, extended}
use Rattle.tables.proofs.Deriving.{derive, reason_test, allowed_test, no_unit, no_zero, no_reason, no_sooner, next_test, derived_test}
use Rattle.tables.proofs.Rounding.{rising_test, among_test, others_test, rounds_test}
use Rattle.tables.proofs.Sought.{confirm_test, alone_test, unconfirmed_test, no_better, best_test, none_test, greedy_test, sought_from}
use Rattle.tables.proofs.Sought.{judge, or_else, choose, seek, first_of, smallest}

-- sets of buses, and the words that hold them
unfoldable pub set_words : Type 0
unfolding add meet lack less up_to set_of hold word_of ones ones_in byte_of bytes_from
set_words = Unit {0}

-- case values and their grids
unfoldable pub case_words : Type 0
unfolding set_words set_at neighbours circuits with_bit with_circuits with_end with_line total figure
case_words = Unit {0}

-- fields and numbers
unfoldable pub field_words : Type 0
unfolding split join after number_from numeral_of digits mark_of if_one_field if_no_field
field_words = Unit {0}

-- case texts
unfoldable pub case_text_words : Type 0
unfolding case_words field_words record_word_of line_fields bus_fields record_of record_text is_bus is_several is_after past_buses judged
    read_lines read_text read_case bus_records members line_records lines_text
case_text_words = Unit {0}

-- step texts
unfoldable pub step_text_words : Type 0
unfolding field_words is_bus step_word_of lettered_fields reason_fields step_fields step_line_of step_text step_in_range step_lines
    read_steps steps_in steps_from
step_text_words = Unit {0}

-- what the programs read and print
unfoldable pub report_words : Type 0
unfolding case_text_words step_text_words refused_text line_text steps_text plan_fields budget_of read_plan round_numbers
    round_fields round_lines
report_words = Unit {0}

-- the tests of a valid case and of its observed set
unfoldable pub test_words : Type 0
unfolding case_words within_test above sub_test pick closed_test is_one written_row row_test lines_test valid_test holds_test
    accepted_test least_test reason_for reason_at step_for pass_from extended derive
test_words = Unit {0}

-- the tests of placing
unfoldable pub search_words : Type 0
unfolding test_words confirm_test alone_test unconfirmed_test no_better best_test none_test greedy_test sought_from judge or_else choose
    seek first_of smallest
search_words = Unit {0}

-- the tests of steps and of the derivation
unfoldable pub step_words : Type 0
unfolding case_words sub_test pick holds_test reason_test allowed_test no_unit no_zero no_reason no_sooner next_test derived_test
step_words = Unit {0}

-- the tests of rounds
unfoldable pub round_words : Type 0
unfolding step_words rising_test among_test others_test rounds_test
round_words = Unit {0}
