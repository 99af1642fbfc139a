-- From text to text: document 01's two programs, the four C functions, and the calls on step texts.
use Rattle.std.specs.Prelude.{true, List, [], ◌∷◌, ◌++◌, ℕ, suc, replicate, Ok, Err}
use Rattle.busset.specs.Bytes.{set_length, set_bytes}
use Rattle.text_field.specs.Split.{bytes}
use Rattle.refusals.specs.declared.Refusal.TheVariants.{WrongForm, OutOfRange, InvalidCase, NoRoom, NoSuchBus}
use Rattle.grid.specs.Limits.{largest_budget}
use Rattle.text_put.specs.Put.{Put}
use Rattle.report_lines.specs.Printing.{IsRefusedText, PrintedReply}
use Rattle.step_text.specs.Taking.{StepsReadReply}
use Rattle.report_day.specs.Day.{DayPrinted}
use Rattle.report_plan.specs.Plan.{PlanPrinted}
use Rattle.step_replay.specs.Replying.{TextReplayReply}
use Rattle.refusals.specs.declared.ReplayError.TheVariants as refused
use Rattle.estimator.specs.Answers.{ObservedFor, UnconfirmedFor, FewestFor, ReplayFor, OfText}
use Rattle.estimator_reply.specs.Results.{Answered}
use Rattle.tables.specs.Starred.{word_with}
use Rattle.tables.specs.Tables.{Row, holds, fails, block}
use Rattle.tables.specs.Drawings.{own, set_replayed}
use Rattle.tables.specs.CaseTexts.{input, bare_input}
use Rattle.tables.specs.StepTexts.{derivation_text}
use Rattle.tables.specs.Reports.{output}
use Rattle.tables.specs.Replies.{seven_case, bad_case}

-- ---- document 01's two programs

-- inputs of the day report, and what it prints
abbrev pub day_printed_table : List Row
day_printed_table =
    holds (DayPrinted (block input) (block output))
    ∷ holds (DayPrinted (block bare_input) (bytes "observed\t0\t7\nxv\tyes\nend\n"))
    ∷ fails (DayPrinted (block bare_input) (bytes "observed\t0\t7\nxv\tno\t0\nend\n"))
    -- a refusal is one line, and no report
    ∷ holds (DayPrinted (bytes "grid\t0\n") (bytes "refused\t3\t1\n"))
    ∷ fails (DayPrinted (bytes "grid\t0\n") (bytes "refused\t2\t1\n"))
    ∷ fails (DayPrinted (block input) (bytes "refused\t2\t1\n"))
    ∷ []

-- inputs of the planning program, and what it prints
abbrev pub plan_printed_table : List Row
plan_printed_table =
    holds (PlanPrinted (block ("plan 2" ∷ bare_input)) (bytes "fewest\t2\npmu\t1\npmu\t4\nend\n"))
    ∷ holds (PlanPrinted (block ("plan 1" ∷ bare_input)) (bytes "refused\t11\t0\n"))
    -- 10 at line 1, and never 11
    ∷ holds (PlanPrinted (block ("plan 9999" ∷ bare_input)) (bytes "refused\t10\t1\n"))
    ∷ fails (PlanPrinted (block ("plan 9999" ∷ bare_input)) (bytes "refused\t10\t0\n"))
    -- the case text comes before the budget
    ∷ holds (PlanPrinted (bytes "plan\t9999\ngrid\t0\n") (bytes "refused\t3\t2\n"))
    ∷ holds (PlanPrinted (bytes "plan\t\ngrid\t0\n") (bytes "refused\t2\t1\n"))
    ∷ []

-- ---- step texts

-- the case, the step text, and what replaying it answers
abbrev pub text_replay_table : List Row
text_replay_table =
    holds (TextReplayReply (seven_case (3 ∷ [])) derivation_text (Ok (set_replayed (1 ∷ 2 ∷ 3 ∷ 4 ∷ 7 ∷ []) true)))
    -- 9999 is refused in reading, 8 at the step
    ∷ holds (TextReplayReply (seven_case (3 ∷ [])) (bytes "step\t9999\tO\nend\n") (Err (refused.Text (OutOfRange 1))))
    ∷ holds (TextReplayReply (seven_case (3 ∷ [])) (bytes "step\t8\tO\nend\n") (Err (refused.List (NoSuchBus 1))))
    ∷ fails (TextReplayReply (seven_case (3 ∷ [])) (bytes "step\t8\tO\nend\n") (Err (refused.Text (NoSuchBus 1))))
    -- the whole text is read before step 1 is tried
    ∷ holds (TextReplayReply (seven_case (3 ∷ [])) (bytes "step\t8\tO\nstep\nend\n") (Err (refused.Text (WrongForm 2))))
    -- and before the case value is looked at
    ∷ holds (TextReplayReply bad_case (bytes "step\nend\n") (Err (refused.Text (WrongForm 1))))
    ∷ holds (TextReplayReply bad_case (bytes "end\n") (Err (refused.List InvalidCase)))
    ∷ []

-- the step text, the records before and after, and what reading it into them answers
abbrev pub steps_read_table : List Row
steps_read_table =
    holds (StepsReadReply (bytes "step\t3\tO\nend\n") (own 7 ∷ own 8 ∷ []) (own 3 ∷ own 8 ∷ []) (Ok 1))
    ∷ holds (StepsReadReply (bytes "step\t3\tO\nend\n") [] [] (Err NoRoom))
    ∷ holds (StepsReadReply (bytes "step\t3\tO\nstep\n") [] [] (Err (WrongForm 2)))
    ∷ holds (StepsReadReply (bytes "step\t3\tO\nstep\n") (own 7 ∷ []) (own 7 ∷ []) (Err (WrongForm 2)))
    ∷ fails (StepsReadReply (bytes "step\t3\tO\nstep\n") (own 7 ∷ []) (own 3 ∷ []) (Err (WrongForm 2)))
    ∷ []

-- ---- bytes lent

-- the line of refusal 2 at line 1 printed into bytes lent, and a text put into a buffer
abbrev pub print_table : List Row
print_table =
    holds (PrintedReply (IsRefusedText (WrongForm 1)) (replicate 14 7) (bytes "refused\t2\t1\n" ++ 7 ∷ 7 ∷ []) (Ok 12))
    ∷ holds (PrintedReply (IsRefusedText (WrongForm 1)) (replicate 11 7) (replicate 11 7) (Err NoRoom))
    ∷ fails (PrintedReply (IsRefusedText (WrongForm 1)) (replicate 12 7) (replicate 12 7) (Err NoRoom))
    ∷ holds (Put {A = ℕ} (1 ∷ 2 ∷ 3 ∷ []) 1 (9 ∷ []) (1 ∷ 9 ∷ 3 ∷ []) 2)
    -- what lies past the end is counted, and not written
    ∷ holds (Put {A = ℕ} (1 ∷ 2 ∷ 3 ∷ []) 2 (9 ∷ 8 ∷ []) (1 ∷ 2 ∷ 9 ∷ []) 4)
    ∷ fails (Put {A = ℕ} (1 ∷ 2 ∷ 3 ∷ []) 1 (9 ∷ []) (1 ∷ 2 ∷ 3 ∷ []) 2)
    ∷ []

-- ---- the four C functions

-- bytes lent, one more than a set has
abbrev pub lent : List ℕ
lent = replicate (suc set_length) 5

-- the same bytes after a set of these buses
abbrev pub left : List ℕ → List ℕ
left bs = set_bytes (word_with bs) ++ 5 ∷ []

-- the question, the bytes before and after, and the result
abbrev pub estimator_table : List Row
estimator_table =
    holds (Answered (OfText (block input) ObservedFor) lent (left (1 ∷ 2 ∷ 3 ∷ 4 ∷ 7 ∷ [])) 0)
    ∷ holds (Answered (OfText (block input) UnconfirmedFor) lent (left (3 ∷ [])) 0)
    ∷ holds (Answered (OfText (block bare_input) (FewestFor 2)) lent (left (1 ∷ 4 ∷ [])) 0)
    ∷ holds (Answered (OfText (block input) (ReplayFor derivation_text)) lent (left (1 ∷ 2 ∷ 3 ∷ 4 ∷ 7 ∷ [])) 0)
    -- refusals leave the bytes
    ∷ holds (Answered (OfText (bytes "") ObservedFor) lent lent 102)
    ∷ holds (Answered (OfText (block bare_input) (FewestFor 1)) lent lent 11)
    ∷ holds (Answered (OfText (block bare_input) (FewestFor (suc largest_budget))) lent lent 10)
    -- the case text comes before the budget, and before the step text
    ∷ holds (Answered (OfText (bytes "grid\t0\n") (FewestFor (suc largest_budget))) lent lent 103)
    ∷ holds (Answered (OfText (bytes "grid\t0\n") (ReplayFor (bytes "step\n"))) lent lent 103)
    -- 50 is added in reading the step text, and not at a step
    ∷ holds (Answered (OfText (block input) (ReplayFor (bytes "step\t9999\tO\nend\n"))) lent lent 153)
    ∷ holds (Answered (OfText (block input) (ReplayFor (bytes "step\t1\tZ\t2\nend\n"))) lent lent 109)
    -- fewer bytes than a set has are 6
    ∷ holds (Answered (OfText (block input) ObservedFor) (5 ∷ []) (5 ∷ []) 6)
    ∷ fails (Answered (OfText (bytes "") ObservedFor) (5 ∷ []) (5 ∷ []) 6)
    ∷ []
