-- What document 01's two programs print, and what the planning program reads first.
use Rattle.std.specs.Prelude.{List, [], ◌∷◌, ◌++◌, ℕ, suc, ◌-◌, length, replicate, Option, Some, None, Result, Ok, Err}
use Prim.Native.String.{String}
use Rattle.text_field.specs.Split.{bytes, line_feed}
use Rattle.step.specs.declared.Step.{Step}
use Rattle.grid.specs.Limits.{most_bytes}
use Rattle.refusals.specs.declared.Refusal.{Refusal}
use Rattle.refusals.specs.declared.Refusal.TheVariants.{TextTooLong, WrongForm, OutOfRange, OutOfOrder, OverBudget, NoCover}
use Rattle.case_line.specs.declared.Record.{Record}
use Rattle.case_line.specs.declared.Record.TheVariants.{Pmu, End}
use Rattle.case_write.specs.Lines.{line_text}
use Rattle.report_lines.specs.Printing.{refused_text}
use Rattle.report_day.specs.Day.{verdict_fields, day_text}
use Rattle.plan_input.specs.Asking.{default_budget, budget_of, read_plan}
use Rattle.report_plan.specs.Plan.{plan_text}
use Rattle.plan_input.specs.declared.Asked.{Asked}
use Rattle.tables.specs.Starred.{drawn_case, seven}
use Rattle.tables.specs.Tables.{Right, Reads, Writes, said, block}
use Rattle.tables.specs.Drawings.{set, own, near, zero_at}
use Rattle.tables.specs.CaseTexts.{input}

-- ---- refusals

-- refusals, and the one line that is printed
abbrev pub refused_text_table : List (Refusal × String)
refused_text_table =
    (WrongForm 1, "refused\t2\t1\n")
    ∷ (TextTooLong, "refused\t1\t0\n")
    ∷ (OutOfOrder 320, "refused\t4\t320\n")
    ∷ (OverBudget 1, "refused\t10\t1\n")
    ∷ (NoCover, "refused\t11\t0\n")
    ∷ []

-- every row is right
abbrev pub RefusedTextsRight : Type 0
RefusedTextsRight = Writes refused_text refused_text_table

-- records, and the line of each, ended by a line feed
abbrev pub line_text_table : List (Record × String)
line_text_table = (Pmu 4, "pmu\t4\n") ∷ (End, "end\n") ∷ []

-- every row is right
abbrev pub LineTextsRight : Type 0
LineTextsRight = Writes line_text line_text_table

-- ---- the day report

-- document 01's output
abbrev pub output : List String
output = "observed 5 7" ∷ "step 2 N 3" ∷ "step 3 O" ∷ "step 1 Z 2" ∷ "step 4 N 3" ∷ "step 7 N 3" ∷ "xv no 1" ∷ "end" ∷ []

-- how many of how many buses are observed, the steps, and how many units are unconfirmed; and the report
abbrev pub day_text_table : List ((ℕ × ℕ × List Step × ℕ) × List ℕ)
day_text_table =
    ((5, 7, near 2 3 ∷ own 3 ∷ zero_at 1 2 ∷ near 4 3 ∷ near 7 3 ∷ [], 1), block output)
    ∷ ((0, 7, [], 0), bytes "observed\t0\t7\nxv\tyes\nend\n")
    ∷ ((1, 42, own 42 ∷ [], 12), bytes "observed\t1\t42\nstep\t42\tO\nxv\tno\t12\nend\n")
    ∷ []

-- every row is right
abbrev pub DayTextsRight : Type 0
DayTextsRight = Right (λ q. day_text q.0 q.1 q.2 q.3) day_text_table

-- how many units are unconfirmed, and the fields after `xv`
abbrev pub verdict_field_table : List (ℕ × List (List ℕ))
verdict_field_table = (0, bytes "yes" ∷ []) ∷ (1, bytes "no" ∷ bytes "1" ∷ []) ∷ (42, bytes "no" ∷ bytes "42" ∷ []) ∷ []

-- every row is right
abbrev pub VerdictFieldsRight : Type 0
VerdictFieldsRight = Right verdict_fields verdict_field_table

-- ---- the planning program

-- first lines, and the budget that each says
abbrev pub budget_table : List (String × Option ℕ)
budget_table =
    ("plan", Some default_budget)
    ∷ ("plan\t0", Some 0)
    ∷ ("plan\t8", Some 8)
    ∷ ("plan\t9", Some 9)
    ∷ ("plan\t9999", Some 9999)
    ∷ ("plan\t10000", None)
    ∷ ("plan\t00", None)
    ∷ ("plan\t", None)
    ∷ ("plan 8", None)
    ∷ ("plan\r", None)
    ∷ ("plan\t8\t8", None)
    ∷ ("Plan", None)
    ∷ ("", None)
    ∷ ("grid\t7", None)
    ∷ []

-- every row is right
abbrev pub BudgetsRight : Type 0
BudgetsRight = Reads budget_of budget_table

-- inputs, and what reading says: the case text's lines count from 2
abbrev pub input_table : List (List ℕ × Result (Unit {0}) Refusal)
input_table =
    (block ("plan 2" ∷ input), Ok tt)
    ∷ (block ("plan 9999" ∷ input), Ok tt)
    ∷ (bytes "", Err (WrongForm 1))
    ∷ (bytes "plan", Err (WrongForm 1))
    ∷ (block ("plan 00" ∷ input), Err (WrongForm 1))
    ∷ (block input, Err (WrongForm 1))
    ∷ (bytes "plan\n", Err (WrongForm 2))
    ∷ (bytes "plan\t9999\ngrid\t0\n", Err (OutOfRange 2))
    ∷ (bytes "plan\ngrid\t2\nbus\t2\tI\tY\n", Err (OutOfOrder 3))
    ∷ (block ("plan" ∷ input) ++ line_feed ∷ [], Err (WrongForm 18))
    ∷ []

-- every row is right
abbrev pub InputsRight : Type 0
InputsRight = Right (λ s. said (read_plan s)) input_table

-- inputs, and all that is asked: the budget and the case; a refusal has neither
abbrev pub asked_table : List (List ℕ × Result Asked Refusal)
asked_table =
    (block ("plan 2" ∷ input), Ok (record { budget = 2; case = drawn_case (seven (3 ∷ [])) }))
    ∷ (block ("plan" ∷ input), Ok (record { budget = default_budget; case = drawn_case (seven (3 ∷ [])) }))
    ∷ (bytes "plan\t\n", Err (WrongForm 1))
    ∷ []

-- every row is right
abbrev pub AskedRight : Type 0
AskedRight = Right read_plan asked_table

-- the whole input counts: how many bytes `plan` and line feeds are, and what reading says; the most, and one more
abbrev pub plan_limit_table : List (ℕ × Result (Unit {0}) Refusal)
plan_limit_table = (most_bytes, Err (WrongForm 2)) ∷ (suc most_bytes, Err TextTooLong) ∷ []

-- every row is right
abbrev pub PlanLimitsRight : Type 0
PlanLimitsRight = Right (λ k. said (read_plan (bytes "plan" ++ replicate (k - length (bytes "plan")) line_feed))) plan_limit_table

-- n and the added sites, and what is printed
abbrev pub plan_text_table : List ((ℕ × List ℕ) × String)
plan_text_table =
    ((7, 1 ∷ 4 ∷ []), "fewest\t2\npmu\t1\npmu\t4\nend\n")
    ∷ ((7, []), "fewest\t0\nend\n")
    ∷ ((10, 10 ∷ []), "fewest\t1\npmu\t10\nend\n")
    ∷ []

-- every row is right
abbrev pub PlanTextsRight : Type 0
PlanTextsRight = Writes (λ q. plan_text q.0 (set q.1)) plan_text_table
