-- The tables of case texts, step texts and printed texts: each is computed.
use mathlib.Core.Path.{refl, ap}
use mathlib.Core.List.{List}
use native.Mathlib.Omega.{arith}
use lib.ListN.{length, get_or}
use Rattle.step.specs.Records.{no_step}
use Rattle.step.specs.declared.Step.{Step}
use Rattle.text_field.specs.Split.{split, line_feed}
use Rattle.text_field.specs.Number.{digits}
use Rattle.grid.specs.Limits.{most_buses}
use Rattle.case_inverse.proofs.Grammars.{reads-read, read-reads}
use Rattle.case_read.specs.Reading.{start}
use Rattle.tables.proofs.Words.{case_text_words, case_words, report_words, step_text_words}
use Rattle.tables.proofs.Rows.{◌&◌, no_answer}
use Rattle.tables.specs.Tables.{AllRight, block}
use Rattle.tables.specs.Drawings.{own, near}
use Rattle.tables.specs.CaseTexts as case
use Rattle.tables.specs.StepTexts as steps
use Rattle.tables.specs.Reports as reports
use Rattle.tables.proofs.Deriving.{names_pass}

-- ---- case texts

pub cases-right : case.CasesRight
unfolding case_text_words
cases-right = refl

pub texts_right : case.CaseTextsRight
unfolding case_text_words
texts_right = refl

pub allowed-right : AllRight case.grammar_table
unfolding case_text_words
allowed-right =
    read-reads (split line_feed (block case.one_input)).rest start 1 (split line_feed (block case.one_input)).first case.one_case refl
    & (λ h. no_answer _ (reads-read start _ _ 1 (omega arith) h))
    & (λ h. no_answer _ (reads-read start _ _ 1 (omega arith) h))
    & tt

pub wired_right : case.WiredRight
unfolding case_words
wired_right = refl

pub whole-right : case.WholeTextsRight
unfolding case_text_words
whole-right = refl

pub bus_limits_right : case.BusLimitsRight
unfolding case_text_words
bus_limits_right = refl

pub later-right : case.LaterLinesRight
unfolding case_text_words
later-right = refl

pub case_limits_right : case.CaseLimitsRight
unfolding case_text_words
case_limits_right = refl

pub verdicts_right : case.JudgementsRight
unfolding case_text_words
verdicts_right = refl

-- ---- step texts

pub ranges_right : steps.StepRangesRight
unfolding step_text_words
ranges_right = refl

pub readings_right : steps.ReadStepsRight
unfolding step_text_words
readings_right = refl

pub beyond-right : steps.BeyondRight
unfolding step_text_words
beyond-right = refl

pub step_limits_right : steps.StepLimitsRight
unfolding step_text_words
step_limits_right = refl

pub lists-right : steps.StepsOfRight
unfolding step_text_words
lists-right = refl

pub found_right : AllRight steps.step_at_table
unfolding step_text_words
found_right =
    (names_pass most_buses (own 1) refl, (names_pass most_buses (near most_buses 1) refl, tt))
    & (λ h. omega (arith, h.1.0.reason.most))
    & record { steps = refl; later = omega arith; high = omega arith }
    & refl
    & (λ h. omega (arith, ap length h))
    & (λ h. omega (arith, ap (λ (xs : List Step). (get_or xs 0 no_step).bus) h.steps))
    & record { step = refl; rest = refl }
    & (λ h. omega (arith, ap length h.rest))
    & tt

pub rooms_right : steps.RoomsRight
rooms_right = refl

pub lefts_right : steps.LeavesRight
lefts_right = refl

-- ---- what is printed

pub refusals_right : reports.RefusedTextsRight
unfolding report_words
refusals_right = refl

pub lines-right : reports.LineTextsRight
unfolding report_words
lines-right = refl

pub days_right : reports.DayTextsRight
unfolding report_words
days_right = refl

pub xv_right : reports.VerdictFieldsRight
unfolding digits
xv_right = refl

-- ---- the planning program

pub budgets_right : reports.BudgetsRight
unfolding report_words
budgets_right = refl

pub inputs_right : reports.InputsRight
unfolding report_words
inputs_right = refl

pub asked-right : reports.AskedRight
unfolding report_words
asked-right = refl

pub plan_limits_right : reports.PlanLimitsRight
unfolding report_words
plan_limits_right = refl

pub plans_right : reports.PlanTextsRight
unfolding case_text_words
plans_right = refl
