-- Demand 1: every text, case value, list and budget gets a reply and the program ends;
-- each entry checks for itself, refuses only for the reasons in
-- document 01's table, and a refusal leaves the lent memory unaltered.
use Rattle.std.specs.Prelude.{List, ◌++◌, ℕ, IsOkAnd}
use Rattle.basics.specs.Lists.{Each}
use Rattle.case_read.specs.Reading.{read_case}
use Rattle.case_read.specs.Checks.{case_checks}
use Rattle.report_day.specs.Day.{DayReport, DayPrinted}
use Rattle.plan_input.specs.Asking.{read_plan}
use Rattle.report_plan.specs.Plan.{PlanPrinted}
use Rattle.report_rounds.specs.Rounds.{RoundsReport, RoundsPrinted}
use Rattle.demands.specs.Calls.{public_calls, EveryCall}
use Rattle.demands.specs.Promised.{EveryPromise}
use Rattle.demands.specs.ByTable.{AllByTable}
use Rattle.demands.specs.Printed.{PrintedByTable, FewestPrinted, input_checks, asked_checks}

pub record Demand1 (M : Type 1) : Type 2 where
  -- every input gets a reply, which its call's promise determines, and the call ends
  pub replies : EveryCall M
  -- every call's contract is its promise
  pub promised : EveryPromise
  -- a reply that a call's promise allows is by the table
  pub by_table : Each AllByTable public_calls
  -- and so is what the reports print
  pub day-printed : (text t : List ℕ) → DayPrinted text t
      → PrintedByTable (case_checks text) (IsOkAnd (read_case text) (λ c. DayReport c t)) t
  pub plan_printed : (input t : List ℕ) → PlanPrinted input t
      → PrintedByTable (input_checks input ++ asked_checks (read_plan input))
      (IsOkAnd (read_plan input) (λ a. FewestPrinted a.case a.budget t)) t
  pub rounds-printed : (text t : List ℕ) → RoundsPrinted text t
      → PrintedByTable (case_checks text) (IsOkAnd (read_case text) (λ c. RoundsReport c t)) t
