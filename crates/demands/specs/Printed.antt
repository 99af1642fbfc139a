-- What the programs print, by document 01's table, and what the planning program's input is checked for.
use Rattle.std.specs.Prelude.{List, [], ◌∷◌, ◌⊎◌, ℕ, ◌≤◌, length, IsSome, Result, Ok, Err}
use Rattle.text_field.specs.Split.{split, line_feed}
use Rattle.rules.specs.Placing.{FewestSites}
use Rattle.grid.specs.declared.Case.{Case}
use Rattle.grid.specs.Limits.{most_bytes}
use Rattle.grid.specs.Cases.{grid_of}
use Rattle.refusals.specs.declared.Refusal.{Refusal}
use Rattle.refusals.specs.Refusals.{Check, check_that, Passed, Failed}
use Rattle.case_read.specs.Reading.{start}
use Rattle.case_read.specs.Checks.{line_checks}
use Rattle.report_lines.specs.Printing.{IsRefusedText}
use Rattle.plan_input.specs.Asking.{budget_of}
use Rattle.plan_input.specs.declared.Asked.{Asked}
use Rattle.report_plan.specs.Plan.{plan_checks, IsPlanText}
use Rattle.demands.specs.Order.{InTableOrder}

-- ---- what is printed

-- of what a program prints: the report where no row applies, and only the refusal's line where one does
pub record PrintedByTable (checks : List Check) (Report : Type 0) (t : List ℕ) : Type 0 where
  pub order : InTableOrder checks
  pub replies : Passed checks ⊎ ((q : Refusal) × Failed checks q)
  pub report : Passed checks → Report
  pub refused : (q : Refusal) → Failed checks q → IsRefusedText q t

-- t is the text of the fewest within the budget
abbrev pub FewestPrinted : Case → ℕ → List ℕ → Type 0
FewestPrinted c budget t = (sites : ℕ) × FewestSites (grid_of c) budget sites × IsPlanText c.n sites t

-- ---- the planning program's input

-- the plan line, which says a budget, or 2 at line 1, and then the case text's lines, which count from 2
abbrev pub plan_line_checks : List ℕ → List (List ℕ) → List Check
plan_line_checks l [] = check_that ⊥ 2 1 ∷ []
plan_line_checks l (m ∷ ms) = check_that (IsSome (budget_of l)) 2 1 ∷ line_checks start 2 m ms

-- 1 for the whole input, then the first bad line
abbrev pub input_checks : List ℕ → List Check
input_checks input = check_that (length input ≤ most_bytes) 1 0 ∷ plan_line_checks (split line_feed input).first
    (split line_feed input).rest

-- then what is checked of the case and the budget; where the input is refused, none is asked
abbrev pub asked_checks : Result Asked Refusal → List Check
asked_checks (Ok a) = plan_checks a.case a.budget
asked_checks (Err q) = []
