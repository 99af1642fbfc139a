-- What the planning program prints.
use Rattle.std.specs.Prelude.{◌≡◌, List, [], ◌∷◌, ◌++◌, ℕ, ◌+◌, ◌*◌, ◌≤◌, Result, Ok, Err}
use Rattle.busset.specs.Sets.{size}
use Rattle.rules.specs.Placing.{SomeAddition, FewestSites}
use Rattle.text_field.specs.Split.{bytes}
use Rattle.text_field.specs.Number.{number_text}
use Rattle.case_line.specs.declared.Record.TheVariants.{Pmu}
use Rattle.grid.specs.declared.Case.{Case}
use Rattle.refusals.specs.declared.Refusal.{Refusal}
use Rattle.grid.specs.Limits.{largest_budget, most_budget}
use Rattle.grid.specs.Cases.{grid_of}
use Rattle.refusals.specs.Refusals.{Check, check_that, Passed, Failed}
use Rattle.refusals.specs.Calls.{Call}
use Rattle.case_line.specs.CaseText.{members, lines_text}
use Rattle.report_lines.specs.Printing.{printed_line, IsRefusedText, printing_call}
use Rattle.plan_input.specs.Asking.{read_plan}
use Rattle.plan_input.specs.declared.Asked.{Asked}

-- the budget is at most the grid's limit, or 10 at line 1; some addition within it covers, or 11
abbrev pub plan_checks : Case → ℕ → List Check
plan_checks c budget = check_that (budget ≤ most_budget c.n) 10 1 ∷ check_that (SomeAddition (grid_of c) budget) 11 0 ∷ []

-- `fewest count`, one `pmu` line for each added site, and `end`
abbrev pub plan_text : ℕ → ℕ → List ℕ
plan_text n sites =
    printed_line (bytes "fewest") (number_text (size sites) ∷ []) ++ (lines_text (members Pmu sites 1 n) ++ printed_line (bytes "end") [])

-- t is that text
abbrev pub IsPlanText : ℕ → ℕ → List ℕ → Type 0
IsPlanText n sites t = t ≡ plan_text n sites

-- the most bytes of a reply: 7 for each added site, and 13 for the other lines
abbrev pub plan_room : ℕ
plan_room = 13 + 7 * largest_budget

-- t is what is printed for the fewest of the case c within the budget
pub data PlanReport (c : Case) (budget : ℕ) (t : List ℕ) : Type 0 where
  found : (sites : ℕ) → Passed (plan_checks c budget) → FewestSites (grid_of c) budget sites → IsPlanText c.n sites t
      → PlanReport c budget t
  none : (q : Refusal) → Failed (plan_checks c budget) q → IsRefusedText q t → PlanReport c budget t

-- by what reading says: the report, or the refusal
abbrev pub PlanFor : Result Asked Refusal → List ℕ → Type 0
PlanFor (Ok a) t = PlanReport a.case a.budget t
PlanFor (Err q) t = IsRefusedText q t

-- t is what the planning program prints for the input
abbrev pub PlanPrinted : List ℕ → List ℕ → Type 0
PlanPrinted input t = PlanFor (read_plan input) t

-- `plan_report`
abbrev pub plan_report_call : Call
plan_report_call = printing_call PlanPrinted
