-- What is printed for a case: the lines of the fewest, and the reply by what is found.
use mathlib.Core.Path.{◌≡◌}
use mathlib.Core.Logic.{inl, inr}
use mathlib.Core.List.{List, [], ◌∷◌}
use Prim.Native.Nat.{ℕ, ◌≤◌, ◌<◌}
use native.Mathlib.Omega.{arith}
use Rattle.grid.specs.Limits.{most_budget}
use Rattle.busset.specs.Sets.{Counted, width}
use Rattle.rules.specs.Placing.{SomeAddition, FewestSites}
use Rattle.rules.proofs.Ordering.{fewest-some}
use Rattle.text_field.specs.Split.{join, bytes, tab, line_feed}
use Rattle.text_field.specs.Number.{number_text}
use Rattle.case_line.specs.declared.Record.TheVariants.{Pmu}
use Rattle.grid.specs.Cases.{grid_of}
use Rattle.grid.specs.declared.Case.{Case}
use Rattle.refusals.specs.declared.Refusal.TheVariants.{OverBudget, NoCover}
use Rattle.refusals.proofs.Orders.{itself}
use Rattle.case_line.specs.CaseText.{members, lines_text}
use Rattle.text_put.specs.Put.{Put}
use Rattle.report_lines.specs.Printing.{printed_line, IsRefusedText}
use Rattle.text_put.proofs.Putting.{put_then}
use Rattle.report_plan.specs.Plan.{plan_text, IsPlanText, PlanReport}
use Rattle.report_plan.specs.Plan.PlanReport.{found, none}

-- the lines of the fewest, put one after another
pub plan_put : {l m₁ m₂ m₃ m₄ : List ℕ} {k₁ k₂ k₃ k₄ count sites : ℕ} (n : ℕ) → Counted width sites count
    → Put l 0 (join tab (bytes "fewest") (number_text count ∷ [])) m₁ k₁ → Put m₁ k₁ (line_feed ∷ []) m₂ k₂
    → Put m₂ k₂ (lines_text (members Pmu sites 1 n)) m₃ k₃ → Put m₃ k₃ (printed_line (bytes "end") []) m₄ k₄
    → Put l 0 (plan_text n sites) m₄ k₄
plan_put n c p q u e = rw (← c.is) (put_then (put_then p q) (put_then u e))

pub over-budget : {c : Case} {budget most : ℕ} → most ≡ most_budget c.n → most < budget → (t : List ℕ)
    → IsRefusedText (OverBudget 1) t → PlanReport c budget t
over-budget m h t e = none (OverBudget 1) (inl ((λ l. omega arith), itself (OverBudget 1))) e

-- what the search says, within the limit
module _ (c : Case) (budget : ℕ) {most : ℕ} (m : most ≡ most_budget c.n) (h : budget ≤ most) where
  pub no_cover : (SomeAddition (grid_of c) budget → ⊥) → (t : List ℕ) → IsRefusedText NoCover t → PlanReport c budget t
  no_cover missing t i = none NoCover (inr (omega arith, inl (missing, itself NoCover))) i

  pub fewest_found : {sites : ℕ} → FewestSites (grid_of c) budget sites → (t : List ℕ) → IsPlanText c.n sites t → PlanReport c budget t
  fewest_found f t i = found _ (omega arith, (fewest-some f, tt)) f i
