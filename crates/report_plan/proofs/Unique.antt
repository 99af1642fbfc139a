-- What the planning program asks for is one text.
use Rattle.std.specs.Prelude.{Result, Ok, Err}
use mathlib.Core.Path.{◌≡◌, sym, ap, ◌∙◌}
use mathlib.Core.List.{List}
use Prim.Native.Nat.{ℕ}
use Rattle.rules.proofs.Ordering.{fewest-set-unique}
use Rattle.grid.specs.declared.Case.{Case}
use Rattle.refusals.proofs.Orders.{failed-unique, failed_or_passed}
use Rattle.refusals.specs.declared.Refusal.{Refusal}
use Rattle.report_lines.specs.Printing.{refused_text}
use Rattle.report_plan.specs.Plan.{plan_checks, plan_text, PlanReport, PlanFor, PlanPrinted}
use Rattle.plan_input.specs.Asking.{read_plan}
use Rattle.plan_input.specs.declared.Asked.{Asked}
use Rattle.report_plan.specs.Plan.PlanReport.{found, none}

report-unique : (c : Case) (budget : ℕ) (s t : List ℕ) → PlanReport c budget s → PlanReport c budget t → s ≡ t
report-unique c budget s t (found m p f i) (found k q g j) = i ∙ ap (plan_text c.n) (fewest-set-unique f g) ∙ sym j
report-unique c budget s t (found m p f i) (none r q j) = absurd (failed_or_passed (plan_checks c budget) r q p)
report-unique c budget s t (none r p i) (found m q g j) = absurd (failed_or_passed (plan_checks c budget) r p q)
report-unique c budget s t (none r p i) (none k q j) = i ∙ ap refused_text (failed-unique (plan_checks c budget) r k p q) ∙ sym j

pub plan_unique : (input s t : List ℕ) → PlanPrinted input s → PlanPrinted input t → s ≡ t
plan_unique input s t = go (read_plan input)
  where
    go : (r : Result Asked Refusal) → PlanFor r s → PlanFor r t → s ≡ t
    go (Ok a) p q = report-unique a.case a.budget s t p q
    go (Err r) p q = p ∙ sym q
