-- Three exits: the budget is over its limit, the search has the fewest, or it has that no plan is within the budget.
use borrow.Author.Rules.{rules}
use Rattle.busset.specs.Sets.{set_of}
use Rattle.report_lines.proofs.Printed.{printed-by}
use Rattle.report_plan.specs.Plan.{plan_text}
use Rattle.report_plan.proofs.Reports.{over-budget, no_cover, fewest_found}
use Rattle.report_plan.proofs.report.Goals as goal

pub returns-then-most_budget-budget : goal.returns-then-most_budget-budget
returns-then-most_budget-budget c = search (printed-by, over-budget)

pub returns-in-Some : goal.returns-in-Some
returns-in-Some c =
    printed-by (fewest_found _ _ c.most_budget.ensures c.if-most_budget-budget.false c.in-Some.ensures) _ _ _
    (c.print.ensures (plan_text c.args.case.now.n (set_of c.in-Some.sites)) (λ lent left k told. search rules))

pub returns-in-None : goal.returns-in-None
returns-in-None c =
    printed-by (no_cover _ _ c.most_budget.ensures c.if-most_budget-budget.false c.in-None.ensures) _ _ _
    c.print_refused-in-None.ensures
