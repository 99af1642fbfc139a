-- A case that is read is valid, as `report` requires. The place of a refused input is a line of it, so it prints.
use native.Mathlib.Omega.{arith}
use Rattle.plan_input.proofs.Inputs.{asked_valid, asked_placed}
use Rattle.report_lines.proofs.Printed.{printed-by}
use Rattle.report_plan.proofs.plan_report.Goals as goal

pub report-requires : goal.report-requires
report-requires c = asked_valid _ c.in-Ok.ensures

pub print_refused-requires : goal.print_refused-requires
print_refused-requires c = omega (arith, asked_placed _ c.in-Err.ensures)

pub returns-in-Ok : goal.returns-in-Ok
returns-in-Ok c = printed-by (λ t p. rw (← c.in-Ok.ensures) p) _ _ _ c.report.ensures
