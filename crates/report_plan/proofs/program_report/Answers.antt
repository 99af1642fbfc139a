-- No plan report is longer than the 69 bytes lent, so it is never refused for its room.
use native.Mathlib.Omega.{arith}
use Rattle.report_lines.proofs.Printed.{always-printed}
use Rattle.report_plan.proofs.Lengths.{plan_fits}
use Rattle.report_plan.proofs.program_report.Goals as goal

pub returns : goal.returns
returns c = always-printed _ _ _ c.plan_report.ensures (λ t p. omega (arith, plan_fits _ t p)) c.unwrap_or.ensures
