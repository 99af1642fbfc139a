-- No day report is longer than the 860 bytes lent, so it is never refused for its room.
use native.Mathlib.Omega.{arith}
use Rattle.report_lines.proofs.Printed.{always-printed}
use Rattle.report_day.proofs.Days.{day-fits}
use Rattle.report_day.proofs.program_report.Goals as goal

pub returns : goal.returns
returns c = always-printed _ _ _ c.day_report.ensures (λ t p. omega (arith, day-fits _ t p)) c.unwrap_or.ensures
