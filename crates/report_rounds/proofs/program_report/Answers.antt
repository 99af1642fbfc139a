-- No rounds report is longer than the bytes lent, so it is never refused for its room.
use native.Mathlib.Omega.{arith}
use Rattle.report_lines.proofs.Printed.{always-printed}
use Rattle.report_rounds.proofs.Reports.{rounds-fits}
use Rattle.report_rounds.proofs.program_report.Goals as goal

pub returns : goal.returns
returns c = always-printed _ _ _ c.rounds_report.ensures (λ t p. omega (arith, rounds-fits _ t p)) c.unwrap_or.ensures
