-- A case that is read is valid, as `report` requires. The place of a refused text is a line of it, so it prints.
use mathlib.Core.Path.{refl}
use Rattle.case_inverse.proofs.Answers.{read-good, read-bad}
use Rattle.report_lines.proofs.Printed.{printed-by}
use Rattle.report_rounds.proofs.rounds_report.Goals as goal

pub report-requires : goal.report-requires
report-requires c = read-good _ c.in-Ok.ensures refl

pub print_refused-requires : goal.print_refused-requires
print_refused-requires c = read-bad _ c.in-Err.ensures refl

pub returns-in-Ok : goal.returns-in-Ok
returns-in-Ok c = printed-by (λ t p. rw (← c.in-Ok.ensures) p) _ _ _ c.report.ensures
