-- What is put whole is printed, and refusal 6 is for a text that has no room.
use Rattle.report_lines.proofs.Printed.{printed-whole}
use Rattle.report_lines.proofs.print.Goals as goal

pub returns : goal.returns
returns g c = λ text puts. printed-whole text _ _ _ (c.put_whole.ensures text puts) c.ok_or.ensures.value
