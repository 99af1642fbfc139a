-- The fields are those of `step_text`. Where the reason names no bus, its letter and the line feed are put as one.
use mathlib.Core.Path.{sym}
use native.Mathlib.Omega.{arith}
use Rattle.text_field.specs.Split.{join}
use Rattle.text_field.proofs.Digits.{text_length}
use Rattle.text_put.proofs.Putting.{put_then, put_same}
use Rattle.step_line.specs.StepLine.{step_text}
use Rattle.step_line.proofs.StepLines.{letter_ends}
use Rattle.step_line.proofs.put.put_step.Goals as goal

pub put_all-requires : goal.put_all-requires
put_all-requires c = omega (arith, c.put_tagged-a.ensures.next, text_length c.args.x.bus)

pub returns-in-None : goal.returns-in-None
returns-in-None c =
    put_same (sym (rw (← c.letter-l.ensures) at (letter_ends c.args.x (sym c.in-None.ensures))))
    (put_then c.put_tagged-a.ensures c.put_all.ensures)

pub returns-in-Some : goal.returns-in-Some
unfolding step_text join
returns-in-Some c = grind arith
