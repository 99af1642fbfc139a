-- Invariant: the lines of the steps that are still to come are left to put. The steps name buses, which bounds the whole text.
use Rattle.text_put.proofs.Left.{Left}
use Rattle.report_day.specs.Day.{steps_text}
use Rattle.report_day.proofs.Texts.{rest_steps}
use Rattle.report_day.proofs.lines.put_steps.Given as goal

abbrev pub invariant-loop-x : goal.invariant-loop-x
invariant-loop-x l = Left l.initial.out l.at (steps_text l.steps) l.out l.k (rest_steps l.steps l.x-index)
