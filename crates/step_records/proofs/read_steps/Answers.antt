-- Each turn takes the next of the text's steps and puts it in its place; there is room for as many as `check_room` counts.
use mathlib.Core.Path.{◌≡◌, ◌∙◌}
use native.Mathlib.Omega.{arith}
use Rattle.step.proofs.Records.{put_next}
use Rattle.step_text.specs.Steps.{steps_of}
use Rattle.step_text.specs.Taking.{count_read}
use Rattle.step_text.proofs.TakingLaws.{takes-next, read_law}
use Rattle.step_records.proofs.read_steps.Goals as goal

pub loop-i-preserved : goal.loop-i-preserved
loop-i-preserved c =
    let took = takes-next c.loop-i.i (steps_of c.args.text.now) c.loop-i.invariant.rest c.take-taken.ensures in
    record {
      written = rw c.loop-i.invariant.written (search (put_next, took.0));
      rest = took.1;
    }

pub returns : goal.returns
returns c =
    let law = read_law c.args.text.now c.args.out.now c.check_room-answer.result c.check_room-answer.ensures in
    let all : c.loop-i.i ≡ count_read c.check_room-answer.result = omega arith in
    (law.0, c.loop-i.invariant.written ∙ rw all law.1)
