-- Invariant: the first i records have the first i steps, and the steps of the text from `at` on are the others.
use Rattle.std.proofs.Common.{◌≡◌, drop}
use Rattle.step.specs.Records.{put_first}
use Rattle.step_text.specs.Steps.{steps_from, steps_of}
use Rattle.step_text.proofs.TakingLaws.{nth_step}
use Rattle.step_records.proofs.read_steps.Given as goal

abbrev pub invariant-loop-i : goal.invariant-loop-i
invariant-loop-i l = record {
  written : l.out ≡ put_first l.i (nth_step (steps_of l.text)) l.initial.out;
  rest : steps_from l.text l.at ≡ drop l.i (steps_of l.text);
}
