-- The first steps, up to the next, are followed.
use lib.ListN.{length, take}
use Rattle.list_follow.specs.Following.{StandsAfter}
use Rattle.list_calls.proofs.follow.Given as goal

abbrev pub invariant-loop-step : goal.invariant-loop-step
invariant-loop-step l = StandsAfter l.case l.fn.task (length l.steps) (take l.step-index l.steps) l.st
