-- The set is that of the reply of `replay_text`, which meets its own promise.
use borrow.Author.Rules.{rules}
use Rattle.estimator.proofs.answers.replay.Goals as goal

pub returns : goal.returns
returns c = rw (← c.in_ok-case.ensures) (c.in_ok-replay_text.field-0.finished, search rules)
