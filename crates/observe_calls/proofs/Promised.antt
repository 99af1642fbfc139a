-- Each call's own contract is its promise: it asks nothing of the caller, and what it tells of a reply is what the promise says.
use Rattle.refusals.specs.Calls.{Keeps}
use Rattle.observe_calls.specs.Replies.{observed_set_call, firing_figure_call, test_step_call}
use Rattle.observe_calls.proofs.observed_set.Reads as observed-set
use Rattle.observe_calls.proofs.firing_figure.Reads as firing_figure
use Rattle.observe_calls.proofs.test_step.Reads as test_step

pub observed-set-promised : Keeps observed_set_call (λ (c, _). c) (λ a. tt) (observed-set.Asked tt) (observed-set.Learnt tt)
observed-set-promised a = (tt, λ r b told. told)

pub firing_figure-promised : Keeps firing_figure_call (λ (c, (s, (i, (j, _)))). (c, s, i, j)) (λ a. tt)
    (firing_figure.Asked tt) (firing_figure.Learnt tt)
firing_figure-promised a = (tt, λ r b told. told)

pub test_step-promised : Keeps test_step_call (λ (c, (s, (x, _))). (c, s, x)) (λ a. tt) (test_step.Asked tt) (test_step.Learnt tt)
test_step-promised a = (tt, λ r b told. told)
