-- Each turn follows one step more.
use Rattle.list_follow.proofs.Going.{stands-more}
use Rattle.list_calls.proofs.follow.Goals as goal

pub loop-step-preserved : goal.loop-step-preserved
loop-step-preserved c =
    stands-more c.args.steps.now c.loop-step.step-index c.loop-step.invariant c.loop-step-test.true
    (c.apply-st.ensures c.args.case.now.site)
