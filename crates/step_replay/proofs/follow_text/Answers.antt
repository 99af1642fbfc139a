-- Each turn follows one step more, and after a bad step the others change nothing.
use Rattle.step_replay.proofs.Onward.{onward_more, onward_bad}
use Rattle.step_replay.proofs.follow_text.Goals as goal

pub returns-in_default-standing : goal.returns-in_default-standing
returns-in_default-standing c = onward_bad c.requires.1 c.loop-taken.invariant c.in_default-standing.is

pub loop-taken-preserved : goal.loop-taken-preserved
loop-taken-preserved c =
    onward_more c.requires.1 c.loop-taken.invariant c.in-Some.ensures (c.apply-st.ensures c.args.case.now.site)
