-- What the followed list answers, whatever n and the sites are: those of the case among them.
use Rattle.list_calls.proofs.replay.Goals as goal

pub returns : goal.returns
returns c = c.ended.ensures c.args.case.n c.args.case.site c.args.steps.now c.follow.ensures
