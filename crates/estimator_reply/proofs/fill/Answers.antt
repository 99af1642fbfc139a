-- Invariant: the first i bytes are those of the set, and the others are as lent.
use native.Mathlib.Omega.{arith}
use Rattle.estimator_reply.proofs.Filling.{filled_more, filled-all}
use Rattle.estimator_reply.proofs.fill.Goals as goal

pub loop-i-preserved : goal.loop-i-preserved
loop-i-preserved c = filled_more c.args.s c.loop-i.invariant (omega arith) c.requires c.byte_of.ensures

pub returns : goal.returns
returns c = filled-all c.args.s c.loop-i.invariant (omega arith)
