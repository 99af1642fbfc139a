-- The loop has gathered the neighbours of the buses that are not still to come.
use Rattle.busset.proofs.Words.{empty-set}
use Rattle.grid.proofs.Gathering.{gathered_none, gathered-more, gathered-all}
use Rattle.grid.proofs.Case.with_neighbours.Goals as goal

pub loop-b-init : goal.loop-b-init
loop-b-init c = rw c.into_iter-b-iterator.ensures.into_iter_gives (gathered_none _ _ (empty-set c.none-near.ensures))

pub loop-b-preserved : goal.loop-b-preserved
loop-b-preserved c = gathered-more c.loop-b.invariant c.in-Some.ensures.steps.0.has c.neighbours.ensures
    c.union-near.ensures c.in-Some.ensures.steps.1

pub returns : goal.returns
returns c = gathered-all c.loop-b.invariant c.in-None.ensures.steps.0 c.union.ensures
