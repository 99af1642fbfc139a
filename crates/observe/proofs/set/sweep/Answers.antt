-- The Z buses of s that are not still to come have fired, with no more than O2 gives. If r is s, each had fired.
use Rattle.observe.proofs.Passing.{sweeping-more}
use Rattle.observe.proofs.set.sweep.Goals as goal

pub loop-w-preserved : goal.loop-w-preserved
loop-w-preserved c = sweeping-more c.loop-w.invariant c.in-Some.ensures.steps.0.has c.neighbours.ensures
    c.fire-r.ensures c.in-Some.ensures.steps.1
