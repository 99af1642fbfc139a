-- A list is finished if what O1 gives is observed, and a sweep of O2 changes nothing.
use Rattle.basics.proofs.Tests.{refutes}
use Rattle.busset.proofs.Words.{same-test}
use Rattle.list_follow.proofs.Ends.{finished_unless_started, finished_test}
use Rattle.list_follow.proofs.is_finished.Goals as goal

pub returns-then-not-is_subset : goal.returns-then-not-is_subset
returns-then-not-is_subset c n sites = finished_unless_started c.with_neighbours.ensures
    (refutes c.is_subset.ensures c.if-not-is_subset.true)

pub returns : goal.returns
returns c n sites = finished_test c.with_neighbours.ensures
    (c.is_subset.ensures.yes c.if-not-is_subset.false)
    c.sweep.ensures (same-test _ _ c.eq.ensures)
