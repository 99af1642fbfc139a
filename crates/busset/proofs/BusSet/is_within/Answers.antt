-- A set is within 1 to n exactly if it is a subset of the buses 1 to n.
use Rattle.busset.proofs.Members.{within-test}
use Rattle.busset.proofs.BusSet.is_within.Goals as goal

pub returns : goal.returns
returns c = within-test _ c.all.ensures c.is_subset.ensures
