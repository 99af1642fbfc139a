-- Meeting s with the buses 1 to n is its remainder by 2 ^ (n + 1), since no word's set has bus 0.
use Rattle.busset.proofs.Members.{both-up_to}
use Rattle.busset.proofs.Words.{set-zero}
use Rattle.busset.proofs.BusSet.up_to.Goals as goal

pub returns : goal.returns
returns c = both-up_to c.all.ensures (set-zero _) c.both.ensures
