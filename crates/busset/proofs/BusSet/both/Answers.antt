-- Each digit of s & t is the smaller of the two digits.
use Rattle.busset.proofs.Words.{both_law}
use Rattle.busset.proofs.BusSet.both.Goals as goal

pub returns : goal.returns
returns c = rw (c.self.view_is, c.t.view_is) (both_law c.args.self c.args.t)
