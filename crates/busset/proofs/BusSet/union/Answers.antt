-- Each digit of s | t is the larger of the two digits.
use Rattle.busset.proofs.Words.{union_law}
use Rattle.busset.proofs.BusSet.union.Goals as goal

pub returns : goal.returns
returns c = rw (c.self.view_is, c.t.view_is) (union_law c.args.self c.args.t)
