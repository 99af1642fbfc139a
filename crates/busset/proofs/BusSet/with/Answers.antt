-- 1 << (b - 1) has the digit b - 1 alone, and `|` keeps every other digit.
use Rattle.busset.specs.Sets.{width}
use Rattle.busset.proofs.Words.{with_law}
use Rattle.busset.proofs.BusSet.with.Goals as goal

pub returns : goal.returns
returns c = rw c.self.view_is (with_law width c.args.self c.requires)
