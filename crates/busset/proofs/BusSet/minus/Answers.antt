-- Within the width !t is what t leaves of all ones. So each digit of s & !t is that of s less that of t.
use borrow.Author.Rules.{rules}
use Rattle.busset.specs.Sets.{width}
use Rattle.busset.proofs.Words.{minus_law}
use Rattle.busset.proofs.BusSet.minus.Goals as goal

pub returns : goal.returns
returns c = rw (← c.self.view_is, ← c.t.view_is) (minus_law width (search rules) (search rules))
