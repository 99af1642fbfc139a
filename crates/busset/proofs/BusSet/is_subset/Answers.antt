-- s & !t is 0 exactly if no digit of s is above that of t.
use borrow.Author.Rules.{rules}
use Rattle.busset.specs.Sets.{width}
use Rattle.busset.proofs.Words.{subset_test}
use Rattle.busset.proofs.BusSet.is_subset.Goals as goal

pub returns : goal.returns
returns c = rw (← c.self.view_is, ← c.t.view_is) (subset_test width (search rules) (search rules))
