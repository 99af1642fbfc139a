-- Below the first one every digit is 0. A word that is not 0 has fewer trailing zeros than its width.
use native.Mathlib.Omega.{arith}
use borrow.Author.Rules.{rules}
use Rattle.busset.specs.Sets.{width}
use Rattle.busset.proofs.Words.{lowest_law}
use Rattle.busset.proofs.BusSet.lowest.Goals as goal

pub overflow_cast-result : goal.overflow_cast-result
overflow_cast-result c = omega (arith, (lowest_law width c.self.inside.0 (rw (← c.self.view_is) at c.requires) (search rules)).bus.most)

pub overflow_add-result : goal.overflow_add-result
overflow_add-result c = omega (arith, (lowest_law width c.self.inside.0 (rw (← c.self.view_is) at c.requires) (search rules)).bus.most)

pub returns : goal.returns
returns c = rw (← c.self.view_is) (lowest_law width c.self.inside.0 (rw (← c.self.view_is) at c.requires) (search rules))
