-- The word is from 2 ^ j to below 2 ^ (j + 1), and j and the leading zeros make the width less one: the digit at j is 1, and none above is.
use native.Mathlib.Omega.{arith}
use lib.Count.{leading_le}
use borrow.Author.Rules.{rules}
use Rattle.busset.specs.Sets.{width}
use Rattle.busset.proofs.Words.{highest_law}
use Rattle.busset.proofs.BusSet.highest.Goals as goal

pub overflow_cast-result : goal.overflow_cast-result
overflow_cast-result c = omega (arith, leading_le width c.self.inside.0)

pub overflow_sub-result : goal.overflow_sub-result
overflow_sub-result c = omega (arith, leading_le width c.self.inside.0)

pub returns : goal.returns
returns c = rw (← c.self.view_is) (highest_law width c.self.inside.0 (rw (← c.self.view_is) at c.requires) (search rules))
