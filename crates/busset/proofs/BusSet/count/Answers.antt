-- The number of ones in the word is the size of its set. It is at most the width, so the cast keeps it.
use native.Mathlib.Omega.{arith}
use lib.Count.{ones-le}
use borrow.Author.Rules.{rules}
use Rattle.busset.specs.Sets.{width}
use Rattle.busset.proofs.Words.{count_law}
use Rattle.busset.proofs.BusSet.count.Goals as goal

pub overflow_cast-result : goal.overflow_cast-result
overflow_cast-result c = omega (arith, ones-le width c.self.inside.0 (search rules))

pub returns : goal.returns
returns c = rw (← c.self.view_is) (record { is = count_law c.self.inside.0; most = ones-le width c.self.inside.0 (search rules) })
