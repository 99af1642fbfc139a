-- The set holds s and no more than O2 gives. A sweep that changes it makes it larger, so that what it lacks of 64 buses falls.
use Prim.Native.Nat.{◌-◌}
use Rattle.busset.specs.Sets.{set_of, size, width}
use Rattle.grid.specs.Rows.{neighbours}
use Rattle.observe.proofs.Passing.{Spreading}
use Rattle.observe.proofs.set.spread.Given as goal

abbrev pub invariant-loop-r : goal.invariant-loop-r
invariant-loop-r l = Spreading (neighbours l.case.nbr) (set_of l.case.zero) (set_of l.fn.s) (set_of l.t)

abbrev pub decreases-loop-r : goal.decreases-loop-r
decreases-loop-r l = width - size (set_of l.t)
