-- The Z buses of s that are not left have fired, with no more than O2 gives; fewer are left each turn. If r is s, each had fired.
use Rattle.busset.specs.Sets.{set_of}
use Rattle.grid.specs.Rows.{neighbours}
use Rattle.observe.proofs.Passing.{Sweeping}
use Rattle.observe.proofs.set.sweep.Given as goal

abbrev pub invariant-loop-w : goal.invariant-loop-w
invariant-loop-w l = Sweeping (neighbours l.case.nbr) (set_of l.case.zero) (set_of l.fn.s) (set_of l.r) (set_of l.w-iterator)
