-- The set r is `Shrunk` from c, and each trial unit keeps that.
use Rattle.busset.specs.Sets.{set_of}
use Rattle.grid.specs.Rows.{neighbours}
use Rattle.place_bound.specs.Shrinking.{Shrunk}
use Rattle.place_bound.proofs.groups.shrunk.Given as goal

abbrev pub invariant-loop-x : goal.invariant-loop-x
invariant-loop-x l = Shrunk l.case.n (neighbours l.case.nbr) (set_of l.case.zero) (set_of l.fn.c) (set_of l.r)
