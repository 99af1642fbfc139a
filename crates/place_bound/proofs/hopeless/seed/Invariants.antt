-- The pool has groups if it had, and s satisfies the rules with the units.
use Rattle.busset.specs.Sets.{set_of}
use Rattle.rules.specs.Observation.{Closed}
use Rattle.grid.specs.Cases.{bare_grid}
use Rattle.place_bound.specs.Branches.{Keeping}
use Rattle.place_bound.proofs.hopeless.seed.Given as goal

abbrev pub invariant-loop : goal.invariant-loop
invariant-loop l = Keeping (bare_grid l.case.n l.case.nbr l.case.zero) (set_of l.fn.free) (set_of l.fn.units)
    l.initial.pool.items l.pool.items (λ g. Closed g (set_of l.s))
