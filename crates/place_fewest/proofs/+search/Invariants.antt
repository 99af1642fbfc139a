-- What falls is k plus the number of sites.
use mathlib.Core.Path.{◌≡◌}
use Prim.Native.Nat.{◌+◌}
use Rattle.busset.specs.Sets.{Sub, set_of, size}
use Rattle.grid.specs.Cases.{bare_grid}
use Rattle.place_light.proofs.Searching.{KeepsWays}
use Rattle.place_bound.specs.Branches.{Keeping}
use Rattle.place_fewest.proofs.+search.Given as goal

abbrev pub decreases-search : goal.decreases-search
decreases-search l = l.k + size (set_of l.sites)

-- the sites above the last are those still to come, and have every way of k of the sites
abbrev pub invariant-loop-x : goal.invariant-loop-x
invariant-loop-x l =
    (set_of l.above ≡ set_of l.x-iterator) × Sub (set_of l.above) (set_of l.fn.sites)
    × Keeping (bare_grid l.case.n l.case.nbr l.case.zero) (set_of l.free) (set_of l.units) l.fn.pool.items l.pool.items
    (λ g. KeepsWays g (set_of l.fn.sites) l.k (set_of l.above))
