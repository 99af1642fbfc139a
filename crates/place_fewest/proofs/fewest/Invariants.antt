-- There is no way of fewer than k of the free sites, and the pool has groups of them.
use Rattle.busset.specs.Sets.{set_of}
use Rattle.grid.specs.Rows.{neighbours}
use Rattle.grid.specs.Cases.{grid_of}
use Rattle.place_light.specs.Ways.{direct}
use Rattle.place_light.proofs.Searching.{NoFewer}
use Rattle.place_pool.specs.Pool.{KeptGroups}
use Rattle.place_fewest.proofs.fewest.Given as goal

abbrev pub invariant-loop-k : goal.invariant-loop-k
invariant-loop-k l = NoFewer (grid_of l.case) (set_of l.free) l.k
    × KeptGroups (grid_of l.case) (direct (neighbours l.case.nbr)) (set_of l.free) l.pool.items
