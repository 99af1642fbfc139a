-- What falls is k plus the number of sites.
use Prim.Native.Nat.{◌+◌}
use Rattle.busset.specs.Sets.{Sub, set_of, size}
use Rattle.grid.specs.Cases.{bare_grid}
use Rattle.place_bound.specs.Branches.{Keeping, ToTry, Open}
use Rattle.place_bound.proofs.hopeless.+is_hopeless.Given as goal

abbrev pub decreases-is_hopeless : goal.decreases-is_hopeless
decreases-is_hopeless l = l.k + size (set_of l.sites)

-- every cover is some of the sites left, and has one of those still to try
abbrev pub invariant-loop-x : goal.invariant-loop-x
invariant-loop-x l =
    Sub (set_of l.left) (set_of l.fn.sites) × Open (set_of l.fn.sites) l.k (set_of l.x-iterator)
    × Keeping (bare_grid l.case.n l.case.nbr l.case.zero) (set_of l.free) (set_of l.units) l.fn.pool.items l.pool.items
    (λ g. ToTry g (set_of l.fn.sites) l.k (set_of l.left) (set_of l.x-iterator))
