-- No more than k groups are apart, and what is said holds of every set of at most k of the sites that has one of each kept group which
-- the units do not meet.
use Prim.Native.Nat.{ℕ, ◌≤◌}
use Rattle.busset.specs.Sets.{Sub, size, set_of}
use Rattle.place_pool.specs.Asking.{MeetsKept, Says}
use Rattle.place_pool.proofs.ask_kept.Given as goal

abbrev pub invariant-loop-group : goal.invariant-loop-group
invariant-loop-group l = (l.a.apart ≤ l.k)
    × ((v : ℕ) → size v ≤ l.k → Sub v (set_of l.fn.sites) → MeetsKept l.pool.items (set_of l.fn.units) v → Says l.a v)
