-- The set s is observed with the units placed, and what greedy still adds to them completes what it adds in all.
use mathlib.Core.Path.{◌≡◌}
use Prim.Native.Nat.{ℕ}
use lib.ListN.{length}
use Rattle.busset.specs.Sets.{set_of}
use Rattle.grid.specs.Cases.{grid_with}
use Rattle.place_greedy.proofs.Comparing.{Adding}
use Rattle.place_greedy.proofs.greedy.Given as goal

abbrev pub invariant-loop : goal.invariant-loop
invariant-loop l = (length l.sites.items ≡ l.counter)
    × ((n : ℕ) → Adding (grid_with n l.case.nbr l.case.zero l.case.site l.case.units) l.budget (set_of l.placed) (set_of l.s) l.sites.items)
