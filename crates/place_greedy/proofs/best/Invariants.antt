-- No site passed lights more than `most` buses, and `site` is the lowest that lights `most`.
use Prim.Native.Nat.{ℕ}
use Rattle.busset.specs.Sets.{set_of, Minus}
use Rattle.rules.specs.Observation.{ObservedSet}
use Rattle.grid.specs.Cases.{bare_grid}
use Rattle.place_light.specs.Ways.{Whatever}
use Rattle.place_greedy.proofs.Comparing.{Compared}
use Rattle.place_greedy.proofs.best.Given as goal

abbrev pub invariant-loop-x : goal.invariant-loop-x
invariant-loop-x l = (n : ℕ) → Whatever (bare_grid n l.case.nbr l.case.zero) (λ g.
    Minus g.sites g.units (set_of l.fn.free) → ObservedSet g (set_of l.fn.s)
    → Compared g (set_of l.fn.s) (set_of l.x-iterator) l.most l.site)
