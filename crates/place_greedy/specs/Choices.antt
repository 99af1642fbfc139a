-- What the steps of greedy promise.
use Rattle.std.specs.Prelude.{ℕ, Option, Some, None}
use Rattle.busset.specs.Sets.{Minus}
use Rattle.rules.specs.Grids.{Grid}
use Rattle.rules.specs.Observation.{ObservedSet}
use Rattle.place_light.specs.Ways.{Whatever}
use Rattle.rules.specs.Choosing.{Best, NoneAdds}

-- the best site, or none where none adds a bus
abbrev pub ChosenIs : Grid → Option ℕ → Type 0
ChosenIs g None = NoneAdds g
ChosenIs g (Some x) = Best g x

-- r is the best site of every grid with the buses, lines and Z buses of g in which s is observed and these sites are free
abbrev pub Chooses : Grid → ℕ → ℕ → Option ℕ → Type 0
Chooses g s free r = Whatever g (λ h. Minus h.sites h.units free → ObservedSet h s → ChosenIs h r)
