-- What one step of the walk over a set's buses gives.
use Rattle.std.specs.Prelude.{◌≡◌, ℕ, Option, Some, None}
use Rattle.busset.specs.Sets.{Lowest, Highest, Without, empty, set_of, width}
use Rattle.busset.specs.Held.{SetWord}

-- the lowest bus of s, and r is s without it; or no bus, where s has none
abbrev pub TakesLowest : SetWord → Option ℕ → SetWord → Type 0
TakesLowest s None r = (set_of s ≡ empty) × (r ≡ s)
TakesLowest s (Some b) r = Lowest width (set_of s) b × Without (set_of s) b (set_of r)

-- the highest, likewise
abbrev pub TakesHighest : SetWord → Option ℕ → SetWord → Type 0
TakesHighest s None r = (set_of s ≡ empty) × (r ≡ s)
TakesHighest s (Some b) r = Highest width (set_of s) b × Without (set_of s) b (set_of r)
