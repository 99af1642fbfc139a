-- What the answers of the search say.
use Rattle.std.specs.Prelude.{ℕ, Option, Some, None}
use Rattle.busset.specs.Sets.{set_of}
use Rattle.rules.specs.Grids.{Grid}
use Rattle.rules.specs.Placing.{FewestSites, SomeAddition}
use Rattle.place_light.specs.Ways.{NoWay, FirstWay}

-- the first way of k of the sites, or that there is none
abbrev pub FoundIs : Grid → ℕ → ℕ → Option ℕ → Type 0
FoundIs g sites k (Some m) = FirstWay g sites k (set_of m)
FoundIs g sites k None = NoWay g sites k

-- the fewest within the budget, or that no addition within it covers
abbrev pub FewestIs : Grid → ℕ → Option ℕ → Type 0
FewestIs g budget (Some m) = FewestSites g budget (set_of m)
FewestIs g budget None = SomeAddition g budget → ⊥
