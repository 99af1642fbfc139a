-- Which sites are tried: what one call of the cut does before it calls itself.
use Rattle.std.specs.Prelude.{List, ℕ, ◌≤◌, ◌<◌}
use Rattle.busset.specs.Sets.{In, Out, Sub, Within, width}
use Rattle.busset.specs.Held.{SetWord}
use Rattle.rules.specs.Grids.{Grid}
use Rattle.rules.specs.Placing.{with_units}
use Rattle.grid.specs.Cases.{Lines}
use Rattle.place_light.specs.Ways.{Whatever, Meets, direct, Cover}
use Rattle.place_pool.specs.Pool.{KeptGroups}

-- what a call of the search or of its cut asks for: a grid's lines, free sites at its buses, some of them still open, and few units
pub record Asks (n : ℕ) (nbr : ℕ → ℕ) (free sites k : ℕ) : Type 0 where
  pub buses : n ≤ width
  pub lines : Lines n nbr
  pub within : Within n free
  pub of : Sub sites free
  pub few : k ≤ width

-- the units are those of g, and some of the free sites
pub record ChosenUnits (g : Grid) (free units : ℕ) : Type 0 where
  pub holds : Sub g.units units
  pub of : (x : ℕ) → In units x → Out g.units x → In free x

-- whatever units are installed: if the pool has groups of the free sites, so has what it becomes, and P holds of the grid with all units
abbrev pub Keeping : Grid → ℕ → ℕ → List SetWord → List SetWord → (Grid → Type 0) → Type 0
Keeping bare free units pool kept P =
    Whatever bare (λ g. ChosenUnits g free units → KeptGroups g (direct g.neighbours) free pool
    → P (with_units g units) × KeptGroups g (direct g.neighbours) free kept)

-- every cover by k of the sites is some of those left, and has one of those to try
pub record ToTry (g : Grid) (sites k left tries : ℕ) : Type 0 where
  pub within : (v : ℕ) → Cover g sites k v → Sub v left
  pub meets : (v : ℕ) → Cover g sites k v → Meets tries v

-- those to try are some of the sites, and there is a unit to place where one is to try
pub record Open (sites k tries : ℕ) : Type 0 where
  pub of : Sub tries sites
  pub some : (x : ℕ) → In tries x → 0 < k
