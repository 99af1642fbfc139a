-- What the tables speak of: sets, steps, answers, case values and grids, written short.
use Rattle.std.specs.Prelude.{Bool, List, [], ◌∷◌, map, ℕ}
use Rattle.busset.specs.Sets.{set_of}
use Rattle.step.specs.declared.Reason.TheVariants.{OwnUnit, NeighbourOf, ZeroInjection}
use Rattle.step.specs.declared.Step.{Step}
use Rattle.rules.specs.Grids.{Grid}
use Rattle.grid.specs.declared.Case.{Case}
use Rattle.grid.specs.Rows.{with_circuits}
use Rattle.grid.specs.Cases.{grid_of}
use Rattle.list_follow.specs.declared.Replayed.{Replayed}
use Rattle.list_follow.specs.declared.Wove.{Wove}
use Rattle.tables.specs.Starred.{Drawing, word_with, filled, drawn_case, seven, path}

-- the set of the buses of a list
abbrev pub set : List ℕ → ℕ
set bs = set_of (word_with bs)

-- `step b O`
abbrev pub own : ℕ → Step
own b = record { bus = b; reason = OwnUnit }

-- `step b N p`
abbrev pub near : ℕ → ℕ → Step
near b p = record { bus = b; reason = NeighbourOf p }

-- `step b Z w`
abbrev pub zero_at : ℕ → ℕ → Step
zero_at b w = record { bus = b; reason = ZeroInjection w }

-- replay's answer: the buses reached, and whether the list is finished
abbrev pub set_replayed : List ℕ → Bool → Replayed
set_replayed bs finished = record { set = word_with bs; finished = finished }

-- weaving's: how many steps are written, and the buses reached
abbrev pub count_wove : ℕ → List ℕ → Wove
count_wove count bs = record { count = count; set = word_with bs }

-- n, the neighbours of each bus in bus order, the Z buses, the Y sites and the units: a case value, but for its rows
abbrev pub short_value : ℕ → List (List ℕ) → List ℕ → List ℕ → List ℕ → Case
short_value n rows zeros sites units = record {
  n = n;
  nbr = map word_with rows;
  zero = word_with zeros;
  site = word_with sites;
  units = word_with units;
}

-- the case value
abbrev pub value : ℕ → List (List ℕ) → List ℕ → List ℕ → List ℕ → Case
value n rows zeros sites units = filled (short_value n rows zeros sites units)

-- the case value, where bus a counts k circuits to bus b
abbrev pub counts : Case → ℕ → ℕ → ℕ → Case
counts c a b k = record { n = c.n; nbr = with_circuits c.nbr a b k; zero = c.zero; site = c.site; units = c.units }

-- the grid that a drawing says
abbrev pub drawn_grid : Drawing → Grid
drawn_grid d = grid_of (drawn_case d)

-- document 01's seven-bus grid with these units
abbrev pub seven_grid : List ℕ → Grid
seven_grid units = drawn_grid (seven units)

-- document 01's path 1-2-3-4-5, where only 3 is Z, with these units
abbrev pub path_with : List ℕ → Drawing
path_with units = record { n = 5; lines = path.lines; zeros = path.zeros; units = units }

-- the path 1-2-3-4, where 2 and 3 are Z, with a unit at 4: firing 3 frees 2, and then firing 2 frees 1
abbrev pub sweep : Drawing
sweep = record { n = 4; lines = (1, 2) ∷ (2, 3) ∷ (3, 4) ∷ []; zeros = 2 ∷ 3 ∷ []; units = 4 ∷ [] }

-- the same path with a unit at 1: a round that went on with what it finds would have 4 beside 3
abbrev pub onward : Drawing
onward = record { n = 4; lines = sweep.lines; zeros = sweep.zeros; units = 1 ∷ [] }

-- two buses, joined, where 1 is Z, with a unit at 2
abbrev pub leaf : Drawing
leaf = record { n = 2; lines = (1, 2) ∷ []; zeros = 1 ∷ []; units = 2 ∷ [] }

-- two buses with no line, with a unit at 1
abbrev pub lone : Drawing
lone = record { n = 2; lines = []; zeros = 1 ∷ 2 ∷ []; units = 1 ∷ [] }

-- bus 1 and bus 4, each joined to the Z buses 2 and 3, with these units
abbrev pub ring : List ℕ → Drawing
ring units = record { n = 4; lines = (1, 2) ∷ (1, 3) ∷ (2, 4) ∷ (3, 4) ∷ []; zeros = 2 ∷ 3 ∷ []; units = units }

-- three buses, 1 joined to 2, with these units
abbrev pub apart : List ℕ → Drawing
apart units = record { n = 3; lines = (1, 2) ∷ []; zeros = []; units = units }

-- four buses with no line: each needs a unit of its own
abbrev pub four_apart : Drawing
four_apart = record { n = 4; lines = []; zeros = []; units = [] }

-- two buses, joined, of which 1 has site N, with these units
abbrev pub barred : List ℕ → Grid
barred units = grid_of (value 2 ((2 ∷ []) ∷ (1 ∷ []) ∷ []) [] (2 ∷ []) units)

-- the path 1-2-3 with these units, where no bus is Z
abbrev pub trio : List ℕ → Drawing
trio units = record { n = 3; lines = (1, 2) ∷ (2, 3) ∷ []; zeros = []; units = units }

-- four buses, of which 4 is joined to every other
abbrev pub hub : Drawing
hub = record { n = 4; lines = (1, 4) ∷ (2, 4) ∷ (3, 4) ∷ []; zeros = []; units = [] }
