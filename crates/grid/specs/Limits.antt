-- The limits of documents 01 and 02. src/limits.rt has the same names in code, and no other line says these numbers.
use Rattle.std.specs.Prelude.{ℕ}
use Rattle.busset.specs.Sets.{width}

-- buses of a grid: as many as a set has room for
abbrev pub most_buses : ℕ
most_buses = width

-- its lines
abbrev pub most_lines : ℕ
most_lines = 256

-- circuits of a line
abbrev pub most_circuits : ℕ
most_circuits = 8

-- circuits are several from here on: a text says how many they are, and of a line of one circuit it says nothing
abbrev pub least_several : ℕ
least_several = 2

-- steps of a list
abbrev pub most_steps : ℕ
most_steps = 1024

-- new units of the fewest, on any grid
abbrev pub largest_budget : ℕ
largest_budget = 8

-- new units of the fewest, on a grid of n buses
abbrev pub most_budget : ℕ → ℕ
most_budget n = largest_budget

-- new units of greedy: one at each bus
abbrev pub most_greedy_budget : ℕ
most_greedy_budget = most_buses

-- bytes of a case text
abbrev pub most_bytes : ℕ
most_bytes = 8192

-- bytes of a step text
abbrev pub most_step_bytes : ℕ
most_step_bytes = 16384
