-- The case value: the grid that it says, and when it is valid.
use Rattle.std.specs.Prelude.{◌≡◌, ℕ, ◌≤◌, length}
use Rattle.busset.specs.Sets.{Bus, In, Out, set_of}
use Rattle.busset.specs.Held.{SetWord, empty_word}
use Rattle.rules.specs.Grids.{Grid, Line, Proper, line_count}
use Rattle.grid.specs.Limits.{most_buses, most_lines, most_circuits}
use Rattle.grid.specs.Rows.{Rows, rows_length, neighbours, circuits, with_line}
use Rattle.grid.specs.declared.Case.{Case}

-- ---- the view

-- the grid that n, the rows, the Z buses, the Y sites and the units say
abbrev pub grid_with : ℕ → Rows → SetWord → SetWord → SetWord → Grid
grid_with n rows zeros sites units = record {
  n = n;
  neighbours = neighbours rows;
  zeros = set_of zeros;
  sites = set_of sites;
  units = set_of units;
}

-- the grid with no site and no unit that n, the rows and the Z buses say
abbrev pub bare_grid : ℕ → Rows → SetWord → Grid
bare_grid n rows zeros = grid_with n rows zeros empty_word empty_word

-- the case value of these parts
abbrev pub case_of : ℕ → Rows → SetWord → SetWord → SetWord → Case
case_of n rows zeros sites units = record { n = n; nbr = rows; zero = zeros; site = sites; units = units }

-- the grid that a case value says
abbrev pub grid_of : Case → Grid
grid_of c = grid_with c.n c.nbr c.zero c.site c.units

-- the case with a line of k circuits between a and b
abbrev pub line_added : Case → ℕ → ℕ → ℕ → Case
line_added c a b k = case_of c.n (with_line c.nbr a b k) c.zero c.site c.units

-- what the type of a case value says: the sets of each bus
pub record Sized (c : Case) : Type 0 where
  pub rows : length c.nbr ≡ rows_length

-- ---- validity

-- every bus that b is joined to is joined to it by a line
abbrev pub LinesAt : ℕ → (ℕ → ℕ) → ℕ → Type 0
LinesAt n nbr b = (a : ℕ) → In (nbr b) a → Line n nbr b a

-- all that is joined is joined by a line
abbrev pub Lines : ℕ → (ℕ → ℕ) → Type 0
Lines n nbr = (b : ℕ) → LinesAt n nbr b

-- k is a count of circuits, 1 to the most
pub record CircuitCount (k : ℕ) : Type 0 where
  pub some : 1 ≤ k
  pub most : k ≤ most_circuits

-- a joined pair is counted 1 to the most circuits, as a counts
abbrev pub JoinedCounted : Rows → ℕ → Type 0
JoinedCounted rows a = (b : ℕ) → In (neighbours rows a) b → CircuitCount (circuits rows a b)

-- any other pair is counted 0: one that is not joined, a bus with itself, a bus above n
abbrev pub OthersUncounted : Rows → ℕ → Type 0
OthersUncounted rows a = (b : ℕ) → Out (neighbours rows a) b → circuits rows a b ≡ 0

-- the two ends count alike
abbrev pub CountedAlike : Rows → ℕ → Type 0
CountedAlike rows a = (b : ℕ) → circuits rows a b ≡ circuits rows b a

-- what refusal 5 does not refuse
pub record Valid (c : Case) : Type 0 where
  -- n is 1 to the most buses
  pub buses : Bus most_buses c.n
  -- lines are the same seen from both ends, no bus is joined to itself, and no line, unit, class Z or site Y is at a bus above n
  pub proper : Proper (grid_of c)
  -- there are no more lines than the most
  pub few : line_count c.n (neighbours c.nbr) ≤ most_lines
  -- a joined pair is counted 1 to the most circuits
  pub joined : (a : ℕ) → JoinedCounted c.nbr a
  -- any other pair is counted 0
  pub others : (a : ℕ) → OthersUncounted c.nbr a
  -- the two ends count alike
  pub alike : (a : ℕ) → CountedAlike c.nbr a
