-- The grid that a case value says, and which case values are valid: one row for each clause of refusal 5.
use Rattle.std.specs.Prelude.{List, [], ◌∷◌, ◌++◌, ℕ, zero, suc, leb}
use Rattle.busset.specs.Sets.{width, less}
use Rattle.busset.specs.Held.{SetWord, empty_word, word_of, hold_if}
use Rattle.busset.specs.Bytes.{set_length}
use Rattle.rules.specs.Grids.{Line, Proper, total, line_count}
use Rattle.grid.specs.declared.Case.{Case}
use Rattle.grid.specs.Limits.{most_buses, most_lines, most_circuits, least_several}
use Rattle.grid.specs.Limits.{most_steps, largest_budget, most_budget, most_greedy_budget}
use Rattle.grid.specs.Limits.{most_bytes, most_step_bytes}
use Rattle.grid.specs.Rows.{neighbours, circuits}
use Rattle.grid.specs.Cases.{grid_of, line_added, LinesAt, Lines, Valid}
use Rattle.plan_input.specs.Asking.{default_budget}
use Rattle.tables.specs.Starred.{word_with, buses_to, filled, drawn_case, seven, path}
use Rattle.tables.specs.Tables.{Right, Row, holds, fails}
use Rattle.tables.specs.Drawings.{set, value, counts, seven_grid, drawn_grid}

-- ---- the numbers of documents 01 and 02

-- each limit, how many bytes a set has, and the budget of `plan` alone, with its number: no other line of the tables says one
abbrev pub limit_table : List (ℕ × ℕ)
limit_table =
    (most_buses, 64)
    ∷ (width, 64)
    ∷ (most_lines, 256)
    ∷ (most_circuits, 8)
    ∷ (least_several, 2)
    ∷ (most_steps, 1024)
    ∷ (most_bytes, 8192)
    ∷ (most_step_bytes, 16384)
    ∷ (largest_budget, 8)
    ∷ (most_budget 7, 8)
    ∷ (most_greedy_budget, 64)
    ∷ (set_length, 8)
    ∷ (default_budget, 3)
    ∷ []

-- every row is right
abbrev pub LimitsRight : Type 0
LimitsRight = Right (λ k. k) limit_table

-- ---- the grid that a case value says

-- the neighbours of a number in the seven-bus grid
abbrev pub neighbour_table : List (ℕ × ℕ)
neighbour_table =
    (1, set (2 ∷ []))
    ∷ (2, set (1 ∷ 3 ∷ []))
    ∷ (3, set (2 ∷ 4 ∷ 7 ∷ []))
    ∷ (4, set (3 ∷ 5 ∷ []))
    ∷ (5, set (4 ∷ 6 ∷ []))
    ∷ (6, set (5 ∷ []))
    ∷ (7, set (3 ∷ []))
    ∷ (0, set [])
    ∷ (8, set [])
    ∷ (suc most_buses, set [])
    ∷ []

-- every row is right
abbrev pub NeighboursRight : Type 0
NeighboursRight = Right (neighbours (drawn_case (seven [])).nbr) neighbour_table

-- the seven-bus grid with a unit at 3: n, the neighbours of 3, the Z buses, the Y sites and the units
abbrev pub grid_part_table : List (ℕ × ℕ)
grid_part_table =
    ((seven_grid (3 ∷ [])).n, 7)
    ∷ ((seven_grid (3 ∷ [])).neighbours 3, set (2 ∷ 4 ∷ 7 ∷ []))
    ∷ ((seven_grid (3 ∷ [])).zeros, set (2 ∷ 3 ∷ 5 ∷ []))
    ∷ ((seven_grid (3 ∷ [])).sites, set (1 ∷ 2 ∷ 3 ∷ 4 ∷ 5 ∷ 6 ∷ 7 ∷ []))
    ∷ ((seven_grid (3 ∷ [])).units, set (3 ∷ []))
    ∷ []

-- every row is right
abbrev pub GridPartsRight : Type 0
GridPartsRight = Right (λ k. k) grid_part_table

-- sums over the buses 1 to n, and how many lines a grid has
abbrev pub sum_table : List (ℕ × ℕ)
sum_table =
    (total 0 (λ b. b), 0)
    ∷ (total 4 (λ b. b), 10)
    ∷ (line_count 7 (seven_grid []).neighbours, 6)
    ∷ (line_count 5 (drawn_grid path).neighbours, 4)
    ∷ (line_count 3 (λ b. set []), 0)
    ∷ []

-- every row is right
abbrev pub SumsRight : Type 0
SumsRight = Right (λ k. k) sum_table

-- ---- lines

-- two buses, joined
abbrev pub pair : List (List ℕ)
pair = (2 ∷ []) ∷ (1 ∷ []) ∷ []

-- two buses, of which only bus 1 says that they are joined
abbrev pub one_sided : List (List ℕ)
one_sided = (2 ∷ []) ∷ [] ∷ []

-- bus 1 is joined to itself
abbrev pub looped : List (List ℕ)
looped = (1 ∷ []) ∷ [] ∷ []

-- three buses, 1 joined to 3
abbrev pub far : List (List ℕ)
far = (3 ∷ []) ∷ [] ∷ (1 ∷ []) ∷ []

-- four buses, 3 joined to 4
abbrev pub high : List (List ℕ)
high = [] ∷ [] ∷ (4 ∷ []) ∷ (3 ∷ []) ∷ []

-- the neighbours where these are the rows
abbrev pub neighbours_in : List (List ℕ) → ℕ → ℕ
neighbours_in rows = neighbours (value 2 rows [] [] []).nbr

-- what is a line, and what is none
abbrev pub line_table : List Row
line_table =
    holds (Line 2 (neighbours_in pair) 1 2)
    ∷ fails (Line 2 (neighbours_in one_sided) 1 2)
    ∷ fails (Line 2 (neighbours_in looped) 1 1)
    ∷ fails (Line 2 (neighbours_in far) 1 3)
    ∷ holds (Line 3 (neighbours_in far) 1 3)
    ∷ holds (LinesAt 2 (neighbours_in pair) 1)
    ∷ holds (LinesAt 2 (neighbours_in pair) 3)
    ∷ fails (LinesAt 2 (neighbours_in one_sided) 1)
    ∷ holds (Lines 2 (neighbours_in pair))
    ∷ fails (Lines 2 (neighbours_in far))
    ∷ []

-- ---- the circuits that a case value counts

-- two buses, joined, each of which counts so many circuits to the other
abbrev pub counting : ℕ → ℕ → Case
counting j k = counts (counts (value 2 pair [] [] []) 1 2 j) 2 1 k

-- what bus a counts to bus b: in the seven-bus grid 1 to each neighbour, and what is put
abbrev pub circuit_table : List (ℕ × ℕ)
circuit_table =
    (circuits (drawn_case (seven [])).nbr 3 4, 1)
    ∷ (circuits (drawn_case (seven [])).nbr 3 5, 0)
    ∷ (circuits (drawn_case (seven [])).nbr 3 3, 0)
    ∷ (circuits (drawn_case (seven [])).nbr 0 1, 0)
    ∷ (circuits (counting 3 8).nbr 1 2, 3)
    ∷ (circuits (counting 3 8).nbr 2 1, 8)
    ∷ (circuits (counting 15 0).nbr 1 2, 15)
    ∷ (circuits (counting 15 0).nbr 2 1, 0)
    -- the count of a line that is put anew is the new one, and its buses are joined once
    ∷ (circuits (line_added (counting 3 8) 1 2 4).nbr 1 2, 4)
    ∷ (circuits (line_added (counting 3 8) 1 2 4).nbr 2 1, 4)
    ∷ (neighbours (line_added (counting 3 8) 1 2 4).nbr 1, set (2 ∷ []))
    ∷ []

-- every row is right
abbrev pub CircuitsRight : Type 0
CircuitsRight = Right (λ k. k) circuit_table

-- ---- which case values are valid

-- what 5 does not refuse, and for each clause of it a value that it refuses
abbrev pub valid_table : List Row
valid_table =
    holds (Valid (drawn_case (seven (3 ∷ []))))
    ∷ holds (Valid (drawn_case path))
    ∷ holds (Valid (value 1 [] [] [] []))
    ∷ holds (Valid (value most_buses [] [] [] (most_buses ∷ [])))
    ∷ holds (Valid (value 2 pair (1 ∷ []) (1 ∷ 2 ∷ []) (2 ∷ [])))
    -- an installed unit may stand at a site N
    ∷ holds (Valid (value 2 pair [] [] (1 ∷ [])))
    -- n outside 1 to the most buses
    ∷ fails (Valid (value 0 [] [] [] []))
    ∷ fails (Valid (value (suc most_buses) [] [] [] []))
    -- lines not the same seen from both ends
    ∷ fails (Valid (value 2 one_sided [] [] []))
    -- a bus joined to itself
    ∷ fails (Valid (value 2 looped [] [] []))
    -- a line, unit, class Z or site Y at a bus above n
    ∷ fails (Valid (value 2 far [] [] []))
    ∷ fails (Valid (value 2 high [] [] []))
    ∷ fails (Valid (value 2 pair [] [] (3 ∷ [])))
    ∷ fails (Valid (value 2 pair (3 ∷ []) [] []))
    ∷ fails (Valid (value 2 pair [] (3 ∷ []) []))
    -- a joined pair counted 0, or above the most
    ∷ fails (Valid (counting 0 0))
    ∷ fails (Valid (counting 9 9))
    -- another pair counted: not joined, a bus with itself, a bus above n
    ∷ fails (Valid (counts (counts (value 3 pair [] [] []) 1 3 1) 3 1 1))
    ∷ fails (Valid (counts (value 2 pair [] [] []) 1 1 1))
    ∷ fails (Valid (counts (value 2 pair [] [] []) 3 4 1))
    -- the two ends unlike
    ∷ fails (Valid (counting 2 1))
    ∷ []

-- the neighbours of m buses from b on: each is joined to all of 1 to 23 but itself, and to bus 24 where it is one of the first k
abbrev pub crowd_rows : ℕ → ℕ → ℕ → List SetWord
crowd_rows k b zero = []
crowd_rows k b (suc m) = hold_if (leb b k) (word_of (less (set (buses_to 23)) b)) 24 ∷ crowd_rows k (suc b) m

-- 24 buses, 1 to 23 all joined to one another by 253 lines, and bus 24 to the first k; the neighbours alone for rows
abbrev pub short_crowd : ℕ → Case
short_crowd k = record {
  n = 24;
  nbr = crowd_rows k 1 23 ++ word_with (buses_to k) ∷ [];
  zero = empty_word;
  site = empty_word;
  units = empty_word;
}

-- the case value
abbrev pub crowd : ℕ → Case
crowd k = filled (short_crowd k)

-- the most lines, and one more
abbrev pub most_lines_table : List Row
most_lines_table = holds (Valid (crowd 3)) ∷ fails (Valid (crowd 4)) ∷ []

-- the same of a grid: every line is one, and every Z bus, Y site and unit is at a bus 1 to n
abbrev pub proper_table : List Row
proper_table =
    holds (Proper (seven_grid (3 ∷ [])))
    ∷ fails (Proper (grid_of (value 2 one_sided [] [] [])))
    ∷ fails (Proper (grid_of (value 2 pair [] [] (3 ∷ []))))
    ∷ []
