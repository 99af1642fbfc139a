-- The firing figure.
use Rattle.std.specs.Prelude.{List, [], ◌∷◌, ◌≡◌, ℕ, suc, ◌-◌, ℤ, pos, negsuc, replicate}
use Rattle.busset.specs.Sets.{less}
use Rattle.busset.specs.Held.{SetWord, empty_word, word_of}
use Rattle.rules.specs.Figures.{figure, Runs}
use Rattle.grid.specs.declared.Case.{Case}
use Rattle.grid.specs.Limits.{most_buses}
use Rattle.grid.specs.Cases.{grid_of, Valid}
use Rattle.tables.specs.Starred.{word_with, buses_to, filled, drawn_case, seven}
use Rattle.observe_calls.specs.Replies.{stated}
use Rattle.tables.specs.Tables.{Right, Row, holds, fails}
use Rattle.tables.specs.Drawings.{set, seven_grid}

-- the observed buses, i and j, and the figure of i towards j in the seven-bus grid; negsuc k is -(k + 1)
abbrev pub figure_table : List ((List ℕ × ℕ × ℕ) × ℤ)
figure_table =
    -- document 01's, with a unit at 2
    ((1 ∷ 2 ∷ 3 ∷ [], 3, 7), pos 0)
    ∷ ((1 ∷ 2 ∷ 3 ∷ [], 3, 2), negsuc 0)
    ∷ ((1 ∷ 2 ∷ 3 ∷ [], 2, 1), pos 1)
    -- j itself does not count
    ∷ ((2 ∷ 3 ∷ [], 2, 1), pos 1)
    -- class does not enter: 4 is I
    ∷ ((3 ∷ 4 ∷ [], 4, 5), pos 1)
    -- i is not observed
    ∷ ((3 ∷ [], 4, 5), pos 0)
    -- a bus with one neighbour
    ∷ ((1 ∷ [], 1, 2), pos 1)
    ∷ (([], 1, 2), pos 0)
    -- nothing is observed, and i has three neighbours
    ∷ (([], 3, 2), negsuc 1)
    ∷ []

-- every row is right
abbrev pub FiguresRight : Type 0
FiguresRight = Right (λ q. figure (seven_grid []).neighbours (set q.0) q.1 q.2) figure_table

-- the neighbours of m buses and one more, of which 1 is joined to every other
abbrev pub star_rows : ℕ → List SetWord
star_rows m = word_of (less (set (buses_to (suc m))) 1) ∷ replicate m (word_with (1 ∷ []))

-- the most buses, so joined: a case value, but for its rows
abbrev pub short_star : Case
short_star = record { n = most_buses; nbr = star_rows (most_buses - 1); zero = empty_word; site = empty_word; units = empty_word }

-- the case value
abbrev pub star : Case
star = filled short_star

-- its figures of 1 towards 2 where no bus is observed, and where all are: the lowest and the highest that there are
abbrev pub figure_end_table : List Row
figure_end_table =
    holds (Valid star)
    ∷ holds (figure (grid_of star).neighbours (set []) 1 2 ≡ negsuc (most_buses - 3))
    ∷ holds (figure (grid_of star).neighbours (set (buses_to most_buses)) 1 2 ≡ pos 1)
    ∷ []

-- where the figure runs: from 2 less the most buses, up to 1
abbrev pub figure_run_table : List Row
figure_run_table =
    holds (Runs (most_buses - 2) (negsuc (most_buses - 3)))
    ∷ fails (Runs (most_buses - 2) (negsuc (most_buses - 2)))
    ∷ holds (Runs (most_buses - 2) (pos 1))
    ∷ fails (Runs (most_buses - 2) (pos 2))
    ∷ []

-- stated sets on the seven buses, and what counts: buses above n are ignored
abbrev pub stated_set_table : List (List ℕ × ℕ)
stated_set_table = (1 ∷ 7 ∷ [], set (1 ∷ 7 ∷ [])) ∷ (1 ∷ 8 ∷ most_buses ∷ [], set (1 ∷ [])) ∷ (8 ∷ [], set []) ∷ []

-- every row is right
abbrev pub StatedRight : Type 0
StatedRight = Right (λ bs. stated (drawn_case (seven [])) (word_with bs)) stated_set_table
