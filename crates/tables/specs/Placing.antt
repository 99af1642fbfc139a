-- Placing units: additions that cover, which comes first, the fewest, and greedy.
use Rattle.std.specs.Prelude.{List, [], ◌∷◌, ℕ, ◌≤◌}
use Rattle.grid.specs.Limits.{largest_budget, most_budget, most_greedy_budget}
use Rattle.rules.specs.Placing.{Full, Covers, Free, Rising, placed, Addition, Before, Earlier, FewestSites, SomeAddition}
use Rattle.rules.specs.Choosing.{WithSite, Best, NoneAdds, GreedyList}
use Rattle.plan_input.specs.Asking.{default_budget}
use Rattle.tables.specs.Tables.{Right, Row, holds, fails}
use Rattle.tables.specs.Drawings.{set, drawn_grid, seven_grid, apart, four_apart, barred, trio, hub}

-- ---- additions

-- where a new unit may go: a Y site without a unit
abbrev pub free_table : List Row
free_table =
    holds (Free (seven_grid (4 ∷ [])) 1)
    ∷ fails (Free (seven_grid (4 ∷ [])) 4)
    -- bus 1 has site N
    ∷ fails (Free (barred []) 1)
    ∷ holds (Free (barred []) 2)
    -- a bus above n
    ∷ fails (Free (barred []) 3)
    ∷ []

-- rising lists of numbers up to 7
abbrev pub rising_table : List Row
rising_table =
    holds (Rising (λ x. x ≤ 7) 0 (1 ∷ 4 ∷ 7 ∷ []))
    ∷ holds (Rising (λ x. x ≤ 7) 0 [])
    ∷ fails (Rising (λ x. x ≤ 7) 0 (4 ∷ 1 ∷ []))
    ∷ fails (Rising (λ x. x ≤ 7) 0 (4 ∷ 4 ∷ []))
    ∷ fails (Rising (λ x. x ≤ 7) 0 (1 ∷ 8 ∷ []))
    ∷ fails (Rising (λ x. x ≤ 7) 0 (0 ∷ []))
    ∷ []

-- a set and a list of sites, and the set with them
abbrev pub placed_table : List ((ℕ × List ℕ) × ℕ)
placed_table =
    ((set [], 1 ∷ 4 ∷ []), set (1 ∷ 4 ∷ []))
    ∷ ((set (3 ∷ []), 1 ∷ 4 ∷ []), set (1 ∷ 3 ∷ 4 ∷ []))
    ∷ ((set (3 ∷ []), []), set (3 ∷ []))
    ∷ []

-- every row is right
abbrev pub PlacedRight : Type 0
PlacedRight = Right (λ q. placed q.0 q.1) placed_table

-- all buses, and units that make all of them observed
abbrev pub covers_table : List Row
covers_table =
    holds (Full 7 (set (1 ∷ 2 ∷ 3 ∷ 4 ∷ 5 ∷ 6 ∷ 7 ∷ [])))
    ∷ fails (Full 7 (set (1 ∷ 2 ∷ 3 ∷ 4 ∷ 5 ∷ 7 ∷ [])))
    ∷ holds (Covers (seven_grid []) (set (1 ∷ 4 ∷ [])))
    ∷ holds (Covers (seven_grid []) (set (3 ∷ 4 ∷ [])))
    ∷ fails (Covers (seven_grid []) (set (3 ∷ [])))
    ∷ fails (Covers (seven_grid []) (set []))
    ∷ []

-- additions within a budget that make all seven buses observed
abbrev pub addition_table : List Row
addition_table =
    holds (Addition (seven_grid []) 2 (1 ∷ 4 ∷ []))
    ∷ holds (Addition (seven_grid []) (most_budget 7) (1 ∷ 4 ∷ []))
    ∷ holds (Addition (seven_grid []) 2 (3 ∷ 4 ∷ []))
    -- over the budget
    ∷ fails (Addition (seven_grid []) 1 (1 ∷ 4 ∷ []))
    -- not rising
    ∷ fails (Addition (seven_grid []) 2 (4 ∷ 1 ∷ []))
    -- not all are observed
    ∷ fails (Addition (seven_grid []) 2 (3 ∷ []))
    -- installed units stay, and the budget counts new ones
    ∷ holds (Addition (seven_grid (4 ∷ [])) 1 (1 ∷ []))
    ∷ fails (Addition (seven_grid (4 ∷ [])) 2 (1 ∷ 4 ∷ []))
    -- a site N
    ∷ fails (Addition (barred []) 1 (1 ∷ []))
    ∷ []

-- ---- which comes first

-- number by number
abbrev pub before_table : List Row
before_table =
    holds (Before (1 ∷ 4 ∷ []) (2 ∷ 3 ∷ []))
    ∷ fails (Before (2 ∷ 3 ∷ []) (1 ∷ 4 ∷ []))
    ∷ holds (Before (1 ∷ 3 ∷ []) (1 ∷ 4 ∷ []))
    ∷ fails (Before (1 ∷ 4 ∷ []) (1 ∷ 3 ∷ []))
    ∷ holds (Before (1 ∷ 4 ∷ []) (1 ∷ 4 ∷ []))
    ∷ []

-- by number of sites first, then number by number
abbrev pub earlier_table : List Row
earlier_table =
    holds (Earlier (1 ∷ []) (1 ∷ 4 ∷ []))
    ∷ fails (Earlier (1 ∷ 4 ∷ []) (1 ∷ []))
    ∷ holds (Earlier (4 ∷ []) (1 ∷ 2 ∷ 3 ∷ []))
    ∷ fails (Earlier (1 ∷ 2 ∷ 3 ∷ []) (4 ∷ []))
    ∷ holds (Earlier (1 ∷ 4 ∷ []) (2 ∷ 3 ∷ []))
    ∷ fails (Earlier (2 ∷ 3 ∷ []) (1 ∷ 4 ∷ []))
    ∷ holds (Earlier (1 ∷ 4 ∷ []) (1 ∷ 4 ∷ []))
    ∷ []

-- ---- the fewest

-- within a budget, the fewest, or none
abbrev pub fewest_sites_table : List Row
fewest_sites_table =
    holds (FewestSites (seven_grid []) 2 (set (1 ∷ 4 ∷ [])))
    ∷ holds (FewestSites (seven_grid []) 3 (set (1 ∷ 4 ∷ [])))
    -- greedy's, which covers too, and comes later
    ∷ fails (FewestSites (seven_grid []) 2 (set (3 ∷ 4 ∷ [])))
    -- the budget is not to be spent
    ∷ fails (FewestSites (seven_grid []) 3 (set (1 ∷ 2 ∷ 4 ∷ [])))
    ∷ holds (SomeAddition (seven_grid []) 2)
    ∷ fails (SomeAddition (seven_grid []) 1)
    ∷ fails (FewestSites (seven_grid []) 1 (set (1 ∷ 4 ∷ [])))
    -- one site, though the list 1, 2, 3 covers too and begins lower
    ∷ holds (FewestSites (drawn_grid hub) 3 (set (4 ∷ [])))
    ∷ fails (FewestSites (drawn_grid hub) 3 (set (1 ∷ 2 ∷ 3 ∷ [])))
    -- all are observed already
    ∷ holds (FewestSites (seven_grid (1 ∷ 4 ∷ [])) 0 (set []))
    -- installed units stay
    ∷ holds (FewestSites (seven_grid (4 ∷ [])) 1 (set (1 ∷ [])))
    -- bus 1 would come first, and has site N
    ∷ holds (FewestSites (barred []) 1 (set (2 ∷ [])))
    ∷ fails (FewestSites (barred []) 1 (set (1 ∷ [])))
    -- four units are over the default, and within the limit
    ∷ fails (SomeAddition (drawn_grid four_apart) default_budget)
    ∷ holds (FewestSites (drawn_grid four_apart) largest_budget (set (1 ∷ 2 ∷ 3 ∷ 4 ∷ [])))
    ∷ []

-- ---- greedy

-- what a new unit makes observed
abbrev pub with_site_table : List Row
with_site_table =
    holds (WithSite (seven_grid []) 3 (set (1 ∷ 2 ∷ 3 ∷ 4 ∷ 7 ∷ [])))
    ∷ fails (WithSite (seven_grid []) 3 (set (2 ∷ 3 ∷ 4 ∷ 7 ∷ [])))
    ∷ fails (WithSite (seven_grid (3 ∷ [])) 3 (set (1 ∷ 2 ∷ 3 ∷ 4 ∷ 7 ∷ [])))
    ∷ fails (WithSite (barred []) 1 (set (1 ∷ 2 ∷ [])))
    ∷ []

-- the site that makes the observed set largest, the lowest number on a tie
abbrev pub best_table : List Row
best_table =
    holds (Best (seven_grid []) 3)
    ∷ fails (Best (seven_grid []) 4)
    ∷ holds (Best (drawn_grid (apart [])) 1)
    ∷ fails (Best (drawn_grid (apart [])) 2)
    -- also a bus that is observed already
    ∷ holds (Best (drawn_grid (trio (1 ∷ []))) 2)
    ∷ holds (Best (barred []) 2)
    -- no site adds a bus
    ∷ fails (Best (seven_grid (1 ∷ 4 ∷ [])) 2)
    ∷ holds (NoneAdds (seven_grid (1 ∷ 4 ∷ [])))
    ∷ fails (NoneAdds (seven_grid []))
    ∷ []

-- what greedy adds within a budget, in order
abbrev pub greedy_list_table : List Row
greedy_list_table =
    holds (GreedyList (seven_grid []) 2 (3 ∷ 4 ∷ []))
    ∷ fails (GreedyList (seven_grid []) 2 (4 ∷ 3 ∷ []))
    ∷ fails (GreedyList (seven_grid []) 2 (1 ∷ 4 ∷ []))
    -- it stops when the budget is spent
    ∷ holds (GreedyList (seven_grid []) 1 (3 ∷ []))
    ∷ holds (GreedyList (seven_grid []) 0 [])
    ∷ fails (GreedyList (seven_grid []) 1 (3 ∷ 4 ∷ []))
    -- not before, while a site adds a bus
    ∷ fails (GreedyList (seven_grid []) 2 (3 ∷ []))
    -- and when no site adds a bus
    ∷ holds (GreedyList (seven_grid []) 3 (3 ∷ 4 ∷ []))
    ∷ holds (GreedyList (seven_grid (1 ∷ 4 ∷ [])) most_greedy_budget [])
    ∷ fails (GreedyList (seven_grid (1 ∷ 4 ∷ [])) 2 (2 ∷ []))
    ∷ []
