-- Observation: the two rules, and the observed set, at the mistakes that document 01 names.
use Rattle.std.specs.Prelude.{List, [], ◌∷◌}
use Rattle.rules.specs.Observation.{O1, AllBut, Fired, O2, Closed, ObservedSet}
use Rattle.tables.specs.Starred.{path}
use Rattle.tables.specs.Tables.{Row, holds, fails}
use Rattle.tables.specs.Drawings.{set, drawn_grid, seven_grid, sweep, leaf, lone}

-- ---- O1

-- a bus with a unit, and each of its neighbours
abbrev pub o1_table : List Row
o1_table =
    holds (O1 (seven_grid []).neighbours (set (3 ∷ [])) (set (1 ∷ 2 ∷ 3 ∷ 4 ∷ 7 ∷ [])))
    ∷ fails (O1 (seven_grid []).neighbours (set (3 ∷ [])) (set (3 ∷ [])))
    ∷ fails (O1 (seven_grid []).neighbours (set (3 ∷ [])) (set (2 ∷ 3 ∷ 4 ∷ [])))
    ∷ fails (O1 (seven_grid []).neighbours (set (3 ∷ [])) (set (2 ∷ 4 ∷ 7 ∷ [])))
    ∷ holds (O1 (seven_grid []).neighbours (set []) (set []))
    ∷ []

-- ---- O2

-- of some buses all but one are in a set
abbrev pub all_but_table : List Row
all_but_table =
    holds (AllBut (set (2 ∷ 4 ∷ 7 ∷ [])) 7 (set (2 ∷ 4 ∷ [])))
    ∷ fails (AllBut (set (2 ∷ 4 ∷ 7 ∷ [])) 7 (set (2 ∷ [])))
    -- a single neighbour: nothing is asked of others
    ∷ holds (AllBut (set (2 ∷ [])) 2 (set []))
    ∷ []

-- what O2 asks at an observed Z bus with these neighbours
abbrev pub fired_table : List Row
fired_table =
    fails (Fired (set (1 ∷ 3 ∷ [])) (set (3 ∷ [])))
    ∷ holds (Fired (set (1 ∷ 3 ∷ [])) (set (1 ∷ 3 ∷ [])))
    -- two unknown neighbours
    ∷ holds (Fired (set (2 ∷ 4 ∷ 7 ∷ [])) (set (4 ∷ [])))
    -- a single neighbour
    ∷ fails (Fired (set (2 ∷ [])) (set (1 ∷ [])))
    ∷ []

-- O2 in a set
abbrev pub o2_table : List Row
o2_table =
    -- bus 2 is Z and observed, and 1 is its only unknown neighbour
    fails (O2 (seven_grid []).neighbours (seven_grid []).zeros (set (2 ∷ 3 ∷ 4 ∷ 7 ∷ [])))
    ∷ holds (O2 (seven_grid []).neighbours (seven_grid []).zeros (set (1 ∷ 2 ∷ 3 ∷ 4 ∷ 7 ∷ [])))
    -- an I bus, as 2 and 4 here, asks nothing
    ∷ holds (O2 (drawn_grid path).neighbours (drawn_grid path).zeros (set (1 ∷ 2 ∷ 4 ∷ 5 ∷ [])))
    -- a Z bus that is not observed, as 3 here, asks nothing, though its neighbour 4 alone is unknown
    ∷ holds (O2 (drawn_grid path).neighbours (drawn_grid path).zeros (set (1 ∷ 2 ∷ [])))
    -- a Z bus with two unknown neighbours, as 3 here, asks nothing
    ∷ holds (O2 (seven_grid []).neighbours (seven_grid []).zeros (set (3 ∷ 4 ∷ 5 ∷ 6 ∷ [])))
    -- a Z bus with one neighbour asks for it as soon as it is observed
    ∷ fails (O2 (drawn_grid leaf).neighbours (drawn_grid leaf).zeros (set (1 ∷ [])))
    ∷ holds (O2 (drawn_grid leaf).neighbours (drawn_grid leaf).zeros (set (1 ∷ 2 ∷ [])))
    ∷ []

-- ---- the observed set

-- sets that satisfy both rules
abbrev pub closed_table : List Row
closed_table =
    holds (Closed (seven_grid (3 ∷ [])) (set (1 ∷ 2 ∷ 3 ∷ 4 ∷ 7 ∷ [])))
    ∷ holds (Closed (seven_grid (3 ∷ [])) (set (1 ∷ 2 ∷ 3 ∷ 4 ∷ 5 ∷ 6 ∷ 7 ∷ [])))
    ∷ fails (Closed (seven_grid (3 ∷ [])) (set (2 ∷ 3 ∷ 4 ∷ 7 ∷ [])))
    ∷ fails (Closed (seven_grid (3 ∷ [])) (set []))
    ∷ []

-- the smallest of them
abbrev pub observed_set_table : List Row
observed_set_table =
    holds (ObservedSet (seven_grid []) (set []))
    ∷ holds (ObservedSet (seven_grid (2 ∷ [])) (set (1 ∷ 2 ∷ 3 ∷ [])))
    ∷ holds (ObservedSet (seven_grid (3 ∷ [])) (set (1 ∷ 2 ∷ 3 ∷ 4 ∷ 7 ∷ [])))
    ∷ holds (ObservedSet (seven_grid (4 ∷ [])) (set (3 ∷ 4 ∷ 5 ∷ 6 ∷ [])))
    ∷ holds (ObservedSet (seven_grid (1 ∷ 4 ∷ [])) (set (1 ∷ 2 ∷ 3 ∷ 4 ∷ 5 ∷ 6 ∷ 7 ∷ [])))
    ∷ holds (ObservedSet (drawn_grid path) (set (1 ∷ 2 ∷ 4 ∷ 5 ∷ [])))
    -- it satisfies both rules, and is not the smallest
    ∷ fails (ObservedSet (seven_grid (3 ∷ [])) (set (1 ∷ 2 ∷ 3 ∷ 4 ∷ 5 ∷ 6 ∷ 7 ∷ [])))
    -- what O1 gives alone
    ∷ fails (ObservedSet (seven_grid (3 ∷ [])) (set (2 ∷ 3 ∷ 4 ∷ 7 ∷ [])))
    -- O2 at the I buses 2 and 4
    ∷ fails (ObservedSet (drawn_grid path) (set (1 ∷ 2 ∷ 3 ∷ 4 ∷ 5 ∷ [])))
    -- one sweep over the buses is not enough
    ∷ fails (ObservedSet (drawn_grid sweep) (set (2 ∷ 3 ∷ 4 ∷ [])))
    ∷ holds (ObservedSet (drawn_grid sweep) (set (1 ∷ 2 ∷ 3 ∷ 4 ∷ [])))
    -- a unit at a bus with no lines observes that bus only
    ∷ holds (ObservedSet (drawn_grid lone) (set (1 ∷ [])))
    ∷ fails (ObservedSet (drawn_grid lone) (set (1 ∷ 2 ∷ [])))
    ∷ []
