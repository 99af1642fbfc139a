-- Cross-validation: which units confirm each other, and which no other unit confirms.
use Rattle.std.specs.Prelude.{List, [], ◌∷◌}
use Rattle.rules.specs.Confirming.{Confirm, Unconfirmed, UnconfirmedSet}
use Rattle.tables.specs.Tables.{Row, holds, fails}
use Rattle.tables.specs.Drawings.{set, drawn_grid, seven_grid, apart}

-- two buses of the seven, and whether units there confirm each other
abbrev pub confirm_table : List Row
confirm_table =
    -- joined
    holds (Confirm (seven_grid []).neighbours 3 4)
    ∷ holds (Confirm (seven_grid []).neighbours 4 3)
    -- they share 3, which is Z, or 4, which is I
    ∷ holds (Confirm (seven_grid []).neighbours 2 4)
    ∷ holds (Confirm (seven_grid []).neighbours 3 5)
    -- neither
    ∷ fails (Confirm (seven_grid []).neighbours 1 4)
    ∷ fails (Confirm (seven_grid []).neighbours 1 6)
    ∷ fails (Confirm (drawn_grid (apart [])).neighbours 1 3)
    ∷ []

-- the units of the seven, and one that no other unit confirms
abbrev pub unconfirmed_table : List Row
unconfirmed_table =
    -- a unit does not confirm itself
    holds (Unconfirmed (seven_grid []).neighbours (set (3 ∷ [])) 3)
    ∷ fails (Unconfirmed (seven_grid []).neighbours (set (3 ∷ 4 ∷ [])) 3)
    -- there is no unit
    ∷ fails (Unconfirmed (seven_grid []).neighbours (set (3 ∷ [])) 6)
    ∷ []

-- the units, and the set of all that no other unit confirms
abbrev pub unconfirmed_set_table : List Row
unconfirmed_set_table =
    -- no units
    holds (UnconfirmedSet (seven_grid []).neighbours (set []) (set []))
    ∷ holds (UnconfirmedSet (seven_grid []).neighbours (set (3 ∷ [])) (set (3 ∷ [])))
    ∷ holds (UnconfirmedSet (seven_grid []).neighbours (set (3 ∷ 4 ∷ [])) (set []))
    ∷ holds (UnconfirmedSet (seven_grid []).neighbours (set (2 ∷ 4 ∷ [])) (set []))
    ∷ holds (UnconfirmedSet (seven_grid []).neighbours (set (1 ∷ 4 ∷ [])) (set (1 ∷ 4 ∷ [])))
    -- a unit at a bus with no lines, beside others
    ∷ holds (UnconfirmedSet (drawn_grid (apart [])).neighbours (set (1 ∷ 2 ∷ 3 ∷ [])) (set (3 ∷ [])))
    -- a unit would confirm itself
    ∷ fails (UnconfirmedSet (seven_grid []).neighbours (set (3 ∷ [])) (set []))
    -- too few, too many
    ∷ fails (UnconfirmedSet (seven_grid []).neighbours (set (1 ∷ 4 ∷ [])) (set (1 ∷ [])))
    ∷ fails (UnconfirmedSet (seven_grid []).neighbours (set (3 ∷ 4 ∷ [])) (set (3 ∷ [])))
    ∷ []
