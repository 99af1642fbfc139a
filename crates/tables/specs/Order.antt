-- The order of refusals: 1, then the first bad line, in it 2, 3, 4 (in a step text 12 after 3); then 5; then 10 or 12;
-- then 7, 8, 9 at the first bad step; then 13; then 11; then 6.
use Rattle.std.specs.Prelude.{List, [], ◌∷◌, ℕ, suc}
use Rattle.grid.specs.Limits.{most_steps}
use Rattle.refusals.specs.Refusals.{Check, check_that}
use Rattle.demands.specs.Order.{Precedes, InTableOrder, FirstFails}
use Rattle.tables.specs.Tables.{Row, holds, fails}

-- the refusal with a number, at a place
abbrev pub refusal_at : ℕ → ℕ → Check
refusal_at number place = check_that ⊥ number place

-- the refusal with the first number and place comes before the other
abbrev pub ComesFirst : ℕ → ℕ → ℕ → ℕ → Type 0
ComesFirst number place other there = Precedes (refusal_at number place) (refusal_at other there)

-- one before another
abbrev pub precedes_table : List Row
precedes_table =
    holds (ComesFirst 1 0 2 1)
    ∷ holds (ComesFirst 2 3 3 3)
    ∷ holds (ComesFirst 3 3 4 3)
    ∷ fails (ComesFirst 4 3 2 3)
    -- the first bad line
    ∷ holds (ComesFirst 4 3 2 4)
    ∷ fails (ComesFirst 2 4 4 3)
    -- the step of a text after the most steps
    ∷ holds (ComesFirst 3 (suc most_steps) 12 (suc most_steps))
    ∷ holds (ComesFirst 12 (suc most_steps) 2 (suc (suc most_steps)))
    -- a list that is too long
    ∷ holds (ComesFirst 5 0 12 0)
    ∷ holds (ComesFirst 12 0 7 1)
    ∷ holds (ComesFirst 4 9 5 0)
    ∷ holds (ComesFirst 5 0 10 0)
    ∷ fails (ComesFirst 10 0 5 0)
    -- the planning program's budget comes after its case
    ∷ holds (ComesFirst 4 9 10 1)
    -- the first bad step
    ∷ holds (ComesFirst 7 1 8 1)
    ∷ holds (ComesFirst 8 1 9 1)
    ∷ holds (ComesFirst 9 1 7 2)
    ∷ fails (ComesFirst 7 2 9 1)
    ∷ holds (ComesFirst 7 0 13 0)
    ∷ holds (ComesFirst 10 0 11 0)
    ∷ holds (ComesFirst 11 0 6 0)
    ∷ fails (ComesFirst 6 0 11 0)
    ∷ holds (ComesFirst 9 most_steps 6 0)
    -- a case text is read before a step text
    ∷ holds (ComesFirst 4 9 51 0)
    ∷ holds (ComesFirst 52 1 53 1)
    ∷ holds (ComesFirst 62 (suc most_steps) 7 1)
    ∷ []

-- lists of checks in this order, and lists that are not; and the first of them that fails
abbrev pub in_order_table : List Row
in_order_table =
    holds (InTableOrder [])
    ∷ holds (InTableOrder (refusal_at 5 0 ∷ []))
    ∷ holds (InTableOrder (refusal_at 5 0 ∷ refusal_at 10 0 ∷ refusal_at 11 0 ∷ []))
    ∷ fails (InTableOrder (refusal_at 5 0 ∷ refusal_at 11 0 ∷ refusal_at 10 0 ∷ []))
    -- a number that the table does not have
    ∷ fails (InTableOrder (refusal_at 14 0 ∷ []))
    ∷ fails (InTableOrder (refusal_at 5 0 ∷ refusal_at 14 0 ∷ []))
    ∷ holds (FirstFails (check_that (Unit {0}) 5 0 ∷ refusal_at 10 0 ∷ refusal_at 11 0 ∷ []) 10 0)
    ∷ fails (FirstFails (check_that (Unit {0}) 5 0 ∷ refusal_at 10 0 ∷ refusal_at 11 0 ∷ []) 11 0)
    ∷ fails (FirstFails (check_that (Unit {0}) 5 0 ∷ []) 5 0)
    ∷ []
