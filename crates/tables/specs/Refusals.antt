-- Refusals: the number and place of each, and which of several checks is answered.
use Rattle.std.specs.Prelude.{List, [], ◌∷◌, ℕ, suc, ◌≤◌}
use Rattle.grid.specs.Limits.{most_steps}
use Rattle.refusals.specs.declared.Refusal.{Refusal}
use Rattle.refusals.specs.declared.Refusal.TheVariants.{TextTooLong, WrongForm, OutOfRange, OutOfOrder, InvalidCase, NoRoom}
use Rattle.refusals.specs.declared.Refusal.TheVariants.{NoSuchBus, AlreadyObserved, ReasonFails}
use Rattle.refusals.specs.declared.Refusal.TheVariants.{OverBudget, NoCover, TooManySteps, NotJoined}
use Rattle.refusals.specs.Refusals.{number_of, place_of, Is, check_that, Passed, Failed}
use Rattle.tables.specs.Tables.{Right, Row, holds, fails}

-- document 01's table: refusals, and the number and place of each
abbrev pub refusal_table : List (Refusal × (ℕ × ℕ))
refusal_table =
    (TextTooLong, (1, 0))
    ∷ (WrongForm 5, (2, 5))
    ∷ (OutOfRange 5, (3, 5))
    ∷ (OutOfOrder 5, (4, 5))
    ∷ (InvalidCase, (5, 0))
    ∷ (NoRoom, (6, 0))
    ∷ (NoSuchBus 5, (7, 5))
    ∷ (NoSuchBus 0, (7, 0))
    ∷ (AlreadyObserved 5, (8, 5))
    ∷ (ReasonFails 5, (9, 5))
    ∷ (OverBudget 0, (10, 0))
    ∷ (OverBudget 1, (10, 1))
    ∷ (NoCover, (11, 0))
    ∷ (TooManySteps 0, (12, 0))
    ∷ (TooManySteps (suc most_steps), (12, suc most_steps))
    ∷ (NotJoined, (13, 0))
    ∷ []

-- every row is right
abbrev pub RefusalTableRight : Type 0
RefusalTableRight = Right (λ r. (number_of r, place_of r)) refusal_table

-- checks that pass, and the first that fails
abbrev pub check_table : List Row
check_table =
    holds (Is 2 5 (WrongForm 5))
    ∷ fails (Is 3 5 (WrongForm 5))
    ∷ fails (Is 2 4 (WrongForm 5))
    ∷ holds (Passed [])
    ∷ holds (Passed (check_that (1 ≤ 2) 5 0 ∷ check_that (2 ≤ 2) 10 0 ∷ []))
    ∷ fails (Passed (check_that (1 ≤ 2) 5 0 ∷ check_that (3 ≤ 2) 10 0 ∷ []))
    ∷ holds (Failed (check_that (3 ≤ 2) 5 0 ∷ check_that (3 ≤ 2) 10 0 ∷ []) InvalidCase)
    ∷ fails (Failed (check_that (3 ≤ 2) 5 0 ∷ check_that (3 ≤ 2) 10 0 ∷ []) (OverBudget 0))
    ∷ holds (Failed (check_that (1 ≤ 2) 5 0 ∷ check_that (3 ≤ 2) 10 0 ∷ []) (OverBudget 0))
    ∷ fails (Failed (check_that (1 ≤ 2) 5 0 ∷ check_that (3 ≤ 2) 10 0 ∷ []) (OverBudget 1))
    ∷ fails (Failed (check_that (1 ≤ 2) 5 0 ∷ check_that (2 ≤ 2) 10 0 ∷ []) (OverBudget 0))
    ∷ fails (Failed [] InvalidCase)
    ∷ []
