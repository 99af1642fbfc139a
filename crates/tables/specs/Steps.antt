-- Steps: when a reason holds, when a step is allowed, and lists of steps.
use Rattle.std.specs.Prelude.{List, [], ◌∷◌, ℕ, ◌+◌, ◌-◌, replicate}
use Rattle.grid.specs.Limits.{most_buses}
use Rattle.step.specs.Records.{no_step, written_into, put_first}
use Rattle.step.specs.declared.Reason.{Reason}
use Rattle.step.specs.declared.Reason.TheVariants.{OwnUnit, NeighbourOf, ZeroInjection}
use Rattle.step.specs.declared.Step.{Step}
use Rattle.rules.specs.Steps.{Holds, Allowed, ReasonNames, Names, AcceptedFrom, Accepted, reached, Finished}
use Rattle.rules.proofs.Reasons.{HasReasoned}
use Rattle.list_value.specs.Lists.{StepList, listed_steps, nth_of, list_of}
use Rattle.tables.specs.Tables.{Right, Row, holds, fails}
use Rattle.tables.specs.Drawings.{set, own, near, zero_at, seven_grid}

-- ---- one step, on the seven buses with a unit at 3

-- the reason holds for a bus where these buses are observed
abbrev pub HoldsWhere : List ℕ → ℕ → Reason → Type 0
HoldsWhere bs b r = Holds (seven_grid (3 ∷ [])) (set bs) b r

-- reasons that hold, and reasons that do not
abbrev pub reason_table : List Row
reason_table =
    holds (HoldsWhere [] 3 OwnUnit)
    ∷ fails (HoldsWhere [] 2 OwnUnit)
    -- N p needs a unit at p, joined to the bus, and not that p is observed
    ∷ holds (HoldsWhere [] 2 (NeighbourOf 3))
    ∷ fails (HoldsWhere (1 ∷ 2 ∷ []) 1 (NeighbourOf 2))
    ∷ fails (HoldsWhere [] 1 (NeighbourOf 3))
    ∷ fails (HoldsWhere [] 3 (NeighbourOf 3))
    -- Z w
    ∷ holds (HoldsWhere (2 ∷ 3 ∷ []) 1 (ZeroInjection 2))
    -- w is not observed
    ∷ fails (HoldsWhere (3 ∷ []) 1 (ZeroInjection 2))
    -- another neighbour of w, 3, is not observed
    ∷ fails (HoldsWhere (2 ∷ []) 1 (ZeroInjection 2))
    -- w has two unknown neighbours, 2 and 7
    ∷ fails (HoldsWhere (3 ∷ 4 ∷ []) 7 (ZeroInjection 3))
    -- w is I
    ∷ fails (HoldsWhere (3 ∷ 4 ∷ []) 5 (ZeroInjection 4))
    -- w is not joined to the bus
    ∷ fails (HoldsWhere (1 ∷ 2 ∷ 3 ∷ []) 4 (ZeroInjection 2))
    -- the reason alone does not ask whether the bus is observed
    ∷ holds (HoldsWhere (3 ∷ []) 3 OwnUnit)
    ∷ []

-- steps that are allowed where these buses are observed, and steps that are not
abbrev pub allowed_table : List Row
allowed_table =
    holds (Allowed (seven_grid (3 ∷ [])) (set []) (near 2 3))
    ∷ holds (Allowed (seven_grid (3 ∷ [])) (set (2 ∷ [])) (own 3))
    ∷ holds (Allowed (seven_grid (3 ∷ [])) (set (2 ∷ 3 ∷ [])) (zero_at 1 2))
    -- its bus is observed already
    ∷ fails (Allowed (seven_grid (3 ∷ [])) (set (3 ∷ [])) (own 3))
    -- its reason does not hold
    ∷ fails (Allowed (seven_grid (3 ∷ [])) (set []) (zero_at 1 2))
    -- any reason that holds will do, also N p at a bus with a unit of its own
    ∷ holds (Allowed (seven_grid (3 ∷ 4 ∷ [])) (set []) (near 3 4))
    ∷ []

-- steps that name buses 1 to 7, and steps that do not
abbrev pub names_table : List Row
names_table =
    holds (Names 7 (own 7))
    ∷ fails (Names 7 (own 8))
    ∷ fails (Names 7 (own 0))
    ∷ holds (Names 7 (near 1 7))
    ∷ fails (Names 7 (near 1 8))
    ∷ fails (Names 7 (near 1 0))
    ∷ fails (Names 7 (zero_at 1 8))
    ∷ fails (Names 7 (zero_at 8 1))
    ∷ holds (ReasonNames 7 OwnUnit)
    ∷ holds (ReasonNames 7 (ZeroInjection 7))
    ∷ fails (ReasonNames 7 (ZeroInjection 0))
    ∷ []

-- ---- lists

-- document 01's derivation for a unit at 3
abbrev pub derivation_steps : List Step
derivation_steps = near 2 3 ∷ own 3 ∷ zero_at 1 2 ∷ near 4 3 ∷ near 7 3 ∷ []

-- lists, and the set that each reaches
abbrev pub reached_table : List (List Step × ℕ)
reached_table =
    ([], set [])
    ∷ (derivation_steps, set (1 ∷ 2 ∷ 3 ∷ 4 ∷ 7 ∷ []))
    ∷ (own 3 ∷ own 3 ∷ [], set (3 ∷ []))
    ∷ []

-- every row is right
abbrev pub ReachedRight : Type 0
ReachedRight = Right reached reached_table

-- lists each of whose steps is allowed where it stands, and lists with a bad step
abbrev pub accepted_table : List Row
accepted_table =
    holds (Accepted (seven_grid (3 ∷ [])) derivation_steps)
    ∷ holds (Accepted (seven_grid (3 ∷ [])) [])
    ∷ holds (Accepted (seven_grid (3 ∷ [])) (own 3 ∷ near 2 3 ∷ []))
    ∷ fails (Accepted (seven_grid (3 ∷ [])) (zero_at 1 2 ∷ []))
    ∷ fails (Accepted (seven_grid (3 ∷ [])) (own 3 ∷ own 3 ∷ []))
    ∷ holds (AcceptedFrom (seven_grid (3 ∷ [])) (set (2 ∷ 3 ∷ [])) (zero_at 1 2 ∷ []))
    ∷ []

-- sets where no step is allowed, and sets where one is
abbrev pub finished_table : List Row
finished_table =
    holds (Finished (seven_grid (3 ∷ [])) (set (1 ∷ 2 ∷ 3 ∷ 4 ∷ 7 ∷ [])))
    ∷ fails (Finished (seven_grid (3 ∷ [])) (set (2 ∷ 3 ∷ 4 ∷ 7 ∷ [])))
    ∷ fails (Finished (seven_grid (3 ∷ [])) (set []))
    ∷ holds (Finished (seven_grid []) (set []))
    ∷ holds (HasReasoned (seven_grid (3 ∷ [])) (set (1 ∷ 2 ∷ 3 ∷ 4 ∷ 7 ∷ [])))
    ∷ fails (HasReasoned (seven_grid (3 ∷ [])) (set (3 ∷ [])))
    ∷ []

-- ---- lists by value, and records lent

-- lists, and the list by value that has them, with blanks up to the most buses
abbrev pub list_of_table : List (List Step × StepList)
list_of_table =
    ([], record { items = []; free = replicate most_buses no_step })
    ∷ (near 2 3 ∷ own 3 ∷ [], record { items = near 2 3 ∷ own 3 ∷ []; free = replicate (most_buses - 2) no_step })
    ∷ []

-- every row is right
abbrev pub ListOfRight : Type 0
ListOfRight = Right list_of list_of_table

-- the steps of a list by value
abbrev pub listed_steps_table : List (StepList × List Step)
listed_steps_table = (list_of derivation_steps, derivation_steps) ∷ (record { items = own 1 ∷ []; free = own 2 ∷ [] }, own 1 ∷ []) ∷ []

-- every row is right
abbrev pub ListedStepsRight : Type 0
ListedStepsRight = Right listed_steps listed_steps_table

-- lists, and three records that held 7 O, 8 O, 9 O after each was written into them: the rest stays
abbrev pub written_into_table : List (List Step × List Step)
written_into_table =
    ([], own 7 ∷ own 8 ∷ own 9 ∷ [])
    ∷ (near 2 3 ∷ own 3 ∷ [], near 2 3 ∷ own 3 ∷ own 9 ∷ [])
    ∷ (own 1 ∷ own 2 ∷ own 3 ∷ [], own 1 ∷ own 2 ∷ own 3 ∷ [])
    ∷ []

-- every row is right
abbrev pub WrittenIntoRight : Type 0
WrittenIntoRight = Right (λ xs. written_into xs (own 7 ∷ own 8 ∷ own 9 ∷ [])) written_into_table

-- how many of the steps 1 O, 2 O, 3 O are put first into those records, and what they hold then
abbrev pub put_first_table : List (ℕ × List Step)
put_first_table = (0, own 7 ∷ own 8 ∷ own 9 ∷ []) ∷ (2, own 1 ∷ own 2 ∷ own 9 ∷ []) ∷ []

-- every row is right
abbrev pub PutFirstRight : Type 0
PutFirstRight = Right (λ k. put_first k (λ i. own (i + 1)) (own 7 ∷ own 8 ∷ own 9 ∷ [])) put_first_table

-- a place from 0 in the derivation's list by value, and the step there
abbrev pub nth_of_table : List (ℕ × Step)
nth_of_table = (0, near 2 3) ∷ (4, near 7 3) ∷ (5, no_step) ∷ (most_buses, no_step) ∷ []

-- every row is right
abbrev pub NthOfRight : Type 0
NthOfRight = Right (nth_of (list_of derivation_steps)) nth_of_table
