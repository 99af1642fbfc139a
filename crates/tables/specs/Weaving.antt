-- Weaving a received list, and shuffles of the desks' lists.
use Rattle.refusals.specs.declared.Refusal.{Refusal}
use Rattle.std.specs.Prelude.{List, [], ◌∷◌, ℕ, ◌≤◌, Result, Ok, Err}
use Rattle.step.specs.declared.Step.{Step}
use Rattle.basics.specs.Lists.{Each, Some}
use Rattle.rules.specs.Weaving.{woven, woven_from, WeavableFrom, Weavable, TakenFromOne, Shuffle}
use Rattle.rules.proofs.Shuffles.{Woven}
use Rattle.refusals.specs.declared.Refusal.TheVariants.{NoRoom}
use Rattle.list_follow.specs.declared.Wove.{Wove}
use Rattle.demands.specs.Demand3.{Weaves}
use Rattle.tables.specs.Starred.{drawn_case, seven}
use Rattle.tables.specs.Tables.{Right, Row, holds, fails}
use Rattle.tables.specs.Drawings.{set, own, near, zero_at, count_wove, seven_grid}
use Rattle.tables.specs.Steps.{derivation_steps}

-- ---- weaving

-- received lists, and what is written: in order, each step whose bus is not yet observed
abbrev pub woven_table : List (List Step × List Step)
woven_table =
    ([], [])
    ∷ (derivation_steps, derivation_steps)
    ∷ (near 2 3 ∷ near 2 3 ∷ own 3 ∷ [], near 2 3 ∷ own 3 ∷ [])
    ∷ (own 3 ∷ near 2 3 ∷ near 3 1 ∷ zero_at 1 2 ∷ zero_at 2 1 ∷ [], own 3 ∷ near 2 3 ∷ zero_at 1 2 ∷ [])
    ∷ []

-- every row is right
abbrev pub WovensRight : Type 0
WovensRight = Right woven woven_table

-- what is written where 3 is observed
abbrev pub woven_from_table : List (List Step × List Step)
woven_from_table = (own 3 ∷ near 2 3 ∷ [], near 2 3 ∷ []) ∷ []

-- every row is right
abbrev pub WovensFromRight : Type 0
WovensFromRight = Right (woven_from (set (3 ∷ []))) woven_from_table

-- lists with no bad step, on the seven buses with a unit at 3
abbrev pub weavable_table : List Row
weavable_table =
    holds (Weavable (seven_grid (3 ∷ [])) (near 2 3 ∷ own 3 ∷ []))
    -- a step for an observed bus is passed over, whether its reason is true or not
    ∷ holds (Weavable (seven_grid (3 ∷ [])) (own 3 ∷ near 3 1 ∷ []))
    -- a false reason for a bus that is not observed
    ∷ fails (Weavable (seven_grid (3 ∷ [])) (near 3 1 ∷ own 3 ∷ []))
    ∷ fails (Weavable (seven_grid (3 ∷ [])) (zero_at 1 2 ∷ []))
    ∷ holds (WeavableFrom (seven_grid (3 ∷ [])) (set (1 ∷ [])) (zero_at 1 2 ∷ []))
    ∷ fails (WeavableFrom (seven_grid (3 ∷ [])) (set (2 ∷ [])) (zero_at 1 2 ∷ []))
    ∷ []

-- ---- shuffles

-- each of a list, and some of a list
abbrev pub each_some_table : List Row
each_some_table =
    holds (Each (λ n. n ≤ 2) (1 ∷ 2 ∷ []))
    ∷ fails (Each (λ n. n ≤ 2) (1 ∷ 3 ∷ []))
    ∷ holds (Some (λ n. n ≤ 2) (3 ∷ 2 ∷ []))
    ∷ fails (Some (λ n. n ≤ 2) (3 ∷ 4 ∷ []))
    ∷ fails (Some {A = ℕ} (λ n. n ≤ 2) [])
    ∷ []

-- two desks
abbrev pub desks : List (List Step)
desks = (near 2 3 ∷ own 3 ∷ []) ∷ (own 3 ∷ []) ∷ []

-- lists that have the steps of both desks, and those of each in its order
abbrev pub shuffle_table : List Row
shuffle_table =
    holds (Shuffle desks (near 2 3 ∷ own 3 ∷ own 3 ∷ []))
    ∷ holds (Shuffle desks (own 3 ∷ near 2 3 ∷ own 3 ∷ []))
    -- a step is missing
    ∷ fails (Shuffle desks (near 2 3 ∷ own 3 ∷ []))
    -- a step is new
    ∷ fails (Shuffle desks (near 4 3 ∷ near 2 3 ∷ own 3 ∷ own 3 ∷ []))
    -- the first desk's steps are out of its order
    ∷ fails (Shuffle desks (own 3 ∷ own 3 ∷ near 2 3 ∷ []))
    ∷ holds (Shuffle [] [])
    ∷ holds (TakenFromOne (own 3) desks ((near 2 3 ∷ own 3 ∷ []) ∷ [] ∷ []))
    ∷ fails (TakenFromOne (near 4 3) desks desks)
    ∷ []

-- what demand 3 says of weaving
abbrev pub woven_shuffle_table : List Row
woven_shuffle_table =
    holds (Woven (seven_grid (3 ∷ [])) desks (own 3 ∷ near 2 3 ∷ own 3 ∷ []))
    -- a bus that a desk observed is missing
    ∷ fails (Woven (seven_grid (3 ∷ [])) desks (own 3 ∷ []))
    -- a bus that no desk observed is reached
    ∷ fails (Woven (seven_grid (3 ∷ [])) desks (near 2 3 ∷ own 3 ∷ near 4 3 ∷ []))
    ∷ []

-- what both desks send
abbrev pub sent : List Step
sent = own 3 ∷ near 2 3 ∷ own 3 ∷ []

-- what is said of weaving it, with the records before and after, and the answer
abbrev pub WeavesSent : List Step → List Step → Result Wove Refusal → Type 0
WeavesSent = Weaves (drawn_case (seven (3 ∷ []))) desks sent

-- the same of the call
abbrev pub demand3_table : List Row
demand3_table =
    holds (WeavesSent (own 7 ∷ own 8 ∷ own 9 ∷ []) (own 3 ∷ near 2 3 ∷ own 9 ∷ []) (Ok (count_wove 2 (2 ∷ 3 ∷ []))))
    -- it never refuses
    ∷ fails (WeavesSent [] [] (Err NoRoom))
    -- nothing is woven
    ∷ fails (WeavesSent (own 7 ∷ own 8 ∷ []) (own 7 ∷ own 8 ∷ []) (Ok (count_wove 0 [])))
    -- the count is made up, or the set
    ∷ fails (WeavesSent (own 7 ∷ own 8 ∷ own 9 ∷ []) (own 3 ∷ near 2 3 ∷ own 9 ∷ []) (Ok (count_wove 3 (2 ∷ 3 ∷ []))))
    ∷ fails (WeavesSent (own 7 ∷ own 8 ∷ own 9 ∷ []) (own 3 ∷ near 2 3 ∷ own 9 ∷ []) (Ok (count_wove 2 (3 ∷ []))))
    ∷ []
