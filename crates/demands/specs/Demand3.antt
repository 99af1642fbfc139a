-- Demand 3: Let several desks each hold a list accepted alone for one valid case. Shuffle the lists in any manner that preserves each
-- desk's order, at most 1,024 steps in all, with room for the result. Weaving, which passes over buses already observed, never refuses,
-- writes a list that is itself accepted, and ends with exactly the buses at least one desk observed. If any desk had finished, that is
-- demand 2's set, reached with one step per observed bus.
use Rattle.refusals.specs.declared.Refusal.{Refusal}
use Rattle.std.specs.Prelude.{◌≡◌, List, ℕ, ◌≤◌, length, Result, Ok}
use Rattle.busset.specs.Sets.{In, size, set_of}
use Rattle.busset.specs.Held.{SetWord}
use Rattle.step.specs.Records.{written_into}
use Rattle.step.specs.declared.Step.{Step}
use Rattle.rules.specs.Observation.{ObservedSet}
use Rattle.rules.specs.Steps.{reached, Accepted, Finished}
use Rattle.basics.specs.Lists.{Each, Some}
use Rattle.rules.specs.Weaving.{woven, Shuffle}
use Rattle.grid.specs.declared.Case.{Case}
use Rattle.grid.specs.Limits.{most_steps}
use Rattle.grid.specs.Cases.{grid_of, Valid}
use Rattle.list_follow.specs.Replies.{WeaveReply}
use Rattle.list_follow.specs.declared.Wove.{Wove}

-- what weaving receives, into records that hold `before`
pub record Received (c : Case) (desks : List (List Step)) (received before : List Step) : Type 0 where
  -- each desk's list is accepted alone for one valid case
  pub valid : Valid c
  pub alone : Each (Accepted (grid_of c)) desks
  -- the lists are shuffled in any manner that preserves each desk's order
  pub shuffled : Shuffle desks received
  -- at most 1,024 steps in all, with room for the result
  pub few : length received ≤ most_steps
  pub room : length (woven received) ≤ length before

-- what weaving answers, and the records that it leaves
pub record Weaves (c : Case) (desks : List (List Step)) (received before after : List Step) (r : Result Wove Refusal) : Type 0 where
  -- it never refuses
  pub count : ℕ
  pub set : SetWord
  pub answers : r ≡ Ok (record { count = count; set = set })
  -- it writes a list that is itself accepted, and leaves the rest of the records
  pub records : after ≡ written_into (woven received) before
  pub accepted : Accepted (grid_of c) (woven received)
  -- it answers the count written and the set reached
  pub counted : count ≡ length (woven received)
  pub reaches : set_of set ≡ reached (woven received)
  -- it ends with exactly the buses at least one desk observed
  pub all : (b : ℕ) → Some (λ xs. In (reached xs) b) desks → In (set_of set) b
  pub only : (b : ℕ) → In (set_of set) b → Some (λ xs. In (reached xs) b) desks
  -- one step for each of them
  pub each_once : count ≡ size (set_of set)
  -- if any desk had finished, that is demand 2's set
  pub least : Some (λ xs. Finished (grid_of c) (reached xs)) desks → ObservedSet (grid_of c) (set_of set)

pub record Demand3 : Type 0 where
  pub weaves : (c : Case) (desks : List (List Step)) (received before after : List Step) (r : Result Wove Refusal)
      → Received c desks received before → WeaveReply c received before after r → Weaves c desks received before after r
