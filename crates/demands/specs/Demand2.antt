-- Demand 2: For a valid case the observed set is the least one closed under the two published rules, and a list of steps is accepted
-- exactly when each step is allowed where it stands. The fewest-unit answer is the first smallest placement that covers; for a valid case,
-- a budget of at most 8 is refused as too small exactly when none within it does. Case texts read and written are inverse.
use Rattle.std.specs.Prelude.{◌≡◌, List, ℕ, ◌≤◌, length, take, Result, Ok, Err}
use Rattle.busset.specs.Sets.{size, set_of}
use Rattle.busset.specs.Held.{SetWord}
use Rattle.step.specs.declared.Step.{Step}
use Rattle.rules.specs.Grids.{Grid}
use Rattle.rules.specs.Observation.{ObservedSet}
use Rattle.rules.specs.Steps.{reached, Accepted, Finished}
use Rattle.rules.specs.Placing as placing
use Rattle.grid.specs.declared.Case.{Case}
use Rattle.refusals.specs.declared.Refusal.{Refusal}
use Rattle.grid.specs.Limits.{most_budget}
use Rattle.grid.specs.Cases.{grid_of, Sized, Valid}
use Rattle.refusals.specs.Refusals.{Is}
use Rattle.refusals.specs.Calls.{Refuses}
use Rattle.list_follow.specs.Replies.{ReplayReply}
use Rattle.list_follow.specs.declared.Replayed.{Replayed}
use Rattle.observe_calls.specs.Replies.{ObservedReply}
use Rattle.place_calls.specs.Replies.{FewestReply}
use Rattle.text_calls.specs.Replies.{CaseReadReply, CaseWrittenReply}

-- replay's reply accepts the list exactly when each step is allowed where it stands
pub record AcceptedExactly (g : Grid) (xs : List Step) (reply : Result Replayed Refusal) : Type 0 where
  pub taken : (r : Replayed) → reply ≡ Ok r → Accepted g xs
  pub reaches : Accepted g xs → (r : Replayed) × (reply ≡ Ok r)

-- the reply is refusal 11, and no other, exactly when no placement within the budget covers
pub record TooSmallExactly (g : Grid) (budget : ℕ) (reply : Result SetWord Refusal) : Type 0 where
  pub due : (placing.SomeAddition g budget → ⊥) → Refuses Err reply 11 0
  pub given : (q : Refusal) → reply ≡ Err q → Is 11 0 q × (placing.SomeAddition g budget → ⊥)

pub record Demand2 : Type 0 where
  -- for a valid case the observed set is the least one closed under the two published rules
  pub observed : (c : Case) (r : Result SetWord Refusal) → Valid c → ObservedReply c r
      → (set : SetWord) × (r ≡ Ok set) × ObservedSet (grid_of c) (set_of set)
  -- and a list of steps is accepted exactly when each step is allowed where it stands
  pub accepted : (c : Case) (xs : List Step) (r : Result Replayed Refusal) → Valid c → ReplayReply c xs r → AcceptedExactly (grid_of c) xs r
  -- a finished list has as many steps as the observed set has buses
  pub finished_length : (g : Grid) (xs : List Step) (set : ℕ) → Accepted g xs → Finished g (reached xs) → ObservedSet g set
      → length xs ≡ size set
  -- the fewest-unit answer is the first smallest placement that covers
  pub fewest : (c : Case) (budget : ℕ) (sites : SetWord) → FewestReply c budget (Ok sites)
      → placing.FewestSites (grid_of c) budget (set_of sites)
  -- for a valid case, a budget of at most 8 is refused as too small exactly when none within it does
  pub too_small : (c : Case) (budget : ℕ) (r : Result SetWord Refusal) → Valid c → budget ≤ most_budget c.n → FewestReply c budget r
      → TooSmallExactly (grid_of c) budget r
  -- case texts read and written are inverse: what is written is read back
  pub read_back : (c : Case) (lent left : List ℕ) (count : ℕ) → Sized c → CaseWrittenReply c lent (Ok count) left
      → CaseReadReply (take count left) (Ok c)
  -- and what is read is written back
  pub written_back : (c : Case) (text lent left : List ℕ) (count : ℕ) → CaseReadReply text (Ok c)
      → CaseWrittenReply c lent (Ok count) left → take count left ≡ text
