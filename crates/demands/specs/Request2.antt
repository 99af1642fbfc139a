-- Request 2: the engine in rounds lists the rounds that add a bus, the bus numbers rising within each. Its last set equals the observed set
-- for every valid case, and it has no more rounds than there are buses.
use Rattle.refusals.specs.declared.Refusal.{Refusal}
use Rattle.std.specs.Prelude.{◌≡◌, List, ℕ, ◌*◌, ◌≤◌, length, take, Result, Ok}
use Rattle.basics.specs.Lists.{Each}
use Rattle.busset.specs.Sets.{empty, set_of}
use Rattle.busset.specs.Held.{SetWord}
use Rattle.rules.specs.Rounds.{AddsBus, RoundsOf, after_rounds}
use Rattle.grid.specs.declared.Case.{Case}
use Rattle.grid.specs.Cases.{grid_of, Valid}
use Rattle.observe_calls.specs.Replies.{ObservedReply}
use Rattle.round_calls.specs.Replies.{round_numbers, RoundsReply}
use Rattle.round_calls.specs.declared.Listed.{Listed}

-- what the slow engine's numbers, which are first in the room that it leaves, say beside the set that the quick one answers
pub record BothEngines (c : Case) (set : SetWord) (room : List ℕ) (l : Listed) : Type 0 where
  -- the list of the rounds, and how many there are
  pub rounds : List (List ℕ)
  pub are : RoundsOf (grid_of c) rounds
  pub written : take l.numbers room ≡ round_numbers rounds
  pub many : l.rounds ≡ length rounds
  -- each of them adds a bus
  pub add : Each AddsBus rounds
  -- the last set equals the observed set
  pub last : after_rounds empty rounds ≡ set_of set
  -- there are no more rounds than buses
  pub few : l.rounds ≤ c.n

pub record Request2 : Type 0 where
  -- for every valid case the slow engine answers, if room for twice as many numbers as buses is lent
  pub answers : (c : Case) (entry exit : List ℕ) (r : Result Listed Refusal) → Valid c → 2 * c.n ≤ length entry → RoundsReply c entry exit r
      → (l : Listed) × (r ≡ Ok l)
  -- and whenever both engines answer
  pub engines : (c : Case) (set : SetWord) (entry exit : List ℕ) (l : Listed) → ObservedReply c (Ok set)
      → RoundsReply c entry exit (Ok l) → BothEngines c set exit l
