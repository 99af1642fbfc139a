-- Rounds held in words: each as the set of its buses.
use Rattle.std.specs.Prelude.{◌≡◌, List, [], ◌∷◌, ◌++◌, ℕ, ◌≤◌, ◌<◌, length, get_or}
use Rattle.busset.specs.Sets.{In, set_of}
use Rattle.busset.specs.Held.{SetWord, empty_word}
use Rattle.rules.specs.Grids.{Grid}
use Rattle.rules.specs.Steps.{Holds}
use Rattle.rules.specs.Rounds.{Gives, AllRising, RoundsOf}
use Rattle.step.specs.declared.Reason.{Reason}
use Rattle.grid.specs.Limits.{most_buses}

-- some reason holds for bus b where s is observed
pub record SomeReason (g : Grid) (s b : ℕ) : Type 0 where
  pub reason : Reason
  pub holds : Holds g s b reason

-- r is the set of the buses that the round beginning with s adds
pub record RoundSet (g : Grid) (s r : ℕ) : Type 0 where
  pub all : (b : ℕ) → Gives g s b → In r b
  pub only : (b : ℕ) → In r b → Gives g s b

-- the word holds these buses, rising
abbrev pub HoldsBuses : SetWord → List ℕ → Type 0
HoldsBuses w buses = AllRising (In (set_of w)) buses

-- a piece for each bus, as what is put of a round
unfoldable pub each_bus : (ℕ → List ℕ) → List ℕ → List ℕ
each_bus piece [] = []
each_bus piece (b ∷ buses) = piece b ++ each_bus piece buses

-- the words hold these rounds
pub record HeldRounds (sets : List SetWord) (rounds : List (List ℕ)) : Type 0 where
  pub count : length rounds ≡ length sets
  pub most : length sets ≤ most_buses
  pub each : (i : ℕ) → i < length sets → HoldsBuses (get_or sets i empty_word) (get_or rounds i [])

-- the words hold the rounds of the grid
pub record HasRounds (g : Grid) (sets : List SetWord) : Type 0 where
  pub rounds : List (List ℕ)
  pub are : RoundsOf g rounds
  pub held : HeldRounds sets rounds
