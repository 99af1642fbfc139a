-- The list of the rounds as numbers, and what the call that writes it promises.
use Rattle.std.specs.Prelude.{◌≡◌, List, [], ◌∷◌, ◌++◌, ℕ, ◌≤◌, length, drop, Result, Ok, Err}
use Rattle.rules.specs.Rounds.{RoundsOf}
use Rattle.grid.specs.declared.Case.{Case}
use Rattle.grid.specs.Cases.{grid_of, Valid}
use Rattle.refusals.specs.Refusals.{Check, check_that, Passed, Failed}
use Rattle.refusals.specs.Calls.{Call, Refuses}
use Rattle.refusals.specs.declared.Refusal.{Refusal}
use Rattle.round_calls.specs.declared.Listed.{Listed}

-- for each round the number of its buses, then the buses
unfoldable pub round_numbers : List (List ℕ) → List ℕ
round_numbers [] = []
round_numbers (r ∷ rounds) = (length r ∷ r) ++ round_numbers rounds

-- the list of the rounds has room
abbrev pub RoundsFit : Case → List ℕ → Type 0
RoundsFit c room = (rounds : List (List ℕ)) → RoundsOf (grid_of c) rounds → length (round_numbers rounds) ≤ length room

-- 5; the list has room, or 6
abbrev pub rounds_checks : Case → List ℕ → List Check
rounds_checks c room = check_that (Valid c) 5 0 ∷ check_that (RoundsFit c room) 6 0 ∷ []

-- the list of the rounds, so many numbers and so many rounds, stands first in the room, and the rest of it stays
pub record RoundsWritten (c : Case) (entry exit : List ℕ) (l : Listed) : Type 0 where
  pub rounds : List (List ℕ)
  pub are : RoundsOf (grid_of c) rounds
  pub long : l.numbers ≡ length (round_numbers rounds)
  pub many : l.rounds ≡ length rounds
  pub written : exit ≡ round_numbers rounds ++ drop l.numbers entry

-- the list, or a refusal, which leaves all of the room as it was
abbrev pub RoundsReply : Case → List ℕ → List ℕ → Result Listed Refusal → Type 0
RoundsReply c entry exit (Ok l) = Passed (rounds_checks c entry) × RoundsWritten c entry exit l
RoundsReply c entry exit (Err r) = Failed (rounds_checks c entry) r × (exit ≡ entry)

-- `observed_rounds`
abbrev pub observed_rounds_call : Call
observed_rounds_call = record {
  Input = Case;
  Lent = List ℕ;
  Reply = Result Listed Refusal;
  promise = λ c entry exit r. RoundsReply c entry exit r;
  checks = λ c room. rounds_checks c room;
  refuses = Refuses Err;
}
