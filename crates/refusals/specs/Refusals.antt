-- Refusals: the number and place of each, and the order in which a call gives them.
use Rattle.std.specs.Prelude.{◌≡◌, List, [], ◌∷◌, ◌⊎◌, ℕ, Result, Ok, Err}
use Rattle.refusals.specs.declared.Refusal.{Refusal}
use Rattle.refusals.specs.declared.Refusal.TheVariants.{TextTooLong, WrongForm, OutOfRange, OutOfOrder, InvalidCase, NoRoom}
use Rattle.refusals.specs.declared.Refusal.TheVariants.{NoSuchBus, AlreadyObserved, ReasonFails}
use Rattle.refusals.specs.declared.Refusal.TheVariants.{OverBudget, NoCover, TooManySteps, NotJoined}

-- ---- document 01's table

-- the number of a refusal
abbrev pub number_of : Refusal → ℕ
number_of TextTooLong = 1
number_of (WrongForm line) = 2
number_of (OutOfRange line) = 3
number_of (OutOfOrder line) = 4
number_of InvalidCase = 5
number_of NoRoom = 6
number_of (NoSuchBus step) = 7
number_of (AlreadyObserved step) = 8
number_of (ReasonFails step) = 9
number_of (OverBudget line) = 10
number_of NoCover = 11
number_of (TooManySteps line) = 12
number_of NotJoined = 13

-- the place of a refusal: a line, a step, or 0
abbrev pub place_of : Refusal → ℕ
place_of TextTooLong = 0
place_of (WrongForm line) = line
place_of (OutOfRange line) = line
place_of (OutOfOrder line) = line
place_of InvalidCase = 0
place_of NoRoom = 0
place_of (NoSuchBus step) = step
place_of (AlreadyObserved step) = step
place_of (ReasonFails step) = step
place_of (OverBudget line) = line
place_of NoCover = 0
place_of (TooManySteps line) = line
place_of NotJoined = 0

-- r is the refusal with this number, at this place
pub record Is (number place : ℕ) (r : Refusal) : Type 0 where
  pub numbered : number_of r ≡ number
  pub placed : place_of r ≡ place

-- ---- the order

-- what a call checks: a condition, and the number and place of the refusal where it fails
pub record Check : Type 1 where
  pub wants : Type 0
  pub number : ℕ
  pub place : ℕ

-- a check, written in a line
abbrev pub check_that : Type 0 → ℕ → ℕ → Check
check_that wants number place = record { wants = wants; number = number; place = place }

-- every condition holds
abbrev pub Passed : List Check → Type 0
Passed [] = Unit {0}
Passed (q ∷ qs) = q.wants × Passed qs

-- r is the refusal of the first condition that fails
abbrev pub Failed : List Check → Refusal → Type 0
Failed [] r = ⊥
Failed (q ∷ qs) r = ((q.wants → ⊥) × Is q.number q.place r) ⊎ (q.wants × Failed qs r)

-- nothing more, if every condition holds; or the refusal of the first that fails
abbrev pub CheckedBy : List Check → Result (Unit {0}) Refusal → Type 0
CheckedBy qs (Ok u) = Passed qs
CheckedBy qs (Err r) = Failed qs r
