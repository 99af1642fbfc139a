-- The result that a C program gets, and the bytes that it lent.
use Rattle.std.specs.Prelude.{◌≡◌, cond, List, [], ◌∷◌, ◌++◌, ℕ, ◌+◌, ◌*◌, ◌≤◌, ◌<◌, ltb, length, drop, Result, Ok, Err}
use Rattle.busset.specs.Held.{SetWord}
use Rattle.busset.specs.Bytes.{set_bytes, set_length}
use Rattle.refusals.specs.declared.Refusal.{Refusal}
use Rattle.refusals.specs.declared.Refusal.TheVariants.{NoRoom}
use Rattle.refusals.specs.declared.ReplayError.{ReplayError}
use Rattle.refusals.specs.declared.ReplayError.TheVariants as refused
use Rattle.refusals.specs.Refusals.{number_of, place_of, Check, check_that}
use Rattle.grid.specs.Limits.{most_step_bytes}

-- a set, a refusal, or a refusal in reading the step text
abbrev pub Answer : Type 0
Answer = Result SetWord ReplayError

-- 100 times the place plus the refusal number
abbrev pub code_of : Refusal → ℕ
code_of q = 100 * place_of q + number_of q

-- the result if `room` bytes are lent: 0, or a refusal, plus 50 in reading the step text; fewer than eight bytes are 6, after all others
abbrev pub result_of : Answer → ℕ → ℕ
result_of (Ok s) room = cond (ltb room set_length) (code_of NoRoom) 0
result_of (Err (refused.List q)) room = code_of q
result_of (Err (refused.Text q)) room = code_of q + 50

-- the bytes lent, afterwards: the set in the first eight and the others as they were; a refusal leaves all
abbrev pub left_by : Answer → List ℕ → List ℕ
left_by (Ok s) lent = cond (ltb (length lent) set_length) lent (set_bytes s ++ drop set_length lent)
left_by (Err q) lent = lent

-- the result and the bytes, where this is the answer
pub record Replied (a : Answer) (lent left : List ℕ) (r : ℕ) : Type 0 where
  pub result : r ≡ result_of a (length lent)
  pub bytes : left ≡ left_by a lent

-- what a C function promises: P says which answer
pub record Answered (P : Answer → Type 0) (lent left : List ℕ) (r : ℕ) : Type 0 where
  pub answer : Answer
  pub is : P answer
  pub replied : Replied answer lent left r

-- the set has room, or 6: what every C function checks last
abbrev pub room_for_set : List ℕ → List Check
room_for_set lent = check_that (set_length ≤ length lent) 6 0 ∷ []

-- the result is the refusal with this number and this place: 100 times the place plus the number
pub record Coded (result number place : ℕ) : Type 0 where
  pub is : result ≡ 100 * place + number
  pub some : 1 ≤ number
  pub most : number < 100

-- ---- on the way

-- no place is beyond the line after the last that a step text can have
abbrev pub farthest : ℕ
farthest = 1 + most_step_bytes

-- a refusal's place is no farther
abbrev pub PlaceInRange : Answer → Type 0
PlaceInRange (Ok s) = Unit {0}
PlaceInRange (Err (refused.List q)) = place_of q ≤ farthest
PlaceInRange (Err (refused.Text q)) = place_of q ≤ farthest
