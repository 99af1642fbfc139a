-- What replaying a step text promises.
use Rattle.std.specs.Prelude.{◌≡◌, List, [], ◌∷◌, ◌++◌, ℕ, ◌+◌, Result, Ok, Err}
use Rattle.grid.specs.declared.Case.{Case}
use Rattle.refusals.specs.declared.Refusal.{Refusal}
use Rattle.refusals.specs.declared.ReplayError.{ReplayError}
use Rattle.refusals.specs.declared.ReplayError.TheVariants as refused
use Rattle.refusals.specs.Refusals.{number_of, place_of, Is, Check, check_that}
use Rattle.refusals.specs.Calls.{Call}
use Rattle.list_follow.specs.declared.Replayed.{Replayed}
use Rattle.list_follow.specs.Replies.{replay_checks, ReplayReply}
use Rattle.step_text.specs.Steps.{read_steps, steps_of}
use Rattle.step_text.specs.Checks.{step_text_checks}

-- replay's answer, of a text
abbrev pub text_answer : Result Replayed Refusal → Result Replayed ReplayError
text_answer (Ok r) = Ok r
text_answer (Err q) = Err (refused.List q)

-- by what reading says of the text: its steps are replayed, or its refusal is given
abbrev pub TextReplayAt : Case → List ℕ → Result ℕ Refusal → Result Replayed ReplayError → Type 0
TextReplayAt c text (Ok n) r = (a : Result Replayed Refusal) × ReplayReply c (steps_of text) a × (r ≡ text_answer a)
TextReplayAt c text (Err q) r = r ≡ Err (refused.Text q)

-- a step text that reads is replayed as the list of its steps; else its refusal is given
abbrev pub TextReplayReply : Case → List ℕ → Result Replayed ReplayError → Type 0
TextReplayReply c text r = TextReplayAt c text (read_steps text) r

-- ---- the call

-- what is checked of a step text that is read beside a case: 50 added to each number
abbrev pub with_fifty : List Check → List Check
with_fifty [] = []
with_fifty (q ∷ qs) = check_that q.wants (q.number + 50) q.place ∷ with_fifty qs

-- the whole text, and then its steps
abbrev pub text_replay_checks : Case → List ℕ → List Check
text_replay_checks c text = with_fifty (step_text_checks text) ++ replay_checks c (steps_of text)

-- q refuses the step text with this number, which has 50 added, at this place
pub record IsUnread (number place : ℕ) (q : Refusal) : Type 0 where
  pub numbered : number_of q + 50 ≡ number
  pub placed : place_of q ≡ place

-- the reply is the refusal with this number and this place
abbrev pub TextRefuses : Result Replayed ReplayError → ℕ → ℕ → Type 0
TextRefuses (Ok r) number place = ⊥
TextRefuses (Err (refused.List q)) number place = Is number place q
TextRefuses (Err (refused.Text q)) number place = IsUnread number place q

-- `replay_text`
abbrev pub replay_text_call : Call
replay_text_call = record {
  Input = Case × List ℕ;
  Lent = Unit {0};
  Reply = Result Replayed ReplayError;
  promise = λ (c, text) before after r. TextReplayReply c text r;
  checks = λ (c, text) lent. text_replay_checks c text;
  refuses = TextRefuses;
}
