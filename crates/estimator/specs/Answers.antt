-- What each of the estimator's questions comes to: the answer of the call on the case that the text says.
use Rattle.std.specs.Prelude.{Bool, List, [], ◌≡◌, ◌++◌, ℕ, Result, Ok, Err}
use Rattle.busset.specs.Held.{SetWord}
use Rattle.refusals.specs.declared.Refusal.{Refusal}
use Rattle.refusals.specs.declared.ReplayError.TheVariants as refused
use Rattle.refusals.specs.Refusals.{Check}
use Rattle.refusals.specs.Calls.{Call}
use Rattle.grid.specs.declared.Case.{Case}
use Rattle.case_read.specs.Reading.{read_case}
use Rattle.case_read.specs.Checks.{case_checks}
use Rattle.step_replay.specs.Replying.{TextReplayReply, text_replay_checks}
use Rattle.observe_calls.specs.Replies.{observed_checks, ObservedReply}
use Rattle.place_calls.specs.Replies.{verdict_checks, VerdictReply, fewest_checks, FewestReply}
use Rattle.estimator_reply.specs.Results.{Answer, Answered, room_for_set, Coded}

-- ---- what is answered of a case

-- the answer is the set or the refusal that a call promises
abbrev pub OfCall : (Result SetWord Refusal → Type 0) → Answer → Type 0
OfCall promise (Ok s) = promise (Ok s)
OfCall promise (Err (refused.List q)) = promise (Err q)
OfCall promise (Err (refused.Text q)) = ⊥

-- observed set
abbrev pub ObservedFor : Case → Answer → Type 0
ObservedFor c = OfCall (ObservedReply c)

-- unconfirmed set
abbrev pub UnconfirmedFor : Case → Answer → Type 0
UnconfirmedFor c = OfCall (VerdictReply c)

-- fewest, with a budget
abbrev pub FewestFor : ℕ → Case → Answer → Type 0
FewestFor budget c = OfCall (FewestReply c budget)

-- the set that replay reaches, with a step text
abbrev pub ReplayFor : List ℕ → Case → Answer → Type 0
ReplayFor steps c (Ok s) = (finished : Bool) × TextReplayReply c steps (Ok (record { set = s; finished = finished }))
ReplayFor steps c (Err e) = TextReplayReply c steps (Err e)

-- ---- the case text is read first

-- by what reading says of it
abbrev pub OfRead : Result Case Refusal → (Case → Answer → Type 0) → Answer → Type 0
OfRead (Ok c) P a = P c a
OfRead (Err q) P a = a ≡ Err (refused.List q)

-- the refusal of the case text, or what is answered of its case
abbrev pub OfText : List ℕ → (Case → Answer → Type 0) → Answer → Type 0
OfText text P a = OfRead (read_case text) P a

-- ---- the calls

-- what a call checks of the case read; where none is, the case text's own checks refuse
abbrev pub checks_of : Result Case Refusal → (Case → List Check) → List Check
checks_of (Ok c) checks = checks c
checks_of (Err q) checks = []

-- the case text, then what the call on its case checks, then 6
abbrev pub estimator_checks : List ℕ → (Case → List Check) → List ℕ → List Check
estimator_checks text checks lent = case_checks text ++ (checks_of (read_case text) checks ++ room_for_set lent)

-- `wz_observed`
abbrev pub wz_observed_call : Call
wz_observed_call = record {
  Input = List ℕ;
  Lent = List ℕ;
  Reply = ℕ;
  promise = λ text lent left r. Answered (OfText text ObservedFor) lent left r;
  checks = λ text lent. estimator_checks text observed_checks lent;
  refuses = Coded;
}

-- `wz_unconfirmed`
abbrev pub wz_unconfirmed_call : Call
wz_unconfirmed_call = record {
  Input = List ℕ;
  Lent = List ℕ;
  Reply = ℕ;
  promise = λ text lent left r. Answered (OfText text UnconfirmedFor) lent left r;
  checks = λ text lent. estimator_checks text verdict_checks lent;
  refuses = Coded;
}

-- `wz_fewest`
abbrev pub wz_fewest_call : Call
wz_fewest_call = record {
  Input = List ℕ × ℕ;
  Lent = List ℕ;
  Reply = ℕ;
  promise = λ (text, budget) lent left r. Answered (OfText text (FewestFor budget)) lent left r;
  checks = λ (text, budget) lent. estimator_checks text (λ c. fewest_checks c budget) lent;
  refuses = Coded;
}

-- `wz_replay`
abbrev pub wz_replay_call : Call
wz_replay_call = record {
  Input = List ℕ × List ℕ;
  Lent = List ℕ;
  Reply = ℕ;
  promise = λ (text, steps) lent left r. Answered (OfText text (ReplayFor steps)) lent left r;
  checks = λ (text, steps) lent. estimator_checks text (λ c. text_replay_checks c steps) lent;
  refuses = Coded;
}
