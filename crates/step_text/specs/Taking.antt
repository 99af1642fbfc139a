-- The steps of a step text: one taken at a place of the text, and all of them read into lent records.
use Rattle.refusals.specs.declared.Refusal.{Refusal}
use Rattle.std.specs.Prelude.{◌≡◌, cond, List, [], ℕ, ltb, length, drop, get_or, Option, Some, None, Result, Ok, Err}
use Rattle.step.specs.Records.{no_step, written_into}
use Rattle.step.specs.declared.Step.{Step}
use Rattle.refusals.specs.declared.Refusal.TheVariants.{NoRoom}
use Rattle.refusals.specs.Calls.{Call, Refuses}
use Rattle.step_text.specs.Steps.{read_steps, steps_from, steps_of, StepHere}
use Rattle.step_text.specs.Checks.{steps_read_checks}
use Rattle.step_text.specs.declared.taking.Taken.{Taken}

-- ---- one step

-- the step of the line that starts at index a, and where the next line starts; or that no step stands from there on
abbrev pub StepAt : List ℕ → ℕ → Option Taken → Type 0
StepAt text a (Some t) = StepHere text a t.step t.next
StepAt text a None = steps_from text a ≡ []

-- ---- a step text read into lent records, which hold `before` and then `after`

-- what is said where there is room for so many records: 6 comes last
abbrev pub with_room : ℕ → Result ℕ Refusal → Result ℕ Refusal
with_room room (Ok n) = cond (ltb room n) (Err NoRoom) (Ok n)
with_room room (Err q) = Err q

-- what the records hold afterwards: the steps, and then what they held; a refusal leaves every record
abbrev pub leaves : Result ℕ Refusal → List Step → List Step → List Step
leaves (Ok n) xs before = written_into xs before
leaves (Err q) xs before = before

-- the reply, and what every record lent holds afterwards
abbrev pub StepsReadReply : List ℕ → List Step → List Step → Result ℕ Refusal → Type 0
StepsReadReply text before after r = (r ≡ with_room (length before) (read_steps text)) × (after ≡ leaves r (steps_of text) before)

-- `read_steps`
abbrev pub read_steps_call : Call
read_steps_call = record {
  Input = List ℕ;
  Lent = List Step;
  Reply = Result ℕ Refusal;
  promise = λ text before after r. StepsReadReply text before after r;
  checks = λ text lent. steps_read_checks text (length lent);
  refuses = Refuses Err;
}

-- how many records are written
abbrev pub count_read : Result ℕ Refusal → ℕ
count_read (Ok n) = n
count_read (Err q) = 0

-- the first step from index a on, and the next line's start: the other steps are those from there on
pub record Takes (text : List ℕ) (a : ℕ) (r : Taken) : Type 0 where
  pub step : r.step ≡ get_or (steps_from text a) 0 no_step
  pub rest : steps_from text r.next ≡ drop 1 (steps_from text a)
