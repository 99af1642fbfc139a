-- What each call on texts promises. That of `read_steps` is `StepsReadReply` (step_text), of `replay_text` `TextReplayReply` (step_replay).
use Rattle.refusals.specs.declared.Refusal.{Refusal}
use Rattle.std.specs.Prelude.{◌≡◌, List, [], ◌∷◌, ◌++◌, ℕ, ◌≤◌, length, drop, Result, Ok, Err}
use Rattle.grid.specs.declared.Case.{Case}
use Rattle.grid.specs.Cases.{Valid}
use Rattle.refusals.specs.Refusals.{Check, check_that, Passed, Failed}
use Rattle.refusals.specs.Calls.{Call, Refuses}
use Rattle.case_read.specs.Reading.{read_case}
use Rattle.case_read.specs.Checks.{case_checks}
use Rattle.case_line.specs.CaseText.{case_text}
use Rattle.step_text.specs.Steps.{read_steps}
use Rattle.step_text.specs.Checks.{step_text_checks}

-- ---- a case text read: 1, then the first bad line, in it 2, 3, 4

-- the case that the text says, or its refusal
abbrev pub CaseReadReply : List ℕ → Result Case Refusal → Type 0
CaseReadReply text r = r ≡ read_case text

-- `read_case`
abbrev pub read_case_call : Call
read_case_call = record {
  Input = List ℕ;
  Lent = Unit {0};
  Reply = Result Case Refusal;
  promise = λ text before after r. CaseReadReply text r;
  checks = λ text lent. case_checks text;
  refuses = Refuses Err;
}

-- ---- a case text written into the bytes lent

-- the case is valid, or 5; its text has room, or 6
abbrev pub write_checks : Case → List ℕ → List Check
write_checks c lent = check_that (Valid c) 5 0 ∷ check_that (length (case_text c) ≤ length lent) 6 0 ∷ []

-- the bytes after the text stay as they were; a refusal leaves every byte
abbrev pub CaseWrittenReply : Case → List ℕ → Result ℕ Refusal → List ℕ → Type 0
CaseWrittenReply c lent (Ok k) left =
    Passed (write_checks c lent) × (k ≡ length (case_text c)) × (left ≡ case_text c ++ drop (length (case_text c)) lent)
CaseWrittenReply c lent (Err r) left = Failed (write_checks c lent) r × (left ≡ lent)

-- `write_case`
abbrev pub write_case_call : Call
write_case_call = record {
  Input = Case;
  Lent = List ℕ;
  Reply = Result ℕ Refusal;
  promise = λ c lent left r. CaseWrittenReply c lent r left;
  checks = λ c lent. write_checks c lent;
  refuses = Refuses Err;
}

-- ---- a step text checked: 1, then the first bad line, in it 2, 3, 12

-- how many steps the text has, or its refusal
abbrev pub StepsCheckedReply : List ℕ → Result ℕ Refusal → Type 0
StepsCheckedReply text r = r ≡ read_steps text

-- `check_steps`
abbrev pub check_steps_call : Call
check_steps_call = record {
  Input = List ℕ;
  Lent = Unit {0};
  Reply = Result ℕ Refusal;
  promise = λ text before after r. StepsCheckedReply text r;
  checks = λ text lent. step_text_checks text;
  refuses = Refuses Err;
}
