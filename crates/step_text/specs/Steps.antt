-- Reading a step text: `step bus O`, `step bus N p` or `step bus Z w`, line after line, then `end`.
use Rattle.refusals.specs.declared.Refusal.{Refusal}
use Rattle.std.specs.Prelude.{Option, Some, None, Result, Ok, Err}
use Rattle.std.specs.Prelude.{Bool, true, cond, ◌&&◌, List, [], ◌∷◌, ℕ, ◌+◌, ◌-◌, ◌≤◌, ◌<◌, ◌≡◌, ltb, length, drop}
use Rattle.text_field.specs.Split.{split, line_feed}
use Rattle.step.specs.declared.Reason.{Reason}
use Rattle.step.specs.declared.Step.{Step}
use Rattle.step.specs.Reasons.{named_by}
use Rattle.step_line.specs.StepLine.{step_line_of}
use Rattle.step_line.specs.declared.StepLine.{StepLine}
use Rattle.step_line.specs.declared.StepLine.TheVariants.{Step as StepOf, End, Wrong}
use Rattle.grid.specs.Limits.{most_buses, most_steps, most_step_bytes}
use Rattle.refusals.specs.declared.Refusal.TheVariants.{TextTooLong, WrongForm, OutOfRange, TooManySteps}
use Rattle.case_judge.specs.Judging.{is_bus}

-- ---- one line

-- the bus that is named, if one is, is 1 to 64; if not, refusal 3
abbrev pub named_in_range : Option ℕ → Bool
named_in_range None = true
named_in_range (Some b) = is_bus most_buses b

-- the bus that a reason names, if it names one, is 1 to 64; if not, refusal 3
abbrev pub reason_in_range : Reason → Bool
reason_in_range r = named_in_range (named_by r)

-- a step's numbers are 1 to 64; if not, refusal 3
unfoldable pub step_in_range : Step → Bool
step_in_range x = is_bus most_buses x.bus && reason_in_range x.reason

-- after `end`, on line k, nothing follows: k - 1 steps were read
abbrev pub ended : ℕ → List ℕ → List (List ℕ) → Result ℕ Refusal
ended k [] [] = Ok (k - 1)
ended k [] (m ∷ ms) = Err (WrongForm (k + 1))
ended k (b ∷ l) ms = Err (WrongForm (k + 1))

-- what is said of line k, which holds step k: 2 before 3 before 12
abbrev pub line_said : StepLine → ℕ → Result ℕ Refusal → Result ℕ Refusal → Result ℕ Refusal
line_said (StepOf x) k on end = cond (step_in_range x) (cond (ltb most_steps k) (Err (TooManySteps k)) on) (Err (OutOfRange k))
line_said End k on end = end
line_said Wrong k on end = Err (WrongForm k)

-- ---- line after line

-- line k, and the pieces after its line feed; where there are none, its line feed is missing
unfoldable pub step_lines : ℕ → List ℕ → List (List ℕ) → Result ℕ Refusal
step_lines k l [] = Err (WrongForm k)
step_lines k l (m ∷ ms) = line_said (step_line_of l) k (step_lines (k + 1) m ms) (ended k m ms)

-- a step text: how many steps it has, or its refusal
unfoldable pub read_steps : List ℕ → Result ℕ Refusal
read_steps text =
    cond (ltb most_step_bytes (length text)) (Err TextTooLong)
    (step_lines 1 (split line_feed text).first (split line_feed text).rest)

-- ---- the steps

-- a step, and those after it
abbrev pub and_steps : StepLine → List Step → List Step
and_steps (StepOf x) xs = x ∷ xs
and_steps End xs = []
and_steps Wrong xs = []

-- the steps of ended lines, as far as each is one
unfoldable pub steps_in : List ℕ → List (List ℕ) → List Step
steps_in l [] = []
steps_in l (m ∷ ms) = and_steps (step_line_of l) (steps_in m ms)

-- the steps of a text from index a on
unfoldable pub steps_from : List ℕ → ℕ → List Step
steps_from text a = steps_in (split line_feed (drop a text)).first (split line_feed (drop a text)).rest

-- the steps of a text
abbrev pub steps_of : List ℕ → List Step
steps_of text = steps_from text 0

-- the first step from index a on and where the next line starts, or none
pub record StepHere (text : List ℕ) (a : ℕ) (x : Step) (e : ℕ) : Type 0 where
  pub steps : steps_from text a ≡ x ∷ steps_from text e
  pub later : a < e
  pub high : e ≤ length text
