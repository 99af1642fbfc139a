-- What reading a step text checks, line after line.
use Rattle.std.specs.Prelude.{◌≡◌, Bool, true, false, List, [], ◌∷◌, ◌++◌, ℕ, ◌+◌, ◌≤◌, length}
use Rattle.text_field.specs.Split.{split, line_feed}
use Rattle.step_line.specs.StepLine.{step_line_of}
use Rattle.step_line.specs.declared.StepLine.{StepLine}
use Rattle.step_line.specs.declared.StepLine.TheVariants as line
use Rattle.grid.specs.Limits.{most_steps, most_step_bytes}
use Rattle.refusals.specs.Refusals.{Check, check_that}
use Rattle.case_read.specs.Checks.{NothingFollows}
use Rattle.step_text.specs.Steps.{step_in_range, steps_of}

-- the line is a step or `end`; if not, refusal 2
abbrev pub is_formed : StepLine → Bool
is_formed (line.Step x) = true
is_formed line.End = true
is_formed line.Wrong = false

-- a step's numbers are 1 to 64; if not, refusal 3
abbrev pub is_ranged : StepLine → Bool
is_ranged (line.Step x) = step_in_range x
is_ranged line.End = true
is_ranged line.Wrong = true

-- step k is at most the 1,024th; if not, refusal 12
abbrev pub HasTurn : StepLine → ℕ → Type 0
HasTurn (line.Step x) k = k ≤ most_steps
HasTurn line.End k = Unit {0}
HasTurn line.Wrong k = Unit {0}

-- the checks after a line of a step text: `end` after `end`, `on` after a step
abbrev pub after_step : StepLine → List Check → List Check → List Check
after_step (line.Step x) end on = on
after_step line.End end on = end
after_step line.Wrong end on = on

-- line k and the pieces after its line feed: 2, 3, 12, then the lines after it
abbrev pub step_line_checks : ℕ → List ℕ → List (List ℕ) → List Check
step_line_checks k l [] = check_that ⊥ 2 k ∷ []
step_line_checks k l (m ∷ ms) =
    check_that (is_formed (step_line_of l) ≡ true) 2 k
    ∷ check_that (is_ranged (step_line_of l) ≡ true) 3 k
    ∷ check_that (HasTurn (step_line_of l) k) 12 k
    ∷ after_step (step_line_of l) (check_that (NothingFollows m ms) 2 (k + 1) ∷ []) (step_line_checks (k + 1) m ms)

-- 1, then the first bad line
abbrev pub step_text_checks : List ℕ → List Check
step_text_checks text =
    check_that (length text ≤ most_step_bytes) 1 0 ∷ step_line_checks 1 (split line_feed text).first (split line_feed text).rest

-- a step text read into so many records: 6 last
abbrev pub steps_read_checks : List ℕ → ℕ → List Check
steps_read_checks text room = step_text_checks text ++ check_that (length (steps_of text) ≤ room) 6 0 ∷ []
