-- The day report: `observed count n`, the derivation's steps, `xv yes` or `xv no` followed by the number of unconfirmed units, and `end`.
use Rattle.std.specs.Prelude.{◌≡◌, List, [], ◌∷◌, ◌++◌, ℕ, zero, suc, ◌+◌, ◌*◌, Result, Ok, Err}
use Rattle.grid.specs.Limits.{most_buses}
use Rattle.busset.specs.Sets.{size}
use Rattle.step.specs.declared.Step.{Step}
use Rattle.rules.specs.Observation.{ObservedSet}
use Rattle.rules.specs.Derivation.{Derivation}
use Rattle.rules.specs.Confirming.{UnconfirmedSet}
use Rattle.text_field.specs.Split.{bytes, line_feed}
use Rattle.text_field.specs.Number.{number_text}
use Rattle.step_line.specs.StepLine.{step_text}
use Rattle.grid.specs.declared.Case.{Case}
use Rattle.refusals.specs.Calls.{Call}
use Rattle.refusals.specs.declared.Refusal.{Refusal}
use Rattle.grid.specs.Cases.{grid_of}
use Rattle.case_read.specs.Reading.{read_case}
use Rattle.report_lines.specs.Printing.{printed_line, IsRefusedText, printing_call}

-- ---- its lines

-- a line for each step
unfoldable pub steps_text : List Step → List ℕ
steps_text [] = []
steps_text (x ∷ xs) = step_text x ++ line_feed ∷ steps_text xs

-- yes, or no and how many units no other unit confirms
abbrev pub verdict_fields : ℕ → List (List ℕ)
verdict_fields zero = bytes "yes" ∷ []
verdict_fields (suc k) = bytes "no" ∷ number_text (suc k) ∷ []

-- the report where so many of n buses are observed, by these steps, and so many units are unconfirmed
abbrev pub day_text : ℕ → ℕ → List Step → ℕ → List ℕ
day_text count n steps alone =
    printed_line (bytes "observed") (number_text count ∷ number_text n ∷ [])
    ++ (steps_text steps
    ++ (printed_line (bytes "xv") (verdict_fields alone)
    ++ printed_line (bytes "end") []))

-- the most bytes of a report: 13 for each step, and 28 for the other lines
abbrev pub day_room : ℕ
day_room = 28 + 13 * most_buses

-- ---- what is printed

-- t is the report of the case c
pub record DayReport (c : Case) (t : List ℕ) : Type 0 where
  pub observed : ℕ
  pub least : ObservedSet (grid_of c) observed
  pub steps : List Step
  pub derived : Derivation (grid_of c) steps
  pub unconfirmed : ℕ
  pub verdict : UnconfirmedSet (grid_of c).neighbours (grid_of c).units unconfirmed
  pub is : t ≡ day_text (size observed) c.n steps (size unconfirmed)

-- by what reading says: the report of the case, or the refusal
abbrev pub DayFor : Result Case Refusal → List ℕ → Type 0
DayFor (Ok c) t = DayReport c t
DayFor (Err q) t = IsRefusedText q t

-- t is what the day report prints for the case text
abbrev pub DayPrinted : List ℕ → List ℕ → Type 0
DayPrinted text t = DayFor (read_case text) t

-- `day_report`
abbrev pub day_report_call : Call
day_report_call = printing_call DayPrinted
