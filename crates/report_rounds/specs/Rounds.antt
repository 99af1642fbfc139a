-- The rounds report: for each round `round`, its number and its buses, rising; then `end`.
use Rattle.std.specs.Prelude.{◌≡◌, List, [], ◌∷◌, ◌++◌, ℕ, suc, ◌+◌, ◌*◌, Result, Ok, Err}
use Rattle.text_field.specs.Split.{bytes}
use Rattle.text_field.specs.Number.{number_text}
use Rattle.rules.specs.Rounds.{RoundsOf}
use Rattle.grid.specs.declared.Case.{Case}
use Rattle.grid.specs.Limits.{most_buses}
use Rattle.grid.specs.Cases.{grid_of}
use Rattle.refusals.specs.Calls.{Call}
use Rattle.refusals.specs.declared.Refusal.{Refusal}
use Rattle.case_read.specs.Reading.{read_case}
use Rattle.report_lines.specs.Printing.{printed_line, IsRefusedText, printing_call}

-- ---- its lines

-- a field for each bus
unfoldable pub round_fields : List ℕ → List (List ℕ)
round_fields [] = []
round_fields (b ∷ buses) = number_text b ∷ round_fields buses

-- round i, which adds these buses
abbrev pub round_line : ℕ → List ℕ → List ℕ
round_line i buses = printed_line (bytes "round") (number_text i ∷ round_fields buses)

-- a line for each round, numbered from i on
unfoldable pub round_lines : ℕ → List (List ℕ) → List ℕ
round_lines i [] = []
round_lines i (r ∷ rounds) = round_line i r ++ round_lines (suc i) rounds

-- the report of these rounds
abbrev pub rounds_text : List (List ℕ) → List ℕ
rounds_text rounds = round_lines 1 rounds ++ printed_line (bytes "end") []

-- the most bytes of a report: 9 for each round, 3 for each bus, and 4 for the last line
abbrev pub rounds_room : ℕ
rounds_room = 4 + 12 * most_buses

-- ---- what is printed

-- t is the report of the case c
pub record RoundsReport (c : Case) (t : List ℕ) : Type 0 where
  pub rounds : List (List ℕ)
  pub are : RoundsOf (grid_of c) rounds
  pub is : t ≡ rounds_text rounds

-- by what reading says: the report of the case, or the refusal
abbrev pub RoundsFor : Result Case Refusal → List ℕ → Type 0
RoundsFor (Ok c) t = RoundsReport c t
RoundsFor (Err q) t = IsRefusedText q t

-- t is what the rounds report prints for the case text
abbrev pub RoundsPrinted : List ℕ → List ℕ → Type 0
RoundsPrinted text t = RoundsFor (read_case text) t

-- `rounds_report`
abbrev pub rounds_report_call : Call
rounds_report_call = printing_call RoundsPrinted
