-- Reading a case text: its lines one after another, each a record that is the next, the last, or refused.
use Rattle.std.specs.Prelude.{cond, List, [], ◌∷◌, ℕ, ◌+◌, ltb, length, Result, Ok, Err}
use Rattle.grid.specs.Rows.{no_rows}
use Rattle.text_field.specs.Split.{split, line_feed}
use Rattle.case_line.specs.Record.{record_of}
use Rattle.case_line.specs.declared.Record.{Record}
use Rattle.grid.specs.Limits.{most_bytes}
use Rattle.grid.specs.declared.Case.{Case}
use Rattle.refusals.specs.declared.Refusal.{Refusal}
use Rattle.refusals.specs.declared.Refusal.TheVariants.{TextTooLong, WrongForm}
use Rattle.case_judge.specs.Judging.{judged, next_place, fault_refusal}
use Rattle.case_judge.specs.declared.Standing.{Standing}
use Rattle.case_judge.specs.declared.Standing.TheVariants.{Next, Last}
use Rattle.case_judge.specs.declared.Fault.{Fault}
use Rattle.case_build.specs.Building.{next_rows, next_marks, no_marks, case_with}
use Rattle.case_read.specs.declared.Reader.{Reader}

-- nothing is read yet
abbrev pub start : Reader
start = record { place = record { n = 0; bus = 0; a = 0; b = 0; lines = 0; unit = 0 }; rows = no_rows; marks = no_marks }

-- what has been read after one record more
abbrev pub next_reader : Reader → Record → Reader
next_reader s r = record { place = next_place s.place r; rows = next_rows s.rows r; marks = next_marks s.marks r }

-- the case that has been read
abbrev pub case_so_far : Reader → Case
case_so_far s = case_with s.place.n s.rows s.marks

-- nothing follows `end`: what would, stands on line k
abbrev pub case_ended : Case → ℕ → List ℕ → List (List ℕ) → Result Case Refusal
case_ended c k [] [] = Ok c
case_ended c k [] (m ∷ ms) = Err (WrongForm k)
case_ended c k (b ∷ l) ms = Err (WrongForm k)

-- what is said of line k
abbrev pub record_said : Result Standing Fault → ℕ → Result Case Refusal → Result Case Refusal → Result Case Refusal
record_said (Ok Next) k on end = on
record_said (Ok Last) k on end = end
record_said (Err f) k on end = Err (fault_refusal f k)

-- line k, and the pieces after its line feed; where there are none, its line feed is missing
unfoldable pub read_lines : Reader → ℕ → List ℕ → List (List ℕ) → Result Case Refusal
read_lines s k l [] = Err (WrongForm k)
read_lines s k l (m ∷ ms) =
    record_said (judged s.place (record_of l)) k
    (read_lines (next_reader s (record_of l)) (k + 1) m ms)
    (case_ended (case_so_far s) (k + 1) m ms)

-- a text whose first line is line k
unfoldable pub read_text : ℕ → List ℕ → Result Case Refusal
read_text k text = read_lines start k (split line_feed text).first (split line_feed text).rest

-- a case text
unfoldable pub read_case : List ℕ → Result Case Refusal
read_case text = cond (ltb most_bytes (length text)) (Err TextTooLong) (read_text 1 text)
