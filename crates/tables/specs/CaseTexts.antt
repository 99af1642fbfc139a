-- Case texts: what reading one says, the case that it gives, and the text that a case has.
use Rattle.std.specs.Prelude.{List, [], ◌∷◌, ◌++◌, ℕ, suc, ◌-◌, ◌*◌, replicate, Result, Ok, Err}
use Prim.Native.String.{String}
use Rattle.text_field.specs.Split.{bytes, line_feed}
use Rattle.busset.specs.Held.{empty_word}
use Rattle.case_line.specs.Record.{record_text}
use Rattle.case_line.specs.declared.Record.{Record}
use Rattle.case_line.specs.declared.Record.TheVariants.{Grid, Line, Circuits, Pmu, End, Wrong}
use Rattle.grid.specs.declared.Case.{Case}
use Rattle.grid.specs.Limits.{most_buses, most_lines, most_circuits, least_several, most_bytes}
use Rattle.grid.specs.Rows.{Rows, bus_sets, with_line}
use Rattle.grid.specs.Cases.{line_added}
use Rattle.refusals.specs.declared.Refusal.{Refusal}
use Rattle.refusals.specs.declared.Refusal.TheVariants.{TextTooLong, WrongForm, OutOfRange, OutOfOrder}
use Rattle.case_judge.specs.Judging.{judged}
use Rattle.case_read.specs.Reading.{start, read_case}
use Rattle.case_inverse.specs.Grammar as grammar
use Rattle.case_line.specs.CaseText.{case_text}
use Rattle.case_judge.specs.declared.Place.{Place}
use Rattle.case_judge.specs.declared.Standing.{Standing}
use Rattle.case_judge.specs.declared.Standing.TheVariants.{Next, Last}
use Rattle.case_judge.specs.declared.Fault.{Fault}
use Rattle.case_judge.specs.declared.Fault.TheVariants.{Form, Range, Order}
use Rattle.tables.specs.Starred.{Drawing, word_with, singles, drawn_case, seven, path}
use Rattle.tables.specs.Tables.{Right, Reads, said, Row, holds, fails, block}
use Rattle.tables.specs.Drawings.{value}

-- ---- whole texts

-- document 01's input of the day report: `grid` and every `bus`
abbrev pub seven_buses : List String
seven_buses =
    "grid 7"
    ∷ "bus 1 I Y"
    ∷ "bus 2 Z Y"
    ∷ "bus 3 Z Y"
    ∷ "bus 4 I Y"
    ∷ "bus 5 Z Y"
    ∷ "bus 6 I Y"
    ∷ "bus 7 I Y"
    ∷ []

-- every `line`
abbrev pub seven_lines : List String
seven_lines = "line 1 2" ∷ "line 2 3" ∷ "line 3 4" ∷ "line 3 7" ∷ "line 4 5" ∷ "line 5 6" ∷ []

-- and all of it
abbrev pub input : List String
input = seven_buses ++ (seven_lines ++ "pmu 3" ∷ "end" ∷ [])

-- the same grid with no units
abbrev pub bare_input : List String
bare_input = seven_buses ++ (seven_lines ++ "end" ∷ [])

-- the path 1-2-3-4-5, only 3 is Z, units at 1 and 5
abbrev pub path_input : List String
path_input =
    "grid 5" ∷ "bus 1 I Y" ∷ "bus 2 I Y" ∷ "bus 3 Z Y" ∷ "bus 4 I Y" ∷ "bus 5 I Y"
    ∷ "line 1 2" ∷ "line 2 3" ∷ "line 3 4" ∷ "line 4 5" ∷ "pmu 1" ∷ "pmu 5" ∷ "end" ∷ []

-- one bus, Z with site N, and a unit on it
abbrev pub one_input : List String
one_input = "grid 1" ∷ "bus 1 Z N" ∷ "pmu 1" ∷ "end" ∷ []

-- three buses in a row, the middle one Z, a unit at the first; the second line is a double circuit
abbrev pub double_input : List String
double_input =
    "grid 3" ∷ "bus 1 I Y" ∷ "bus 2 Z Y" ∷ "bus 3 I Y" ∷ "line 1 2" ∷ "line 2 3 2" ∷ "pmu 1" ∷ "end" ∷ []

-- the same, with single circuits
abbrev pub single_row : Drawing
single_row = record { n = 3; lines = (1, 2) ∷ (2, 3) ∷ []; zeros = 2 ∷ []; units = 1 ∷ [] }

-- its case
abbrev pub double_case : Case
double_case = line_added (drawn_case single_row) 2 3 2

-- the case of the one bus
abbrev pub one_case : Case
one_case = value 1 [] (1 ∷ []) [] (1 ∷ [])

-- texts, and the case that each gives
abbrev pub case_table : List (List ℕ × Result Case Refusal)
case_table =
    (block input, Ok (drawn_case (seven (3 ∷ []))))
    ∷ (block bare_input, Ok (drawn_case (seven [])))
    ∷ (block path_input, Ok (drawn_case path))
    ∷ (block one_input, Ok one_case)
    ∷ (block double_input, Ok double_case)
    -- a refusal has no case
    ∷ (bytes "", Err (WrongForm 1))
    ∷ []

-- every row is right
abbrev pub CasesRight : Type 0
CasesRight = Right read_case case_table

-- cases, and the text of each
abbrev pub case_text_table : List (Case × List ℕ)
case_text_table =
    (drawn_case (seven (3 ∷ [])), block input)
    ∷ (drawn_case path, block path_input)
    ∷ (one_case, block one_input)
    ∷ (double_case, block double_input)
    ∷ []

-- every row is right
abbrev pub CaseTextsRight : Type 0
CaseTextsRight = Right case_text case_text_table

-- the texts that the order of records allows from the start on, and texts that it does not
abbrev pub grammar_table : List Row
grammar_table =
    holds (grammar.ReadsAs start (block one_input) one_case)
    ∷ fails (grammar.ReadsAs start (bytes "end\n") (value 0 [] [] [] []))
    ∷ fails (grammar.ReadsAs start (block ("grid 1" ∷ "pmu 1" ∷ "bus 1 Z N" ∷ "end" ∷ [])) one_case)
    ∷ []

-- a line of three buses and its circuits, and the rows with it: each end has the other, and counts the circuits in its digits
abbrev pub wired_table : List ((ℕ × ℕ × ℕ) × Rows)
wired_table =
    ((1, 3, 1), singles (word_with (3 ∷ []) ∷ empty_word ∷ word_with (1 ∷ []) ∷ []))
    ∷ ((1, 2, 1), singles (word_with (2 ∷ []) ∷ word_with (1 ∷ []) ∷ empty_word ∷ []))
    ∷ (
      (1, 2, 6),
      word_with (2 ∷ []) ∷ empty_word ∷ word_with (2 ∷ []) ∷ word_with (2 ∷ []) ∷ empty_word
          ∷ word_with (1 ∷ []) ∷ empty_word ∷ word_with (1 ∷ []) ∷ word_with (1 ∷ []) ∷ empty_word ∷ replicate bus_sets empty_word,
    )
    ∷ []

-- every row is right
abbrev pub WiredRight : Type 0
WiredRight = Right (λ q. with_line (replicate (bus_sets * 3) empty_word) q.0 q.1 q.2) wired_table

-- ---- refusals

-- texts from line 1 on
abbrev pub whole_text_table : List (String × Result (Unit {0}) Refusal)
whole_text_table =
    ("grid\t1\nbus\t1\tI\tY\nend\n", Ok tt)
    -- a missing record, at the line where it should stand
    ∷ ("", Err (WrongForm 1))
    ∷ ("\n", Err (WrongForm 1))
    ∷ ("bus\t1\tI\tY\n", Err (WrongForm 1))
    ∷ ("grid\t2\nend\n", Err (WrongForm 2))
    ∷ ("grid\t2\nline\t1\t2\n", Err (WrongForm 2))
    ∷ ("grid\t2\nbus\t1\tI\tY\npmu\t1\n", Err (WrongForm 3))
    -- a missing line feed comes before 3 and 4
    ∷ ("grid\t9999", Err (WrongForm 1))
    ∷ ("grid\t2\nbus\t2\tI\tY", Err (WrongForm 2))
    -- 3
    ∷ ("grid\t0\n", Err (OutOfRange 1))
    ∷ ("grid\t9999\n", Err (OutOfRange 1))
    ∷ ("grid\t2\nbus\t3\tI\tY\n", Err (OutOfRange 2))
    ∷ ("grid\t2\nbus\t0\tI\tY\n", Err (OutOfRange 2))
    -- 4
    ∷ ("grid\t2\nbus\t2\tI\tY\n", Err (OutOfOrder 2))
    ∷ ("grid\t2\nbus\t1\tI\tY\nbus\t1\tI\tY\n", Err (OutOfOrder 3))
    -- 2 before 3, and the first bad line first
    ∷ ("grid\t7\nbus\t9\tQ\tY\n", Err (WrongForm 2))
    ∷ ("grid\t7\nbus\t9\tI\tY\nbus\n", Err (OutOfRange 2))
    ∷ []

-- every row is right
abbrev pub WholeTextsRight : Type 0
WholeTextsRight = Reads (λ s. said (read_case s)) whole_text_table

-- `grid` alone: up to the most buses the next record is missing, one more is out of range
abbrev pub bus_limit_table : List (ℕ × Result (Unit {0}) Refusal)
bus_limit_table = (most_buses, Err (WrongForm 2)) ∷ (suc most_buses, Err (OutOfRange 1)) ∷ []

-- every row is right
abbrev pub BusLimitsRight : Type 0
BusLimitsRight = Right (λ n. said (read_case (record_text (Grid n) ++ line_feed ∷ []))) bus_limit_table

-- how a text goes on after the seven-bus grid's `grid` and every `bus`, from line 9 on
abbrev pub later_line_table : List (String × Result (Unit {0}) Refusal)
later_line_table =
    ("end\n", Ok tt)
    ∷ ("line\t1\t2\nend\n", Ok tt)
    ∷ ("line\t1\t2\t2\nend\n", Ok tt)
    ∷ ("line\t1\t2\t8\nend\n", Ok tt)
    ∷ ("pmu\t3\nend\n", Ok tt)
    -- a missing record or line feed
    ∷ ("", Err (WrongForm 9))
    ∷ ("end", Err (WrongForm 9))
    ∷ ("line\t9\t1", Err (WrongForm 9))
    ∷ ("line\t9\t1\t02\n", Err (WrongForm 9))
    ∷ ("line\t1\t2\n", Err (WrongForm 10))
    -- another record than may stand there
    ∷ ("bus\t8\tI\tY\n", Err (WrongForm 9))
    ∷ ("grid\t7\n", Err (WrongForm 9))
    ∷ ("pmu\t3\nline\t1\t2\nend\n", Err (WrongForm 10))
    -- bytes after `end`, at the line after it
    ∷ ("end\n\n", Err (WrongForm 10))
    ∷ ("end\nend\n", Err (WrongForm 10))
    ∷ ("end\n\0", Err (WrongForm 10))
    -- 3 before 4
    ∷ ("line\t9\t1\n", Err (OutOfRange 9))
    ∷ ("line\t0\t1\n", Err (OutOfRange 9))
    ∷ ("line\t1\t8\n", Err (OutOfRange 9))
    ∷ ("line\t1\t2\t0\n", Err (OutOfRange 9))
    ∷ ("line\t1\t2\t1\n", Err (OutOfRange 9))
    ∷ ("line\t1\t2\t9\n", Err (OutOfRange 9))
    ∷ ("line\t2\t1\t9\n", Err (OutOfRange 9))
    ∷ ("pmu\t8\n", Err (OutOfRange 9))
    ∷ ("pmu\t0\n", Err (OutOfRange 9))
    -- rising is strict, by a and then b
    ∷ ("line\t5\t3\n", Err (OutOfOrder 9))
    ∷ ("line\t3\t3\n", Err (OutOfOrder 9))
    ∷ ("line\t1\t2\nline\t1\t2\n", Err (OutOfOrder 10))
    ∷ ("line\t1\t2\nline\t1\t2\t2\n", Err (OutOfOrder 10))
    ∷ ("line\t2\t1\t2\n", Err (OutOfOrder 9))
    ∷ ("line\t1\t7\nline\t1\t2\n", Err (OutOfOrder 10))
    ∷ ("line\t2\t3\nline\t1\t7\n", Err (OutOfOrder 10))
    ∷ ("line\t1\t7\nline\t2\t3\nend\n", Ok tt)
    ∷ ("pmu\t3\npmu\t3\n", Err (OutOfOrder 10))
    ∷ ("pmu\t3\npmu\t2\n", Err (OutOfOrder 10))
    ∷ []

-- every row is right
abbrev pub LaterLinesRight : Type 0
LaterLinesRight = Right (λ s. said (read_case (block seven_buses ++ bytes s))) later_line_table

-- line feeds alone: the most bytes of them are 2 at line 1, one more is 1
abbrev pub case_limit_table : List (ℕ × Result (Unit {0}) Refusal)
case_limit_table = (most_bytes, Err (WrongForm 1)) ∷ (suc most_bytes, Err TextTooLong) ∷ []

-- every row is right
abbrev pub CaseLimitsRight : Type 0
CaseLimitsRight = Right (λ k. said (read_case (replicate k line_feed))) case_limit_table

-- ---- one line more than the most

-- where the most buses and k lines are read, the last of which is line 5 9
abbrev pub lined : ℕ → Place
lined k = record { n = most_buses; bus = most_buses; a = 5; b = 9; lines = k; unit = 0 }

-- records that stand there, and what is said of each: a line above the most is 3, also with a above b; a bad form is 2
abbrev pub judgement_table : List ((ℕ × Record) × Result Standing Fault)
judgement_table =
    ((most_lines - 1, Line 6 7), Ok Next)
    ∷ ((most_lines, Line 6 7), Err Range)
    ∷ ((most_lines, Line 7 6), Err Range)
    -- whatever its circuits
    ∷ ((most_lines - 1, Circuits 6 7 most_circuits), Ok Next)
    ∷ ((most_lines - 1, Circuits 6 7 (suc most_circuits)), Err Range)
    ∷ ((most_lines, Circuits 6 7 least_several), Err Range)
    ∷ ((most_lines - 1, Line 7 6), Err Order)
    ∷ ((most_lines, Wrong), Err Form)
    ∷ ((most_lines, Grid most_buses), Err Form)
    ∷ ((most_lines, Pmu most_buses), Ok Next)
    ∷ ((most_lines, End), Ok Last)
    ∷ []

-- every row is right
abbrev pub JudgementsRight : Type 0
JudgementsRight = Right (λ q. judged (lined q.0) q.1) judgement_table
