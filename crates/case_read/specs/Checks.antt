-- What reading a case text checks, line after line.
use Rattle.std.specs.Prelude.{◌≡◌, true, List, [], ◌∷◌, ℕ, ◌+◌, ◌≤◌, length}
use Rattle.text_field.specs.Split.{split, line_feed}
use Rattle.case_line.specs.Record.{record_of}
use Rattle.case_line.specs.declared.Record.{Record}
use Rattle.case_line.specs.declared.Record.TheVariants.{Grid, Bus, Line, Circuits, Pmu, End, Wrong}
use Rattle.grid.specs.Limits.{most_bytes}
use Rattle.refusals.specs.Refusals.{Check, check_that}
use Rattle.case_judge.specs.Judging.{in_place, in_range, in_order}
use Rattle.case_read.specs.Reading.{start, next_reader}
use Rattle.case_read.specs.declared.Reader.{Reader}

-- nothing follows `end`
abbrev pub NothingFollows : List ℕ → List (List ℕ) → Type 0
NothingFollows [] [] = Unit {0}
NothingFollows [] (m ∷ ms) = ⊥
NothingFollows (b ∷ l) ms = ⊥

-- the checks after a record: `end` after `end`, `on` after another
abbrev pub after_record : Record → List Check → List Check → List Check
after_record (Grid n) end on = on
after_record (Bus k zero site) end on = on
after_record (Line a b) end on = on
after_record (Circuits a b k) end on = on
after_record (Pmu p) end on = on
after_record End end on = end
after_record Wrong end on = on

-- line k, where the reader stands so, and the pieces after its line feed: it has one, and its record may stand here, or 2; 3; 4;
-- then the lines after it
abbrev pub line_checks : Reader → ℕ → List ℕ → List (List ℕ) → List Check
line_checks s k l [] = check_that ⊥ 2 k ∷ []
line_checks s k l (m ∷ ms) =
    check_that (in_place s.place (record_of l) ≡ true) 2 k
    ∷ check_that (in_range s.place (record_of l) ≡ true) 3 k
    ∷ check_that (in_order s.place (record_of l) ≡ true) 4 k
    ∷ after_record (record_of l) (check_that (NothingFollows m ms) 2 (k + 1) ∷ []) (line_checks (next_reader s (record_of l)) (k + 1) m ms)

-- a text whose first line is line k
abbrev pub lines_from : ℕ → List ℕ → List Check
lines_from k text = line_checks start k (split line_feed text).first (split line_feed text).rest

-- 1, then the first bad line
abbrev pub case_checks : List ℕ → List Check
case_checks text = check_that (length text ≤ most_bytes) 1 0 ∷ lines_from 1 text
