-- The case, built up record by record.
use Rattle.std.specs.Prelude.{ℕ}
use Rattle.busset.specs.Held.{empty_word, hold, hold_if}
use Rattle.case_line.specs.declared.Record.{Record}
use Rattle.case_line.specs.declared.Record.TheVariants.{Grid, Bus, Line, Circuits, Pmu, End, Wrong}
use Rattle.grid.specs.Rows.{Rows, with_line}
use Rattle.grid.specs.declared.Case.{Case}
use Rattle.case_build.specs.declared.Marks.{Marks}

-- the rows after a record
abbrev pub next_rows : Rows → Record → Rows
next_rows rows (Grid n) = rows
next_rows rows (Bus k zero site) = rows
next_rows rows (Line a b) = with_line rows a b 1
next_rows rows (Circuits a b k) = with_line rows a b k
next_rows rows (Pmu p) = rows
next_rows rows End = rows
next_rows rows Wrong = rows

-- the classes, sites and units after a record
abbrev pub next_marks : Marks → Record → Marks
next_marks m (Grid n) = m
next_marks m (Bus k zero site) = record { zero = hold_if zero m.zero k; site = hold_if site m.site k; units = m.units }
next_marks m (Line a b) = m
next_marks m (Circuits a b k) = m
next_marks m (Pmu p) = record { zero = m.zero; site = m.site; units = hold m.units p }
next_marks m End = m
next_marks m Wrong = m

-- no class Z, site Y or unit
abbrev pub no_marks : Marks
no_marks = record { zero = empty_word; site = empty_word; units = empty_word }

-- a case of n buses
abbrev pub case_with : ℕ → Rows → Marks → Case
case_with n rows m = record { n = n; nbr = rows; zero = m.zero; site = m.site; units = m.units }
