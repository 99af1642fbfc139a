-- Lines of texts: the records of a case text, and the steps of a step text.
use Rattle.std.specs.Prelude.{Bool, true, false, List, [], ◌∷◌, Option, Some, None}
use Prim.Native.String.{String}
use Rattle.case_line.specs.Fields.{class_of, site_of}
use Rattle.case_line.specs.Record.{record_of, record_text, Formed}
use Rattle.step_line.specs.StepLine.{step_line_of, step_text}
use Rattle.case_line.specs.declared.Record.{Record}
use Rattle.case_line.specs.declared.Record.TheVariants.{Grid, Bus, Line, Circuits, Pmu, End, Wrong}
use Rattle.step_line.specs.declared.StepLine.{StepLine}
use Rattle.step_line.specs.declared.StepLine.TheVariants as line
use Rattle.step.specs.declared.Step.{Step}
use Rattle.tables.specs.Tables.{Reads, Writes, Row, holds, fails}
use Rattle.tables.specs.Drawings.{own, near, zero_at}

-- ---- letters

-- classes: whether it is Z
abbrev pub class_table : List (String × Option Bool)
class_table = ("Z", Some true) ∷ ("I", Some false) ∷ ("z", None) ∷ ("i", None) ∷ ("ZZ", None) ∷ ("", None) ∷ ("Y", None) ∷ []

-- every row is right
abbrev pub ClassesRight : Type 0
ClassesRight = Reads class_of class_table

-- sites: whether it is Y
abbrev pub site_table : List (String × Option Bool)
site_table = ("Y", Some true) ∷ ("N", Some false) ∷ ("y", None) ∷ ("n", None) ∷ ("YN", None) ∷ ("", None) ∷ ("Z", None) ∷ []

-- every row is right
abbrev pub SitesRight : Type 0
SitesRight = Reads site_of site_table

-- ---- the lines of a case text

-- lines, and the record that each is
abbrev pub record_table : List (String × Record)
record_table =
    ("grid\t7", Grid 7)
    ∷ ("grid\t0", Grid 0)
    ∷ ("bus\t1\tI\tY", Bus 1 false true)
    ∷ ("bus\t2\tZ\tN", Bus 2 true false)
    ∷ ("line\t1\t2", Line 1 2)
    ∷ ("line\t9\t1", Line 9 1)
    ∷ ("line\t1\t2\t3", Circuits 1 2 3)
    ∷ ("line\t2\t1\t9", Circuits 2 1 9)
    ∷ ("line\t1\t2\t0", Circuits 1 2 0)
    ∷ ("pmu\t3", Pmu 3)
    ∷ ("pmu\t9999", Pmu 9999)
    ∷ ("end", End)
    -- the word
    ∷ ("", Wrong)
    ∷ ("Grid\t7", Wrong)
    ∷ ("grid 7", Wrong)
    ∷ ("END", Wrong)
    ∷ ("step\t1\tO", Wrong)
    -- how many fields
    ∷ ("grid", Wrong)
    ∷ ("grid\t7\t7", Wrong)
    ∷ ("bus\t1\tI", Wrong)
    ∷ ("bus\t1\tI\tY\tY", Wrong)
    ∷ ("line\t1", Wrong)
    ∷ ("line\t1\t2\t3\t4", Wrong)
    ∷ ("pmu", Wrong)
    ∷ ("pmu\t3\t4", Wrong)
    ∷ ("end\tend", Wrong)
    -- a doubled tab, a trailing one, a leading one
    ∷ ("grid\t\t7", Wrong)
    ∷ ("grid\t7\t", Wrong)
    ∷ ("\tgrid\t7", Wrong)
    ∷ ("end\t", Wrong)
    ∷ ("line\t1\t2\t", Wrong)
    ∷ ("line\t1\t2\t3\t", Wrong)
    -- class, site, the form of a number
    ∷ ("bus\t9\tQ\tY", Wrong)
    ∷ ("bus\t1\ti\tY", Wrong)
    ∷ ("bus\t1\tZZ\tY", Wrong)
    ∷ ("bus\t1\tI\tZ", Wrong)
    ∷ ("bus\t01\tI\tY", Wrong)
    ∷ ("line\t1\t02", Wrong)
    ∷ ("line\t1\t2\t02", Wrong)
    ∷ ("pmu\t10000", Wrong)
    -- carriage return is a byte like any other
    ∷ ("grid\t7\r", Wrong)
    ∷ ("end\r", Wrong)
    ∷ []

-- every row is right
abbrev pub RecordsRight : Type 0
RecordsRight = Reads record_of record_table

-- records, and the line that each is
abbrev pub record_text_table : List (Record × String)
record_text_table =
    (Grid 7, "grid\t7")
    ∷ (Bus 1 false true, "bus\t1\tI\tY")
    ∷ (Bus 42 true false, "bus\t42\tZ\tN")
    ∷ (Line 5 6, "line\t5\t6")
    ∷ (Circuits 5 6 8, "line\t5\t6\t8")
    ∷ (Pmu 3, "pmu\t3")
    ∷ (End, "end")
    ∷ []

-- every row is right
abbrev pub RecordTextsRight : Type 0
RecordTextsRight = Writes record_text record_text_table

-- records that have a text, and records that have none
abbrev pub formed_table : List Row
formed_table =
    holds (Formed (Grid 9999))
    ∷ fails (Formed (Grid 10000))
    ∷ holds (Formed (Bus 9999 true true))
    ∷ fails (Formed (Bus 10000 true true))
    ∷ holds (Formed (Line 0 9999))
    ∷ fails (Formed (Line 1 10000))
    ∷ holds (Formed (Circuits 1 2 9999))
    ∷ fails (Formed (Circuits 1 2 10000))
    ∷ holds (Formed (Pmu 0))
    ∷ holds (Formed End)
    ∷ fails (Formed Wrong)
    ∷ []

-- ---- the lines of a step text

-- lines, and the step that each is
abbrev pub step_line_table : List (String × StepLine)
step_line_table =
    ("step\t3\tO", line.Step (own 3))
    ∷ ("step\t2\tN\t3", line.Step (near 2 3))
    ∷ ("step\t1\tZ\t2", line.Step (zero_at 1 2))
    ∷ ("step\t0\tO", line.Step (own 0))
    ∷ ("step\t1\tZ\t9999", line.Step (zero_at 1 9999))
    ∷ ("end", line.End)
    -- the field count depends on the reason
    ∷ ("step\t1\tO\t2", line.Wrong)
    ∷ ("step\t1\tN", line.Wrong)
    ∷ ("step\t1\tZ", line.Wrong)
    ∷ ("step\t1\tN\t2\t3", line.Wrong)
    ∷ ("step\t1", line.Wrong)
    ∷ ("step", line.Wrong)
    ∷ ("end\t", line.Wrong)
    -- word, reason and number
    ∷ ("", line.Wrong)
    ∷ ("Step\t1\tO", line.Wrong)
    ∷ ("step\t1\to", line.Wrong)
    ∷ ("step\t1\tK\t2", line.Wrong)
    ∷ ("step\t1\tL\t2", line.Wrong)
    ∷ ("step\t01\tO", line.Wrong)
    ∷ ("step\t1\tN\t02", line.Wrong)
    ∷ ("step\t\t1\tO", line.Wrong)
    ∷ ("step\t1\tO\t", line.Wrong)
    ∷ ("step\t1\tO\r", line.Wrong)
    ∷ ("pmu\t1", line.Wrong)
    ∷ []

-- every row is right
abbrev pub StepLinesRight : Type 0
StepLinesRight = Reads step_line_of step_line_table

-- steps, and the line that each is
abbrev pub step_text_table : List (Step × String)
step_text_table = (near 2 3, "step\t2\tN\t3") ∷ (own 3, "step\t3\tO") ∷ (zero_at 1 2, "step\t1\tZ\t2") ∷ (own 42, "step\t42\tO") ∷ []

-- every row is right
abbrev pub StepTextsRight : Type 0
StepTextsRight = Writes step_text step_text_table
