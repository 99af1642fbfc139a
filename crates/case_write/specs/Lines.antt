-- The line of a record, and where lines are put.
use Rattle.std.specs.Prelude.{List, [], ◌∷◌, ◌++◌, ℕ, ◌^◌}
use Rattle.text_field.specs.Split.{line_feed}
use Rattle.case_line.specs.Record.{record_text}
use Rattle.case_line.specs.declared.Record.{Record}

-- a record's line
unfoldable pub line_text : Record → List ℕ
line_text r = record_text r ++ line_feed ∷ []

-- the lines of a row, of the buses or of the units are put below this index, so that none after it wraps
abbrev pub far_lines : ℕ
far_lines = 2 ^ 24

-- and row after row below this
abbrev pub far_rows : ℕ
far_rows = 2 ^ 20
