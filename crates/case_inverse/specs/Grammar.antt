-- The texts that are read as a case: records each of which is the next where the reader stands, and `end`.
use Rattle.std.specs.Prelude.{◌≡◌, List, [], ◌∷◌, ◌++◌, ℕ, Ok}
use Rattle.text_field.specs.Split.{line_feed}
use Rattle.case_line.specs.Record.{record_text}
use Rattle.case_line.specs.declared.Record.{Record}
use Rattle.case_line.specs.declared.Record.TheVariants.{End}
use Rattle.grid.specs.declared.Case.{Case}
use Rattle.case_judge.specs.Judging.{judged}
use Rattle.case_read.specs.Reading.{case_so_far, next_reader}
use Rattle.case_read.specs.declared.Reader.{Reader}
use Rattle.case_judge.specs.declared.Standing.TheVariants.{Next, Last}

-- from where s stands, the text is read as the case c
pub data ReadsAs : Reader → List ℕ → Case → Type 0 where
  ends : {s : Reader} → judged s.place End ≡ Ok Last → ReadsAs s (record_text End ++ line_feed ∷ []) (case_so_far s)
  goes : {s : Reader} (r : Record) {x : List ℕ} {c : Case} → judged s.place r ≡ Ok Next → ReadsAs (next_reader s r) x c
      → ReadsAs s (record_text r ++ line_feed ∷ x) c
