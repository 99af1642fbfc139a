-- The planning program's input: a line `plan budget`, or `plan` alone for the default, and then a case text whose lines count from 2.
use Rattle.std.specs.Prelude.{cond, List, [], ◌∷◌, ℕ, ltb, length, Option, Some, None, Result, Ok, Err}
use Rattle.text_field.specs.Split.{split, same, bytes, tab, line_feed}
use Rattle.text_field.specs.Number.{numeral_of}
use Rattle.refusals.specs.declared.Refusal.{Refusal}
use Rattle.refusals.specs.declared.Refusal.TheVariants.{TextTooLong, WrongForm}
use Rattle.grid.specs.Limits.{most_bytes}
use Rattle.grid.specs.declared.Case.{Case}
use Rattle.case_read.specs.Reading.{start, read_lines}
use Rattle.plan_input.specs.declared.Asked.{Asked}

-- the budget of `plan` alone
abbrev pub default_budget : ℕ
default_budget = 3

-- the budget in what follows the word `plan`
unfoldable pub plan_fields : List (List ℕ) → Option ℕ
plan_fields [] = Some default_budget
plan_fields (f ∷ []) = numeral_of f
plan_fields (f ∷ g ∷ fs) = None

-- the budget that the first line says
unfoldable pub budget_of : List ℕ → Option ℕ
budget_of l = cond (same (split tab l).first (bytes "plan")) (plan_fields (split tab l).rest) None

-- the case that is read, asked within a budget; a first line of any other form is 2 at line 1
abbrev pub asked_with : Option ℕ → Result Case Refusal → Result Asked Refusal
asked_with (Some budget) (Ok c) = Ok (record { budget = budget; case = c })
asked_with (Some budget) (Err q) = Err q
asked_with None read = Err (WrongForm 1)

-- the first line, and the pieces after its line feed, the case text's lines from line 2 on; if there are none, its line feed is missing
abbrev pub plan_lines : List ℕ → List (List ℕ) → Result Asked Refusal
plan_lines l [] = Err (WrongForm 1)
plan_lines l (m ∷ ms) = asked_with (budget_of l) (read_lines start 2 m ms)

-- the byte limit counts the whole input
unfoldable pub read_plan : List ℕ → Result Asked Refusal
read_plan input =
    cond (ltb most_bytes (length input)) (Err TextTooLong)
    (plan_lines (split line_feed input).first (split line_feed input).rest)
