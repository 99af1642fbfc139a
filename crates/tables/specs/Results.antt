-- What a C program gets: the result, and the bytes that it lent.
use Rattle.std.specs.Prelude.{List, [], ◌∷◌, ◌++◌, ℕ, suc, ◌+◌, ◌-◌, ◌*◌, replicate, Ok, Err}
use Rattle.busset.specs.Bytes.{set_length, set_bytes}
use Rattle.grid.specs.Limits.{most_buses, most_steps}
use Rattle.refusals.specs.declared.Refusal.{Refusal}
use Rattle.refusals.specs.declared.Refusal.TheVariants.{TextTooLong, WrongForm, OutOfRange, NoSuchBus, ReasonFails}
use Rattle.refusals.specs.declared.Refusal.TheVariants.{OverBudget, NoCover, TooManySteps}
use Rattle.refusals.specs.declared.ReplayError.TheVariants as refused
use Rattle.estimator_reply.specs.Results.{Answer, code_of, result_of, left_by}
use Rattle.tables.specs.Starred.{word_with}
use Rattle.tables.specs.Tables.{Right}

-- ---- the result

-- refusals, and 100 times the place plus the number
abbrev pub code_table : List (Refusal × ℕ)
code_table =
    (WrongForm 5, 502)
    ∷ (TextTooLong, 1)
    ∷ (OverBudget 0, 10)
    ∷ (NoCover, 11)
    ∷ (ReasonFails 1, 109)
    ∷ (TooManySteps (suc most_steps), 100 * suc most_steps + 12)
    ∷ []

-- every row is right
abbrev pub CodesRight : Type 0
CodesRight = Right code_of code_table

-- answers and how many bytes are lent, and the result: 50 is added in reading the step text, and 6 comes last
abbrev pub result_table : List ((Answer × ℕ) × ℕ)
result_table =
    ((Ok (word_with (1 ∷ 3 ∷ [])), set_length), 0)
    ∷ ((Ok (word_with (1 ∷ 3 ∷ [])), suc set_length), 0)
    ∷ ((Ok (word_with []), set_length), 0)
    ∷ ((Ok (word_with (1 ∷ 3 ∷ [])), set_length - 1), 6)
    ∷ ((Ok (word_with (1 ∷ 3 ∷ [])), 0), 6)
    ∷ ((Err (refused.List (WrongForm 1)), set_length), 102)
    ∷ ((Err (refused.List (WrongForm 1)), 0), 102)
    ∷ ((Err (refused.List (NoSuchBus 2)), set_length), 207)
    ∷ ((Err (refused.Text (WrongForm 5)), set_length), 552)
    ∷ ((Err (refused.Text (OutOfRange 1)), 0), 153)
    ∷ ((Err (refused.Text TextTooLong), set_length), 51)
    ∷ ((Err (refused.Text (TooManySteps (suc most_steps))), set_length), 100 * suc most_steps + 62)
    ∷ []

-- every row is right
abbrev pub ResultsRight : Type 0
ResultsRight = Right (λ q. result_of q.0 q.1) result_table

-- ---- the bytes

-- sets, and their bytes: the lowest bus is in the lowest bit of the first
abbrev pub set_bytes_table : List (List ℕ × List ℕ)
set_bytes_table =
    ([], replicate set_length 0)
    ∷ (1 ∷ [], 1 ∷ replicate (set_length - 1) 0)
    ∷ (8 ∷ [], 128 ∷ replicate (set_length - 1) 0)
    ∷ (9 ∷ [], 0 ∷ 1 ∷ replicate (set_length - 2) 0)
    ∷ (most_buses ∷ [], replicate (set_length - 1) 0 ++ 128 ∷ [])
    ∷ (1 ∷ 2 ∷ 3 ∷ 4 ∷ 7 ∷ [], 79 ∷ replicate (set_length - 1) 0)
    ∷ []

-- every row is right
abbrev pub SetBytesRight : Type 0
SetBytesRight = Right (λ bs. set_bytes (word_with bs)) set_bytes_table

-- answers and the bytes lent, and what these hold afterwards
abbrev pub left_by_table : List ((Answer × List ℕ) × List ℕ)
left_by_table =
    ((Ok (word_with (1 ∷ 2 ∷ [])), replicate set_length 9), 3 ∷ replicate (set_length - 1) 0)
    ∷ ((Ok (word_with (1 ∷ 2 ∷ [])), replicate set_length 9 ++ 5 ∷ 6 ∷ []), 3 ∷ replicate (set_length - 1) 0 ++ 5 ∷ 6 ∷ [])
    ∷ ((Ok (word_with (1 ∷ 2 ∷ [])), replicate (set_length - 1) 9), replicate (set_length - 1) 9)
    ∷ ((Err (refused.List (ReasonFails 1)), replicate set_length 9), replicate set_length 9)
    ∷ ((Err (refused.Text (WrongForm 1)), replicate set_length 9), replicate set_length 9)
    ∷ []

-- every row is right
abbrev pub LeftByRight : Type 0
LeftByRight = Right (λ q. left_by q.0 q.1) left_by_table
