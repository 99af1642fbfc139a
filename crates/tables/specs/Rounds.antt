-- Observation in rounds: the rounds of a grid, their list of numbers and their lines, and what the two calls answer.
use Rattle.std.specs.Prelude.{List, [], ◌∷◌, ℕ, replicate, Ok, Err}
use Rattle.text_field.specs.Split.{bytes}
use Rattle.refusals.specs.declared.Refusal.TheVariants.{InvalidCase, NoRoom}
use Rattle.rules.specs.Rounds.{RoundsOf}
use Rattle.round_calls.specs.Replies.{round_numbers, RoundsReply}
use Rattle.round_calls.specs.declared.Listed.{Listed}
use Rattle.report_rounds.specs.Rounds.{rounds_text, RoundsPrinted}
use Rattle.tables.specs.Tables.{Right, Row, holds, fails, block}
use Rattle.tables.specs.Drawings.{drawn_grid, seven_grid, onward}
use Rattle.tables.specs.CaseTexts.{input, bare_input}
use Rattle.tables.specs.Replies.{seven_case, bad_case}

-- ---- the rounds

-- those of the seven buses with a unit at 3
abbrev pub seven_rounds : List (List ℕ)
seven_rounds = (2 ∷ 3 ∷ 4 ∷ 7 ∷ []) ∷ (1 ∷ []) ∷ []

-- the rounds of a grid, and lists that are not
abbrev pub rounds_table : List Row
rounds_table =
    holds (RoundsOf (seven_grid (3 ∷ [])) seven_rounds)
    -- what a unit gives is all in round 1
    ∷ fails (RoundsOf (seven_grid (3 ∷ [])) ((3 ∷ []) ∷ (2 ∷ 4 ∷ 7 ∷ []) ∷ (1 ∷ []) ∷ []))
    -- the numbers rise
    ∷ fails (RoundsOf (seven_grid (3 ∷ [])) ((3 ∷ 2 ∷ 4 ∷ 7 ∷ []) ∷ (1 ∷ []) ∷ []))
    -- none is missing, and no round is
    ∷ fails (RoundsOf (seven_grid (3 ∷ [])) ((2 ∷ 3 ∷ 7 ∷ []) ∷ (1 ∷ []) ∷ []))
    ∷ fails (RoundsOf (seven_grid (3 ∷ [])) ((2 ∷ 3 ∷ 4 ∷ 7 ∷ []) ∷ []))
    -- a round that adds no bus is not listed
    ∷ fails (RoundsOf (seven_grid (3 ∷ [])) ((2 ∷ 3 ∷ 4 ∷ 7 ∷ []) ∷ (1 ∷ []) ∷ [] ∷ []))
    -- with no units there are none
    ∷ holds (RoundsOf (seven_grid []) [])
    ∷ fails (RoundsOf (seven_grid []) ([] ∷ []))
    -- each looks at the set as it stood when it began
    ∷ holds (RoundsOf (drawn_grid onward) ((1 ∷ 2 ∷ []) ∷ (3 ∷ []) ∷ (4 ∷ []) ∷ []))
    ∷ fails (RoundsOf (drawn_grid onward) ((1 ∷ 2 ∷ []) ∷ (3 ∷ 4 ∷ []) ∷ []))
    ∷ []

-- ---- the list of numbers, and the lines

-- rounds, and their list
abbrev pub round_number_table : List (List (List ℕ) × List ℕ)
round_number_table =
    (seven_rounds, 4 ∷ 2 ∷ 3 ∷ 4 ∷ 7 ∷ 1 ∷ 1 ∷ [])
    ∷ ((1 ∷ 2 ∷ []) ∷ (3 ∷ []) ∷ (4 ∷ []) ∷ [], 2 ∷ 1 ∷ 2 ∷ 1 ∷ 3 ∷ 1 ∷ 4 ∷ [])
    ∷ ([], [])
    ∷ []

-- every row is right
abbrev pub RoundNumbersRight : Type 0
RoundNumbersRight = Right round_numbers round_number_table

-- rounds, and the report
abbrev pub rounds_text_table : List (List (List ℕ) × List ℕ)
rounds_text_table =
    (seven_rounds, block ("round 1 2 3 4 7" ∷ "round 2 1" ∷ "end" ∷ []))
    ∷ ((10 ∷ 42 ∷ []) ∷ [], bytes "round\t1\t10\t42\nend\n")
    ∷ ([], bytes "end\n")
    ∷ []

-- every row is right
abbrev pub RoundsTextsRight : Type 0
RoundsTextsRight = Right rounds_text rounds_text_table

-- ---- the calls

-- how many numbers are written, and how many rounds
abbrev pub numbers_listed : ℕ → ℕ → Listed
numbers_listed numbers rounds = record { numbers = numbers; rounds = rounds }

-- the room before and after, and what the call answers: 5, 6
abbrev pub rounds_reply_table : List Row
rounds_reply_table =
    holds (RoundsReply (seven_case (3 ∷ [])) (replicate 8 9) (4 ∷ 2 ∷ 3 ∷ 4 ∷ 7 ∷ 1 ∷ 1 ∷ 9 ∷ []) (Ok (numbers_listed 7 2)))
    -- numbers are counted, and rounds; the rest of the room stays
    ∷ fails (RoundsReply (seven_case (3 ∷ [])) (replicate 8 9) (4 ∷ 2 ∷ 3 ∷ 4 ∷ 7 ∷ 1 ∷ 1 ∷ 9 ∷ []) (Ok (numbers_listed 7 5)))
    ∷ fails (RoundsReply (seven_case (3 ∷ [])) (replicate 8 9) (4 ∷ 2 ∷ 3 ∷ 4 ∷ 7 ∷ 1 ∷ 1 ∷ 0 ∷ []) (Ok (numbers_listed 7 2)))
    ∷ holds (RoundsReply (seven_case []) [] [] (Ok (numbers_listed 0 0)))
    ∷ holds (RoundsReply bad_case [] [] (Err InvalidCase))
    ∷ holds (RoundsReply (seven_case (3 ∷ [])) (replicate 6 9) (replicate 6 9) (Err NoRoom))
    -- nothing is written on a refusal
    ∷ fails (RoundsReply (seven_case (3 ∷ [])) (replicate 6 9) (4 ∷ 2 ∷ 3 ∷ 4 ∷ 7 ∷ 1 ∷ []) (Err NoRoom))
    ∷ []

-- case texts, and what the rounds report prints
abbrev pub rounds_printed_table : List Row
rounds_printed_table =
    holds (RoundsPrinted (block input) (block ("round 1 2 3 4 7" ∷ "round 2 1" ∷ "end" ∷ [])))
    ∷ fails (RoundsPrinted (block input) (bytes "end\n"))
    ∷ holds (RoundsPrinted (block bare_input) (bytes "end\n"))
    ∷ holds (RoundsPrinted (bytes "grid\t0\n") (bytes "refused\t3\t1\n"))
    ∷ []
