-- Step texts: what reading one says, its steps, and the records lent for them.
use Rattle.refusals.specs.declared.Refusal.{Refusal}
use Rattle.std.specs.Prelude.{Bool, true, false, List, [], ◌∷◌, ℕ, suc, replicate, Some, None, Result, Ok, Err}
use Prim.Native.String.{String}
use Rattle.grid.specs.Limits.{most_buses, most_steps, most_step_bytes}
use Rattle.rules.specs.Steps.{Names}
use Rattle.basics.specs.Lists.{Each}
use Rattle.text_field.specs.Split.{bytes, split, line_feed}
use Rattle.step.specs.declared.Step.{Step}
use Rattle.refusals.specs.declared.Refusal.TheVariants.{TextTooLong, WrongForm, OutOfRange, NoRoom, TooManySteps}
use Rattle.step_text.specs.Steps.{step_in_range, step_lines, read_steps, steps_of}
use Rattle.step_text.specs.Taking.{StepAt, with_room, leaves, Takes}
use Rattle.step_text.specs.declared.taking.Taken.{Taken}
use Rattle.tables.specs.Tables.{Right, Reads, Row, holds, fails, block}
use Rattle.tables.specs.Drawings.{own, near, zero_at}

-- ---- one step

-- steps, and whether their numbers are 1 to the most buses
abbrev pub step_range_table : List (Step × Bool)
step_range_table =
    (own 1, true)
    ∷ (own most_buses, true)
    ∷ (own 0, false)
    ∷ (own (suc most_buses), false)
    ∷ (near 1 most_buses, true)
    ∷ (near 1 0, false)
    ∷ (near (suc most_buses) 1, false)
    ∷ (zero_at most_buses 1, true)
    ∷ (zero_at 1 (suc most_buses), false)
    ∷ []

-- every row is right
abbrev pub StepRangesRight : Type 0
StepRangesRight = Right step_in_range step_range_table

-- ---- whole texts

-- texts, and how many steps each has, or its refusal
abbrev pub read_steps_table : List (String × Result ℕ Refusal)
read_steps_table =
    ("end\n", Ok 0)
    ∷ ("step\t3\tO\nend\n", Ok 1)
    ∷ ("step\t2\tN\t3\nstep\t3\tO\nend\n", Ok 2)
    -- no rule of observation is asked here, and no case's n
    ∷ ("step\t42\tO\nstep\t42\tO\nend\n", Ok 2)
    -- 2
    ∷ ("", Err (WrongForm 1))
    ∷ ("end", Err (WrongForm 1))
    ∷ ("step\t3\tO\n", Err (WrongForm 2))
    ∷ ("step\t1\tO\t2\nend\n", Err (WrongForm 1))
    ∷ ("step\t1\tN\nend\n", Err (WrongForm 1))
    ∷ ("end\n\n", Err (WrongForm 2))
    ∷ ("step\t3\tO\nend\nend\n", Err (WrongForm 3))
    -- 3, and 2 before it
    ∷ ("step\t0\tO\nend\n", Err (OutOfRange 1))
    ∷ ("step\t9999\tO\nend\n", Err (OutOfRange 1))
    ∷ ("step\t1\tN\t0\nend\n", Err (OutOfRange 1))
    ∷ ("step\t1\tZ\t9999\nend\n", Err (OutOfRange 1))
    ∷ ("step\t9999\tO\t1\nend\n", Err (WrongForm 1))
    ∷ ("step\t9999\tO", Err (WrongForm 1))
    -- the first bad line
    ∷ ("step\t9999\tO\nstep\nend\n", Err (OutOfRange 1))
    ∷ []

-- every row is right
abbrev pub ReadStepsRight : Type 0
ReadStepsRight = Reads read_steps read_steps_table

-- texts after the most steps: `end` is fine; a step is 12, after 2 and 3
abbrev pub beyond_table : List (String × Result ℕ Refusal)
beyond_table =
    ("end\n", Ok most_steps)
    ∷ ("", Err (WrongForm (suc most_steps)))
    ∷ ("step\t1\tO\nend\n", Err (TooManySteps (suc most_steps)))
    ∷ ("step\t9999\tO\nend\n", Err (OutOfRange (suc most_steps)))
    ∷ ("step\t1\nend\n", Err (WrongForm (suc most_steps)))
    ∷ ("step\t1\tO\nstep\n", Err (TooManySteps (suc most_steps)))
    ∷ []

-- every row is right
abbrev pub BeyondRight : Type 0
BeyondRight = Reads (λ s. step_lines (suc most_steps) (split line_feed s).first (split line_feed s).rest) beyond_table

-- line feeds alone: the most bytes of them are 2 at line 1, one more is 1
abbrev pub step_limit_table : List (ℕ × Result ℕ Refusal)
step_limit_table = (most_step_bytes, Err (WrongForm 1)) ∷ (suc most_step_bytes, Err TextTooLong) ∷ []

-- every row is right
abbrev pub StepLimitsRight : Type 0
StepLimitsRight = Right (λ k. read_steps (replicate k line_feed)) step_limit_table

-- ---- the steps

-- document 01's derivation as a step text
abbrev pub derivation_text : List ℕ
derivation_text = block ("step 2 N 3" ∷ "step 3 O" ∷ "step 1 Z 2" ∷ "step 4 N 3" ∷ "step 7 N 3" ∷ "end" ∷ [])

-- texts, and their steps
abbrev pub steps_of_table : List (List ℕ × List Step)
steps_of_table =
    (derivation_text, near 2 3 ∷ own 3 ∷ zero_at 1 2 ∷ near 4 3 ∷ near 7 3 ∷ [])
    ∷ (bytes "end\n", [])
    ∷ []

-- every row is right
abbrev pub StepsOfRight : Type 0
StepsOfRight = Right steps_of steps_of_table

-- the step that is taken, and the index of the line after it
abbrev pub step_taken : Step → ℕ → Taken
step_taken x next = record { step = x; next = next }

-- each step names buses 1 to the most; and the step that starts at an index, with the index of the line after it
abbrev pub step_at_table : List Row
step_at_table =
    holds (Each (Names most_buses) (own 1 ∷ near most_buses 1 ∷ []))
    ∷ fails (Each (Names most_buses) (own 1 ∷ near most_buses (suc most_buses) ∷ []))
    ∷ holds (StepAt (bytes "step\t3\tO\nend\n") 0 (Some (step_taken (own 3) 9)))
    ∷ holds (StepAt (bytes "step\t3\tO\nend\n") 9 None)
    ∷ fails (StepAt (bytes "step\t3\tO\nend\n") 0 None)
    ∷ fails (StepAt (bytes "step\t3\tO\nend\n") 0 (Some (step_taken (own 4) 9)))
    ∷ holds (Takes (bytes "step\t3\tO\nend\n") 0 (step_taken (own 3) 9))
    ∷ fails (Takes (bytes "step\t3\tO\nend\n") 0 (step_taken (own 3) 0))
    ∷ []

-- ---- the records lent

-- how many records are lent, what reading says, and what is said then: 6 comes last
abbrev pub room_table : List ((ℕ × Result ℕ Refusal) × Result ℕ Refusal)
room_table =
    ((5, Ok 5), Ok 5)
    ∷ ((6, Ok 5), Ok 5)
    ∷ ((4, Ok 5), Err NoRoom)
    ∷ ((0, Ok 0), Ok 0)
    ∷ ((0, Err (WrongForm 3)), Err (WrongForm 3))
    ∷ []

-- every row is right
abbrev pub RoomsRight : Type 0
RoomsRight = Right (λ q. with_room q.0 q.1) room_table

-- what three records hold after the steps 2 N 3, 3 O were read into them, and after a refusal
abbrev pub leaves_table : List (Result ℕ Refusal × List Step)
leaves_table =
    (Ok 2, near 2 3 ∷ own 3 ∷ own 9 ∷ [])
    ∷ (Err NoRoom, own 7 ∷ own 8 ∷ own 9 ∷ [])
    ∷ (Err (WrongForm 3), own 7 ∷ own 8 ∷ own 9 ∷ [])
    ∷ []

-- every row is right
abbrev pub LeavesRight : Type 0
LeavesRight = Right (λ r. leaves r (near 2 3 ∷ own 3 ∷ []) (own 7 ∷ own 8 ∷ own 9 ∷ [])) leaves_table
