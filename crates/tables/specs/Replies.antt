-- What each call answers, and which refusal comes first.
use Rattle.std.specs.Prelude.{true, false, List, [], ◌∷◌, ◌++◌, ℕ, suc, pos, replicate, Ok, Err}
use Rattle.text_field.specs.Split.{bytes}
use Rattle.grid.specs.declared.Case.{Case}
use Rattle.grid.specs.Limits.{most_steps, most_budget, most_greedy_budget}
use Rattle.refusals.specs.declared.Refusal.TheVariants.{WrongForm, InvalidCase, NoRoom, NoSuchBus, AlreadyObserved, ReasonFails}
use Rattle.refusals.specs.declared.Refusal.TheVariants.{OverBudget, NoCover, TooManySteps, NotJoined}
use Rattle.list_value.specs.Lists.{list_of}
use Rattle.list_follow.specs.Replies.{ReplayReply, WeaveReply}
use Rattle.observe_calls.specs.Replies.{ObservedReply, FigureReply, StepReply}
use Rattle.list_derive.specs.Replies.{DerivationReply}
use Rattle.place_calls.specs.Replies.{VerdictReply, GreedyReply, FewestReply}
use Rattle.text_calls.specs.Replies.{CaseReadReply, CaseWrittenReply, StepsCheckedReply}
use Rattle.tables.specs.Starred.{word_with, drawn_case, seven}
use Rattle.tables.specs.Tables.{Row, holds, fails}
use Rattle.tables.specs.Drawings.{own, near, zero_at, set_replayed, count_wove, value}
use Rattle.tables.specs.Steps.{derivation_steps}

-- the seven buses with these units
abbrev pub seven_case : List ℕ → Case
seven_case units = drawn_case (seven units)

-- a case value that 5 refuses
abbrev pub bad_case : Case
bad_case = value 0 [] [] [] []

-- ---- one question

-- the firing figure of i towards j where these buses are stated: 5, 7, 13
abbrev pub figure_reply_table : List Row
figure_reply_table =
    holds (FigureReply (seven_case (2 ∷ [])) (word_with (1 ∷ 2 ∷ 3 ∷ 8 ∷ [])) 2 1 (Ok (pos 1)))
    ∷ fails (FigureReply (seven_case (2 ∷ [])) (word_with (1 ∷ 2 ∷ 3 ∷ [])) 3 7 (Ok (pos 1)))
    ∷ holds (FigureReply bad_case (word_with []) 9 9 (Err InvalidCase))
    ∷ holds (FigureReply (seven_case []) (word_with []) 9 9 (Err (NoSuchBus 0)))
    ∷ holds (FigureReply (seven_case []) (word_with []) 0 1 (Err (NoSuchBus 0)))
    ∷ holds (FigureReply (seven_case []) (word_with []) 1 8 (Err (NoSuchBus 0)))
    ∷ holds (FigureReply (seven_case []) (word_with []) 1 3 (Err NotJoined))
    -- a bus is not joined to itself
    ∷ holds (FigureReply (seven_case []) (word_with []) 3 3 (Err NotJoined))
    ∷ fails (FigureReply (seven_case []) (word_with []) 3 3 (Ok (pos 1)))
    ∷ []

-- a step tested alone is step 1: 5, 7, 8, 9
abbrev pub step_reply_table : List Row
step_reply_table =
    holds (StepReply (seven_case (3 ∷ [])) (word_with []) (near 2 3) (Ok tt))
    ∷ holds (StepReply bad_case (word_with []) (own 8) (Err InvalidCase))
    ∷ holds (StepReply (seven_case (3 ∷ [])) (word_with []) (near 2 8) (Err (NoSuchBus 1)))
    -- 7 before 8: the bus is observed, and the reason names bus 0
    ∷ holds (StepReply (seven_case (3 ∷ [])) (word_with (2 ∷ [])) (near 2 0) (Err (NoSuchBus 1)))
    -- 8 before 9: the bus is observed, and the reason is false
    ∷ holds (StepReply (seven_case (3 ∷ [])) (word_with (1 ∷ [])) (zero_at 1 2) (Err (AlreadyObserved 1)))
    ∷ holds (StepReply (seven_case (3 ∷ [])) (word_with []) (zero_at 1 2) (Err (ReasonFails 1)))
    -- 7 and not 8, where the bus is stated and above n
    ∷ holds (StepReply (seven_case (3 ∷ [])) (word_with (8 ∷ [])) (own 8) (Err (NoSuchBus 1)))
    ∷ []

-- ---- lists

-- replay: 5, 12, then 7, 8, 9 at the first bad step
abbrev pub replay_reply_table : List Row
replay_reply_table =
    holds (ReplayReply (seven_case (3 ∷ [])) derivation_steps (Ok (set_replayed (1 ∷ 2 ∷ 3 ∷ 4 ∷ 7 ∷ []) true)))
    -- an unfinished list is an answer
    ∷ holds (ReplayReply (seven_case (3 ∷ [])) (near 2 3 ∷ []) (Ok (set_replayed (2 ∷ []) false)))
    ∷ holds (ReplayReply (seven_case (3 ∷ [])) [] (Ok (set_replayed [] false)))
    ∷ holds (ReplayReply (seven_case []) [] (Ok (set_replayed [] true)))
    ∷ fails (ReplayReply (seven_case []) [] (Ok (set_replayed [] false)))
    ∷ holds (ReplayReply bad_case (own 9 ∷ []) (Err InvalidCase))
    -- 12 before any step is looked at
    ∷ holds (ReplayReply (seven_case (3 ∷ [])) (replicate (suc most_steps) (own 9)) (Err (TooManySteps 0)))
    ∷ holds (ReplayReply (seven_case (3 ∷ [])) (near 2 3 ∷ near 2 3 ∷ []) (Err (AlreadyObserved 2)))
    -- 7 before 8 in one step
    ∷ holds (ReplayReply (seven_case (3 ∷ [])) (own 3 ∷ near 3 0 ∷ []) (Err (NoSuchBus 2)))
    -- an earlier 9 before a later 7
    ∷ holds (ReplayReply (seven_case (3 ∷ [])) (zero_at 1 2 ∷ own 8 ∷ []) (Err (ReasonFails 1)))
    ∷ fails (ReplayReply (seven_case (3 ∷ [])) (zero_at 1 2 ∷ own 8 ∷ []) (Err (NoSuchBus 2)))
    ∷ []

-- weaving, with the records before and after: 5, 12, then 7, 9 at the first bad step, then 6
abbrev pub weave_reply_table : List Row
weave_reply_table =
    -- a step for an observed bus is passed over, also where its reason is false; the rest of the records stays
    holds (WeaveReply (seven_case (3 ∷ [])) (own 3 ∷ near 3 1 ∷ near 2 3 ∷ []) (own 7 ∷ own 8 ∷ own 9 ∷ []) (own 3 ∷ near 2 3 ∷ own 9 ∷ [])
    (Ok (count_wove 2 (2 ∷ 3 ∷ []))))
    -- but its numbers are checked
    ∷ holds (WeaveReply (seven_case (3 ∷ [])) (own 3 ∷ near 3 8 ∷ []) (own 7 ∷ []) (own 7 ∷ []) (Err (NoSuchBus 2)))
    ∷ holds (WeaveReply (seven_case (3 ∷ [])) (zero_at 1 2 ∷ []) (own 7 ∷ []) (own 7 ∷ []) (Err (ReasonFails 1)))
    -- 6 compares what is written with the room
    ∷ holds (WeaveReply (seven_case (3 ∷ [])) (own 3 ∷ own 3 ∷ own 3 ∷ []) (own 7 ∷ []) (own 3 ∷ []) (Ok (count_wove 1 (3 ∷ []))))
    ∷ holds (WeaveReply (seven_case (3 ∷ [])) (own 3 ∷ near 2 3 ∷ []) (own 7 ∷ []) (own 7 ∷ []) (Err NoRoom))
    -- a refusal writes nothing
    ∷ fails (WeaveReply (seven_case (3 ∷ [])) (own 3 ∷ near 2 3 ∷ []) (own 7 ∷ []) (own 3 ∷ []) (Err NoRoom))
    -- 6 comes last
    ∷ holds (WeaveReply (seven_case (3 ∷ [])) (own 3 ∷ near 2 3 ∷ zero_at 6 5 ∷ []) (own 7 ∷ []) (own 7 ∷ [])
    (Err (ReasonFails 3)))
    ∷ []

-- ---- whole cases

-- the observed set and the derivation: 5
abbrev pub case_reply_table : List Row
case_reply_table =
    holds (ObservedReply (seven_case (3 ∷ [])) (Ok (word_with (1 ∷ 2 ∷ 3 ∷ 4 ∷ 7 ∷ []))))
    ∷ fails (ObservedReply (seven_case (3 ∷ [])) (Ok (word_with (2 ∷ 3 ∷ 4 ∷ 7 ∷ []))))
    ∷ holds (ObservedReply bad_case (Err InvalidCase))
    ∷ fails (ObservedReply (seven_case (3 ∷ [])) (Err InvalidCase))
    ∷ holds (DerivationReply (seven_case (3 ∷ [])) (Ok (list_of derivation_steps)))
    ∷ holds (DerivationReply bad_case (Err InvalidCase))
    ∷ holds (VerdictReply (seven_case (3 ∷ [])) (Ok (word_with (3 ∷ []))))
    ∷ holds (VerdictReply bad_case (Err InvalidCase))
    ∷ []

-- greedy, with the budget and the room before and after: 5, 10, 6
abbrev pub greedy_reply_table : List Row
greedy_reply_table =
    holds (GreedyReply (seven_case []) 2 (7 ∷ 8 ∷ 9 ∷ []) (3 ∷ 4 ∷ 9 ∷ []) (Ok 2))
    ∷ holds (GreedyReply bad_case (suc most_greedy_budget) [] [] (Err InvalidCase))
    ∷ holds (GreedyReply (seven_case []) (suc most_greedy_budget) [] [] (Err (OverBudget 0)))
    ∷ holds (GreedyReply (seven_case []) 2 (7 ∷ []) (7 ∷ []) (Err NoRoom))
    ∷ fails (GreedyReply (seven_case []) 2 (7 ∷ []) (3 ∷ []) (Err NoRoom))
    ∷ holds (GreedyReply (seven_case []) 0 [] [] (Ok 0))
    ∷ []

-- the fewest with a budget: 5, 10, 11
abbrev pub fewest_reply_table : List Row
fewest_reply_table =
    holds (FewestReply (seven_case []) 2 (Ok (word_with (1 ∷ 4 ∷ []))))
    ∷ holds (FewestReply bad_case (suc (most_budget 0)) (Err InvalidCase))
    ∷ holds (FewestReply (seven_case []) (suc (most_budget 7)) (Err (OverBudget 0)))
    ∷ holds (FewestReply (seven_case []) 1 (Err NoCover))
    ∷ fails (FewestReply (seven_case []) (suc (most_budget 7)) (Err NoCover))
    ∷ []

-- texts read; and a case's text written into bytes lent: 5, 6
abbrev pub text_reply_table : List Row
text_reply_table =
    holds (CaseReadReply (bytes "") (Err (WrongForm 1)))
    ∷ holds (StepsCheckedReply (bytes "end\n") (Ok 0))
    ∷ fails (StepsCheckedReply (bytes "end\n") (Ok 1))
    ∷ holds (CaseWrittenReply bad_case [] (Err InvalidCase) [])
    ∷ holds (CaseWrittenReply (value 1 [] [] [] []) (7 ∷ []) (Err NoRoom) (7 ∷ []))
    ∷ fails (CaseWrittenReply (value 1 [] [] [] []) (7 ∷ []) (Err NoRoom) (103 ∷ []))
    ∷ holds (CaseWrittenReply (value 1 [] [] [] []) (replicate 23 7) (Ok 21)
    (bytes "grid\t1\nbus\t1\tI\tN\nend\n" ++ 7 ∷ 7 ∷ []))
    ∷ []
