-- The starred grids of document 01, as one table under one statement: each row asks a public call, and has the reply that it promises.
use Rattle.std.specs.Prelude.{List, [], ◌∷◌, ◌++◌, ℕ, zero, suc, ◌-◌, ◌*◌, ◌≤◌, eqb, ℤ, pos, negsuc, length, drop, replicate, Ok, Err}
use Rattle.busset.specs.Held.{SetWord, empty_word, hold, hold_if}
use Rattle.step.specs.declared.Reason.TheVariants.{ZeroInjection}
use Rattle.step.specs.declared.Step.{Step}
use Rattle.grid.specs.declared.Case.{Case}
use Rattle.grid.specs.Limits.{most_buses}
use Rattle.grid.specs.Rows.{Rows, bus_sets}
use Rattle.refusals.specs.declared.Refusal.TheVariants.{ReasonFails, NoCover}
use Rattle.list_follow.specs.Replies.{ReplayReply}
use Rattle.observe_calls.specs.Replies.{ObservedReply, FigureReply}
use Rattle.place_calls.specs.Replies.{VerdictReply, GreedyReply, FewestReply}

-- ---- a grid, drawn

-- n buses, the lines, the Z buses and the units; every site is Y
pub record Drawing : Type 0 where
  pub n : ℕ
  pub lines : List (ℕ × ℕ)
  pub zeros : List ℕ
  pub units : List ℕ

-- the word that holds the buses of a list
abbrev pub word_with : List ℕ → SetWord
word_with [] = empty_word
word_with (b ∷ bs) = hold (word_with bs) b

-- the buses 1 to n, the highest first
abbrev pub buses_to : ℕ → List ℕ
buses_to zero = []
buses_to (suc n) = suc n ∷ buses_to n

-- the row of bus b: the other end of each line that has b at one end
abbrev pub row_of : ℕ → List (ℕ × ℕ) → SetWord
row_of b [] = empty_word
row_of b (l ∷ ls) = hold_if (eqb l.0 b) (hold_if (eqb l.1 b) (row_of b ls) l.0) l.1

-- the neighbours of k buses, from bus b on
abbrev pub rows_from : ℕ → ℕ → List (ℕ × ℕ) → List SetWord
rows_from b zero ls = []
rows_from b (suc k) ls = row_of b ls ∷ rows_from (suc b) k ls

-- the rows of buses with these neighbours, each by one circuit
abbrev pub singles : List SetWord → Rows
singles [] = []
singles (w ∷ ws) = w ∷ w ∷ empty_word ∷ empty_word ∷ empty_word ∷ singles ws

-- a drawing as a case value, but for its rows: the neighbours of its n buses alone
abbrev pub short_case : Drawing → Case
short_case d = record {
  n = d.n;
  nbr = rows_from 1 d.n d.lines;
  zero = word_with d.zeros;
  site = word_with (buses_to d.n);
  units = word_with d.units;
}

-- the case value with these neighbours, each by one circuit, and after them buses with none
abbrev pub filled : Case → Case
filled c = record {
  n = c.n;
  nbr = singles c.nbr ++ replicate (bus_sets * (most_buses - length c.nbr)) empty_word;
  zero = c.zero;
  site = c.site;
  units = c.units;
}

-- the case value of a drawing
abbrev pub drawn_case : Drawing → Case
drawn_case d = filled (short_case d)

-- ---- a row

-- a question, and its answer
pub data StarredRow : Type 0 where
  -- the buses that are observed
  observes : Drawing → List ℕ → StarredRow
  -- the firing figure of bus i towards j where these buses are observed
  figures : Drawing → List ℕ → ℕ → ℕ → ℤ → StarredRow
  -- the list of this step alone is refused 9 at step 1
  fails : Drawing → Step → StarredRow
  -- the units that no other unit confirms
  unconfirmed : Drawing → List ℕ → StarredRow
  -- what greedy adds with a budget, in the order added, in any room for it
  adds : Drawing → ℕ → List ℕ → StarredRow
  -- the fewest with a budget
  fewest_is : Drawing → ℕ → List ℕ → StarredRow
  -- no addition within the budget covers: refusal 11
  uncovered : Drawing → ℕ → StarredRow

-- the row's reply is the one that the call's promise asks
abbrev pub StarredRight : StarredRow → Type 0
StarredRight (observes d bs) = ObservedReply (drawn_case d) (Ok (word_with bs))
StarredRight (figures d bs i j z) = FigureReply (drawn_case d) (word_with bs) i j (Ok z)
StarredRight (fails d x) = ReplayReply (drawn_case d) (x ∷ []) (Err (ReasonFails 1))
StarredRight (unconfirmed d bs) = VerdictReply (drawn_case d) (Ok (word_with bs))
StarredRight (adds d budget xs) =
    (entry : List ℕ) → length xs ≤ length entry
    → GreedyReply (drawn_case d) budget entry (xs ++ drop (length xs) entry) (Ok (length xs))
StarredRight (fewest_is d budget bs) = FewestReply (drawn_case d) budget (Ok (word_with bs))
StarredRight (uncovered d budget) = FewestReply (drawn_case d) budget (Err NoCover)

-- and so for every row
abbrev pub AllStarredRight : List StarredRow → Type 0
AllStarredRight [] = Unit {0}
AllStarredRight (r ∷ rs) = StarredRight r × AllStarredRight rs

-- ---- the grids

-- the seven-bus grid, with these units
abbrev pub seven : List ℕ → Drawing
seven units = record {
  n = 7;
  lines = (1, 2) ∷ (2, 3) ∷ (3, 4) ∷ (3, 7) ∷ (4, 5) ∷ (5, 6) ∷ [];
  zeros = 2 ∷ 3 ∷ 5 ∷ [];
  units = units;
}

-- the path 1-2-3-4-5, only 3 is Z, units at 1 and 5
abbrev pub path : Drawing
path = record { n = 5; lines = (1, 2) ∷ (2, 3) ∷ (3, 4) ∷ (4, 5) ∷ []; zeros = 3 ∷ []; units = 1 ∷ 5 ∷ [] }

-- ---- the table

-- every starred grid of document 01
abbrev pub starred_table : List StarredRow
starred_table =
    observes (seven []) []
    ∷ observes (seven (2 ∷ [])) (1 ∷ 2 ∷ 3 ∷ [])
    ∷ figures (seven (2 ∷ [])) (1 ∷ 2 ∷ 3 ∷ []) 3 7 (pos 0)
    ∷ figures (seven (2 ∷ [])) (1 ∷ 2 ∷ 3 ∷ []) 3 2 (negsuc 0)
    ∷ figures (seven (2 ∷ [])) (1 ∷ 2 ∷ 3 ∷ []) 2 1 (pos 1)
    ∷ observes (seven (3 ∷ [])) (1 ∷ 2 ∷ 3 ∷ 4 ∷ 7 ∷ [])
    ∷ observes (seven (4 ∷ [])) (3 ∷ 4 ∷ 5 ∷ 6 ∷ [])
    ∷ observes (seven (1 ∷ 4 ∷ [])) (1 ∷ 2 ∷ 3 ∷ 4 ∷ 5 ∷ 6 ∷ 7 ∷ [])
    ∷ observes path (1 ∷ 2 ∷ 4 ∷ 5 ∷ [])
    ∷ fails (seven (3 ∷ [])) (record { bus = 1; reason = ZeroInjection 2 })
    ∷ unconfirmed (seven []) []
    ∷ unconfirmed (seven (3 ∷ 4 ∷ [])) []
    ∷ unconfirmed (seven (2 ∷ 4 ∷ [])) []
    ∷ unconfirmed (seven (1 ∷ 4 ∷ [])) (1 ∷ 4 ∷ [])
    ∷ adds (seven []) 2 (3 ∷ 4 ∷ [])
    ∷ fewest_is (seven []) 2 (1 ∷ 4 ∷ [])
    ∷ uncovered (seven []) 1
    ∷ []
