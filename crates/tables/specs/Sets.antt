-- Sets of buses, and the machine word that holds one: bus 1 in the lowest bit.
use Rattle.std.specs.Prelude.{Bool, true, false, List, [], ◌∷◌, ℕ, suc, ◌-◌, ◌≤◌, ◌^◌}
use Rattle.busset.specs.Sets.{Bus, bit, In, Out, Sub, Within, add, meet, lack, less, up_to, size, set_of, width}
use Rattle.busset.specs.Sets.{Union, Both, Minus, With, Without, Lowest, Counted, All}
use Rattle.busset.specs.Held as held
use Rattle.busset.specs.Bytes.{byte_of, set_length}
use Rattle.basics.specs.Deciding.{Decides}
use Rattle.tables.specs.Tables.{Right, Row, holds, fails}
use Rattle.tables.specs.Starred.{word_with}
use Rattle.tables.specs.Drawings.{set}

-- ---- a word's set

-- a word and a bus, and the digit there: 1 where the word's set has the bus
abbrev pub digit_table : List ((ℕ × ℕ) × ℕ)
digit_table =
    ((1, 1), 1)
    ∷ ((1, 2), 0)
    ∷ ((1, 0), 0)
    ∷ ((6, 1), 0)
    ∷ ((6, 2), 1)
    ∷ ((6, 3), 1)
    ∷ ((2 ^ (width - 1), width), 1)
    ∷ ((2 ^ (width - 1), width - 1), 0)
    ∷ ((2 ^ (width - 1), suc width), 0)
    ∷ ((held.empty_word, 1), 0)
    ∷ []

-- every row is right
abbrev pub DigitsRight : Type 0
DigitsRight = Right (λ q. bit (set_of q.0) q.1) digit_table

-- a word, and the word that holds its set: the same
abbrev pub word_table : List (ℕ × ℕ)
word_table = (held.empty_word, held.empty_word) ∷ (1, 1) ∷ (79, 79) ∷ (2 ^ width - 1, 2 ^ width - 1) ∷ []

-- every row is right
abbrev pub WordsRight : Type 0
WordsRight = Right (λ w. held.word_of (set_of w)) word_table

-- a word and a bus, and the word with it
abbrev pub hold_table : List ((ℕ × ℕ) × ℕ)
hold_table = ((held.empty_word, 1), 1) ∷ ((1, 3), 5) ∷ ((5, 3), 5) ∷ ((held.empty_word, width), 2 ^ (width - 1)) ∷ []

-- every row is right
abbrev pub HoldingRight : Type 0
HoldingRight = Right (λ q. held.hold q.0 q.1) hold_table

-- the word 1 with bus 3, or not
abbrev pub hold_if_table : List (Bool × ℕ)
hold_if_table = (true, 5) ∷ (false, 1) ∷ []

-- every row is right
abbrev pub HoldingIfRight : Type 0
HoldingIfRight = Right (λ t. held.hold_if t 1 3) hold_if_table

-- the buses of a word and a place from 0, and the byte there, the lowest first
abbrev pub byte_table : List ((List ℕ × ℕ) × ℕ)
byte_table =
    ((1 ∷ 2 ∷ 3 ∷ 4 ∷ 7 ∷ [], 0), 79)
    ∷ ((1 ∷ 2 ∷ 3 ∷ 4 ∷ 7 ∷ [], 1), 0)
    ∷ ((9 ∷ [], 0), 0)
    ∷ ((9 ∷ [], 1), 1)
    ∷ ((width ∷ [], set_length - 1), 128)
    ∷ []

-- every row is right
abbrev pub BytesRight : Type 0
BytesRight = Right (λ q. byte_of (word_with q.0) q.1) byte_table

-- ---- sets made from others

-- a set and a bus, and the set with it
abbrev pub add_table : List ((ℕ × ℕ) × ℕ)
add_table = ((set [], 3), set (3 ∷ [])) ∷ ((set (1 ∷ 2 ∷ []), 3), set (1 ∷ 2 ∷ 3 ∷ [])) ∷ ((set (1 ∷ 3 ∷ []), 3), set (1 ∷ 3 ∷ [])) ∷ []

-- every row is right
abbrev pub AddsRight : Type 0
AddsRight = Right (λ q. add q.0 q.1) add_table

-- a set and a bus, and the set without it
abbrev pub less_table : List ((ℕ × ℕ) × ℕ)
less_table = ((set (1 ∷ 2 ∷ 3 ∷ []), 2), set (1 ∷ 3 ∷ [])) ∷ ((set (1 ∷ 3 ∷ []), 2), set (1 ∷ 3 ∷ [])) ∷ ((set [], 2), set []) ∷ []

-- every row is right
abbrev pub LessesRight : Type 0
LessesRight = Right (λ q. less q.0 q.1) less_table

-- two sets, and the buses in both
abbrev pub meet_table : List ((ℕ × ℕ) × ℕ)
meet_table =
    ((set (1 ∷ 2 ∷ 3 ∷ []), set (2 ∷ 3 ∷ 4 ∷ [])), set (2 ∷ 3 ∷ []))
    ∷ ((set (1 ∷ []), set (2 ∷ [])), set [])
    ∷ []

-- every row is right
abbrev pub MeetsRight : Type 0
MeetsRight = Right (λ q. meet q.0 q.1) meet_table

-- two sets, and the buses of the first that are not in the second
abbrev pub lack_table : List ((ℕ × ℕ) × ℕ)
lack_table =
    ((set (1 ∷ 2 ∷ 3 ∷ []), set (2 ∷ 3 ∷ 4 ∷ [])), set (1 ∷ []))
    ∷ ((set (1 ∷ []), set (2 ∷ [])), set (1 ∷ []))
    ∷ ((set (2 ∷ []), set (2 ∷ [])), set [])
    ∷ []

-- every row is right
abbrev pub LacksRight : Type 0
LacksRight = Right (λ q. lack q.0 q.1) lack_table

-- n and a set, and its buses up to n: those above are ignored
abbrev pub up_to_table : List ((ℕ × ℕ) × ℕ)
up_to_table =
    ((7, set (1 ∷ 7 ∷ 8 ∷ width ∷ [])), set (1 ∷ 7 ∷ []))
    ∷ ((width, set (1 ∷ width ∷ [])), set (1 ∷ width ∷ []))
    ∷ ((1, set (2 ∷ [])), set [])
    ∷ []

-- every row is right
abbrev pub UpTosRight : Type 0
UpTosRight = Right (λ q. up_to q.0 q.1) up_to_table

-- a set, and how many buses it has
abbrev pub size_table : List (ℕ × ℕ)
size_table = (set [], 0) ∷ (set (7 ∷ []), 1) ∷ (set (1 ∷ 2 ∷ 3 ∷ 4 ∷ 7 ∷ []), 5) ∷ []

-- every row is right
abbrev pub SizesRight : Type 0
SizesRight = Right size size_table

-- ---- what is said of sets

-- statements of each kind: one that holds, and one that does not
abbrev pub set_table : List Row
set_table =
    holds (Bus 7 1)
    ∷ holds (Bus 7 7)
    ∷ fails (Bus 7 0)
    ∷ fails (Bus 7 8)
    ∷ holds (In (set (2 ∷ 3 ∷ [])) 3)
    ∷ fails (In (set (2 ∷ 3 ∷ [])) 1)
    ∷ holds (Out (set (2 ∷ 3 ∷ [])) 1)
    ∷ fails (Out (set (2 ∷ 3 ∷ [])) 3)
    ∷ holds (Sub (set (2 ∷ [])) (set (2 ∷ 3 ∷ [])))
    ∷ fails (Sub (set (2 ∷ 3 ∷ [])) (set (2 ∷ [])))
    ∷ holds (Within 3 (set (1 ∷ 3 ∷ [])))
    ∷ fails (Within 3 (set (1 ∷ 4 ∷ [])))
    ∷ holds (Union (set (1 ∷ 2 ∷ [])) (set (2 ∷ 3 ∷ [])) (set (1 ∷ 2 ∷ 3 ∷ [])))
    ∷ fails (Union (set (1 ∷ 2 ∷ [])) (set (2 ∷ 3 ∷ [])) (set (1 ∷ 3 ∷ [])))
    ∷ holds (Both (set (1 ∷ 2 ∷ [])) (set (2 ∷ 3 ∷ [])) (set (2 ∷ [])))
    ∷ fails (Both (set (1 ∷ 2 ∷ [])) (set (2 ∷ 3 ∷ [])) (set (1 ∷ 2 ∷ 3 ∷ [])))
    ∷ holds (Minus (set (1 ∷ 2 ∷ [])) (set (2 ∷ 3 ∷ [])) (set (1 ∷ [])))
    ∷ fails (Minus (set (1 ∷ 2 ∷ [])) (set (2 ∷ 3 ∷ [])) (set (3 ∷ [])))
    ∷ holds (With (set (1 ∷ [])) 2 (set (1 ∷ 2 ∷ [])))
    ∷ fails (With (set (1 ∷ [])) 2 (set (2 ∷ [])))
    ∷ holds (Without (set (1 ∷ 2 ∷ [])) 2 (set (1 ∷ [])))
    ∷ fails (Without (set (1 ∷ 2 ∷ [])) 2 (set []))
    ∷ holds (Lowest 7 (set (3 ∷ 5 ∷ [])) 3)
    ∷ fails (Lowest 7 (set (3 ∷ 5 ∷ [])) 5)
    ∷ holds (Counted 7 (set (3 ∷ 5 ∷ [])) 2)
    ∷ fails (Counted 7 (set (3 ∷ 5 ∷ [])) 1)
    ∷ holds (All 3 (set (1 ∷ 2 ∷ 3 ∷ [])))
    ∷ fails (All 3 (set (1 ∷ 2 ∷ [])))
    ∷ fails (All 3 (set (1 ∷ 2 ∷ 3 ∷ 4 ∷ [])))
    ∷ holds (Decides (1 ≤ 1) true)
    ∷ holds (Decides (2 ≤ 1) false)
    ∷ fails (Decides (1 ≤ 1) false)
    ∷ fails (Decides (2 ≤ 1) true)
    ∷ []
