-- One record, where the reader stands: it is the next, the last, or refused.
use Rattle.std.specs.Prelude.{Bool, true, false, cond, ◌&&◌, ◌||◌, ℕ, ◌+◌, ◌≤◌, ◌<◌, eqb, ltb, leb, Result, Ok, Err}
use Rattle.busset.specs.Sets.{width, Bus as IsBus}
use Rattle.case_line.specs.declared.Record.{Record}
use Rattle.case_line.specs.declared.Record.TheVariants.{Grid, Bus, Line, Circuits, Pmu, End, Wrong}
use Rattle.grid.specs.Limits.{most_buses, most_lines, most_circuits, least_several}
use Rattle.case_judge.specs.declared.Place.{Place}
use Rattle.refusals.specs.declared.Refusal.{Refusal}
use Rattle.refusals.specs.declared.Refusal.TheVariants.{WrongForm, OutOfRange, OutOfOrder}
use Rattle.case_judge.specs.declared.Standing.{Standing}
use Rattle.case_judge.specs.declared.Standing.TheVariants.{Next, Last}
use Rattle.case_judge.specs.declared.Fault.{Fault}
use Rattle.case_judge.specs.declared.Fault.TheVariants.{Form, Range, Order}

-- k is a number from 1 to n
unfoldable pub is_bus : ℕ → ℕ → Bool
is_bus n k = leb 1 k && leb k n

-- circuits that a text says are from 2 to the most
unfoldable pub is_several : ℕ → Bool
is_several k = leb least_several k && leb k most_circuits

-- line c d stands after line a b
unfoldable pub is_after : ℕ → ℕ → ℕ → ℕ → Bool
is_after a b c d = ltb a c || (eqb a c && ltb b d)

-- `grid` has been read, and every `bus`
unfoldable pub past_buses : Place → Bool
past_buses s = ltb 0 s.n && leb s.n s.bus

-- ---- what holds of `line`, whether or not it says its circuits

-- it may stand here: every `bus` has been read, and no `pmu`
abbrev pub line_in_place : Place → Bool
line_in_place s = past_buses s && eqb s.unit 0

-- its ends are buses, and it is no 257th
abbrev pub line_in_range : Place → ℕ → ℕ → Bool
line_in_range s a b = is_bus s.n a && is_bus s.n b && ltb s.lines most_lines

-- a is below b, and it stands after the last
abbrev pub line_in_order : Place → ℕ → ℕ → Bool
line_in_order s a b = ltb a b && is_after s.a s.b a b

-- where the reader stands after it: one line more, however many circuits
abbrev pub place_after_line : Place → ℕ → ℕ → Place
place_after_line s a b = record { n = s.n; bus = s.bus; a = a; b = b; lines = s.lines + 1; unit = s.unit }

-- its ends are buses, and one line more is not too many
abbrev pub LineFits : Place → ℕ → ℕ → Type 0
LineFits s a b = IsBus width a × IsBus width b × (s.lines < most_lines)

-- ---- what holds of each record

-- a record of this kind may stand here; if not, refusal 2
abbrev pub in_place : Place → Record → Bool
in_place s (Grid n) = eqb s.n 0
in_place s (Bus k zero site) = ltb s.bus s.n
in_place s (Line a b) = line_in_place s
in_place s (Circuits a b k) = line_in_place s
in_place s (Pmu p) = past_buses s
in_place s End = past_buses s
in_place s Wrong = false

-- its numbers are in range, and it is no 257th `line`; if not, refusal 3
abbrev pub in_range : Place → Record → Bool
in_range s (Grid n) = is_bus most_buses n
in_range s (Bus k zero site) = is_bus s.n k
in_range s (Line a b) = line_in_range s a b
in_range s (Circuits a b k) = line_in_range s a b && is_several k
in_range s (Pmu p) = is_bus s.n p
in_range s End = true
in_range s Wrong = true

-- the bus is the next, a is below b, and `line` and `pmu` rise; if not, refusal 4
abbrev pub in_order : Place → Record → Bool
in_order s (Grid n) = true
in_order s (Bus k zero site) = eqb k (s.bus + 1)
in_order s (Line a b) = line_in_order s a b
in_order s (Circuits a b k) = line_in_order s a b
in_order s (Pmu p) = ltb s.unit p
in_order s End = true
in_order s Wrong = true

-- an accepted record is the next, or the last
abbrev pub next_or_last : Record → Standing
next_or_last (Grid n) = Next
next_or_last (Bus k zero site) = Next
next_or_last (Line a b) = Next
next_or_last (Circuits a b k) = Next
next_or_last (Pmu p) = Next
next_or_last End = Last
next_or_last Wrong = Next

-- 2 before 3 before 4
unfoldable pub judged : Place → Record → Result Standing Fault
judged s r =
    cond (in_place s r)
    (cond (in_range s r)
    (cond (in_order s r) (Ok (next_or_last r)) (Err Order))
    (Err Range))
    (Err Form)

-- the refusal of a fault in line k
abbrev pub fault_refusal : Fault → ℕ → Refusal
fault_refusal Form k = WrongForm k
fault_refusal Range k = OutOfRange k
fault_refusal Order k = OutOfOrder k

-- where the reader stands after a record
abbrev pub next_place : Place → Record → Place
next_place s (Grid n) = record { n = n; bus = 0; a = 0; b = 0; lines = 0; unit = 0 }
next_place s (Bus k zero site) = record { n = s.n; bus = k; a = s.a; b = s.b; lines = s.lines; unit = s.unit }
next_place s (Line a b) = place_after_line s a b
next_place s (Circuits a b k) = place_after_line s a b
next_place s (Pmu p) = record { n = s.n; bus = s.bus; a = s.a; b = s.b; lines = s.lines; unit = p }
next_place s End = s
next_place s Wrong = s

-- what the turn `Next` gives: a record's numbers are buses, one line more is not too many, nor are its circuits
abbrev pub Fit : Place → Record → Type 0
Fit s (Grid n) = Unit {0}
Fit s (Bus k zero site) = IsBus width k
Fit s (Line a b) = LineFits s a b
Fit s (Circuits a b k) = LineFits s a b × (k ≤ most_circuits)
Fit s (Pmu p) = IsBus width p
Fit s End = Unit {0}
Fit s Wrong = Unit {0}
