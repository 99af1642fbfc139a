-- The checks of texts are in document 01's order.
use Rattle.std.specs.Prelude.{IsSome}
use mathlib.Core.Path.{◌≡◌, refl, sym, ◌∙◌}
use mathlib.Core.Bool.{true}
use mathlib.Core.List.{List, [], ◌∷◌}
use mathlib.Core.Logic.{inl, inr}
use Prim.Native.Nat.{ℕ, zero, suc, ◌+◌, ◌≤◌}
use native.Mathlib.Omega.{arith}
use lib.Dec.{lit<, lit≤}
use lib.ListN.{length}
use Rattle.refusals.specs.Refusals.{Check, check_that}
use Rattle.text_field.specs.Split.{split, line_feed}
use Rattle.case_line.specs.Record.{record_of}
use Rattle.step_line.specs.StepLine.{step_line_of}
use Rattle.case_line.specs.declared.Record.{Record}
use Rattle.case_line.specs.declared.Record.TheVariants.{Grid, Bus, Line, Circuits, Pmu, End, Wrong}
use Rattle.step_line.specs.declared.StepLine.{StepLine}
use Rattle.step_line.specs.declared.StepLine.TheVariants as line
use Rattle.case_judge.specs.Judging.{in_order}
use Rattle.grid.specs.Limits.{most_bytes, most_step_bytes}
use Rattle.case_read.specs.Reading.{start, next_reader}
use Rattle.case_read.specs.declared.Reader.{Reader}
use Rattle.demands.specs.Order.{turn_of12, turn, Precedes, InTableOrder}
use Rattle.demands.proofs.Turns.{in_table, Ahead, ahead_most, ahead_first, TurnsBy, ComesAfter, later-follows}
use Rattle.case_read.specs.Checks.{NothingFollows, after_record, line_checks, case_checks}
use Rattle.step_text.specs.Checks.{HasTurn, after_step, step_line_checks, step_text_checks}
use Rattle.step_replay.specs.Replying.{with_fifty}
use Rattle.plan_input.specs.Asking.{budget_of}
use Rattle.demands.specs.Printed.{plan_line_checks, input_checks}

-- ---- the lines of a case text

-- the turn of a bad line
abbrev line_turn : ℕ
line_turn = 1

-- P holds of what comes after a record
after-record : (P : List Check → Type 0) (x : Record) (end on : List Check) → P end → P on → P (after_record x end on)
after-record P (Grid n) end on p q = q
after-record P (Bus b z site) end on p q = q
after-record P (Line a b) end on p q = q
after-record P (Circuits a b k) end on p q = q
after-record P (Pmu b) end on p q = q
after-record P End end on p q = p
after-record P Wrong end on p q = q

lines_ordered : (s : Reader) (k : ℕ) (l : List ℕ) (ms : List (List ℕ)) (p : Check) → Ahead line_turn k p
    → InTableOrder (p ∷ line_checks s k l ms)
lines_ordered s k l [] p before = (in_table p (omega (arith, ahead_most p before)), ahead_first p 2 before refl, refl)
lines_ordered s k l (m ∷ ms) p before =
    let fourth = check_that (in_order s.place (record_of l) ≡ true) 4 k in
    let on = lines_ordered (next_reader s (record_of l)) (k + 1) m ms fourth (inr (refl, omega arith)) in
    let after = after-record (λ qs. InTableOrder (fourth ∷ qs)) (record_of l) (check_that (NothingFollows m ms) 2 (k + 1) ∷ [])
    (line_checks (next_reader s (record_of l)) (k + 1) m ms) (refl, inr (refl, inl (omega arith)), refl) on in (
      in_table p (omega (arith, ahead_most p before)),
      ahead_first p 2 before refl,
      (refl, inr (refl, inr (refl, lit< tt)), (refl, inr (refl, inr (refl, lit< tt)), after)),
    )

lines-turn : (s : Reader) (k : ℕ) (l : List ℕ) (ms : List (List ℕ)) → TurnsBy line_turn (line_checks s k l ms)
lines-turn s k l [] = (lit≤ tt, tt)
lines-turn s k l (m ∷ ms) =
    let on = lines-turn (next_reader s (record_of l)) (k + 1) m ms in (
      lit≤ tt,
      (
        lit≤ tt,
        (
          lit≤ tt,
          after-record (TurnsBy line_turn) (record_of l) (check_that (NothingFollows m ms) 2 (k + 1) ∷ [])
              (line_checks (next_reader s (record_of l)) (k + 1) m ms) (lit≤ tt, tt) on,
        ),
      ),
    )

pub case_ordered : (text : List ℕ) → InTableOrder (case_checks text)
case_ordered text = lines_ordered start 1 (split line_feed text).first (split line_feed text).rest
    (check_that (length text ≤ most_bytes) 1 0) (inl (lit< tt))

pub case-turn : (text : List ℕ) → TurnsBy line_turn (case_checks text)
case-turn text = (lit≤ tt, lines-turn start 1 (split line_feed text).first (split line_feed text).rest)

-- ---- the planning program's input

pub input_ordered : (input : List ℕ) → InTableOrder (input_checks input)
input_ordered input = go (split line_feed input).first (split line_feed input).rest
  where
    go : (l : List ℕ) (ms : List (List ℕ)) → InTableOrder (check_that (length input ≤ most_bytes) 1 0 ∷ plan_line_checks l ms)
    go l [] = (refl, inl (lit< tt), refl)
    go l (m ∷ ms) = (refl, inl (lit< tt), lines_ordered start 2 m ms (check_that (IsSome (budget_of l)) 2 1) (inr (refl, lit< tt)))

pub input-turn : (input : List ℕ) → TurnsBy line_turn (input_checks input)
input-turn input = go (split line_feed input).first (split line_feed input).rest
  where
    go : (l : List ℕ) (ms : List (List ℕ)) → TurnsBy line_turn (check_that (length input ≤ most_bytes) 1 0 ∷ plan_line_checks l ms)
    go l [] = (lit≤ tt, (lit≤ tt, tt))
    go l (m ∷ ms) = (lit≤ tt, (lit≤ tt, lines-turn start 2 m ms))

-- ---- the lines of a step text

twelve-at-a-line : (k : ℕ) → 1 ≤ k → turn_of12 k ≡ line_turn
twelve-at-a-line zero h = absurd (omega (arith, h))
twelve-at-a-line (suc k) h = refl

-- P holds of what comes after a step
after-step : (P : List Check → Type 0) (x : StepLine) (end on : List Check) → P end → P on → P (after_step x end on)
after-step P (line.Step x) end on p q = q
after-step P line.End end on p q = p
after-step P line.Wrong end on p q = q

step-lines_ordered : (k : ℕ) (l : List ℕ) (ms : List (List ℕ)) (p : Check) → 1 ≤ k → Ahead line_turn k p
    → InTableOrder (p ∷ step_line_checks k l ms)
step-lines_ordered k l [] p some before = (in_table p (omega (arith, ahead_most p before)), ahead_first p 2 before refl, refl)
step-lines_ordered k l (m ∷ ms) p some before =
    let e = twelve-at-a-line k some in
    let twelfth = check_that (HasTurn (step_line_of l) k) 12 k in
    let on = step-lines_ordered (k + 1) m ms twelfth (omega arith) (inr (e, omega arith)) in
    let after = after-step (λ qs. InTableOrder (twelfth ∷ qs)) (step_line_of l) (check_that (NothingFollows m ms) 2 (k + 1) ∷ [])
    (step_line_checks (k + 1) m ms) (refl, inr (e, inl (omega arith)), refl) on in (
      in_table p (omega (arith, ahead_most p before)),
      ahead_first p 2 before refl,
      (refl, inr (refl, inr (refl, lit< tt)), (refl, inr (sym e, inr (refl, lit< tt)), after)),
    )

-- a check of a text keeps its turn among the others where 50 is added
abbrev Shifts : Check → Type 0
Shifts q = (turn q ≤ line_turn) × (turn (check_that q.wants (q.number + 50) q.place) ≡ turn q + 2)

-- and so for each
abbrev AllShift : List Check → Type 0
AllShift [] = Unit {0}
AllShift (q ∷ qs) = Shifts q × AllShift qs

step-lines_shift : (k : ℕ) (l : List ℕ) (ms : List (List ℕ)) → 1 ≤ k → AllShift (step_line_checks k l ms)
step-lines_shift k l [] some = ((lit≤ tt, refl), tt)
step-lines_shift k l (m ∷ ms) some =
    let e = twelve-at-a-line k some in
    let on = step-lines_shift (k + 1) m ms (omega arith) in (
      (lit≤ tt, refl),
      (
        (lit≤ tt, refl),
        (
          (omega (arith, e), omega (arith, e)),
          after-step AllShift (step_line_of l) (check_that (NothingFollows m ms) 2 (k + 1) ∷ [])
              (step_line_checks (k + 1) m ms) ((lit≤ tt, refl), tt) on,
        ),
      ),
    )

shift_turn : (qs : List Check) → AllShift qs → TurnsBy line_turn qs
shift_turn [] a = tt
shift_turn (q ∷ qs) a = (a.0.0, shift_turn qs a.1)

fifty_precedes : (p q : Check) → Shifts p → Shifts q → Precedes p q
    → Precedes (check_that p.wants (p.number + 50) p.place) (check_that q.wants (q.number + 50) q.place)
fifty_precedes p q a b (inl h) = inl (omega (arith, h, a.1, b.1))
fifty_precedes p q a b (inr (e, inl h)) = inr (a.1 ∙ omega (arith, e) ∙ sym b.1, inl h)
fifty_precedes p q a b (inr (e, inr (f, h))) = inr (a.1 ∙ omega (arith, e) ∙ sym b.1, inr (f, omega (arith, h)))

fifty_ordered : (qs : List Check) → AllShift qs → InTableOrder qs → InTableOrder (with_fifty qs)
fifty_ordered [] a o = tt
fifty_ordered (q ∷ []) a o = in_table (check_that q.wants (q.number + 50) q.place) (omega (arith, a.0.0, a.0.1))
fifty_ordered (p ∷ q ∷ qs) a o = (
  in_table (check_that p.wants (p.number + 50) p.place) (omega (arith, a.0.0, a.0.1)),
  fifty_precedes p q a.0 a.1.0 o.1,
  fifty_ordered (q ∷ qs) a.1 o.2,
)

fifty-turn : (qs : List Check) → AllShift qs → TurnsBy 3 (with_fifty qs)
fifty-turn [] a = tt
fifty-turn (q ∷ qs) a = (omega (arith, a.0.0, a.0.1), fifty-turn qs a.1)

pub step-text_ordered : (text : List ℕ) → InTableOrder (step_text_checks text)
step-text_ordered text = step-lines_ordered 1 (split line_feed text).first (split line_feed text).rest
    (check_that (length text ≤ most_step_bytes) 1 0) (lit≤ tt) (inl (lit< tt))

step-text_shift : (text : List ℕ) → AllShift (step_text_checks text)
step-text_shift text = ((lit≤ tt, refl), step-lines_shift 1 (split line_feed text).first (split line_feed text).rest (lit≤ tt))

pub step-text-turn : (text : List ℕ) → TurnsBy line_turn (step_text_checks text)
step-text-turn text = shift_turn (step_text_checks text) (step-text_shift text)

-- a step text read beside a case text comes after it
pub fifty-follows : (text : List ℕ) → ComesAfter line_turn (with_fifty (step_text_checks text))
fifty-follows text =
    later-follows line_turn (with_fifty (step_text_checks text)) (lit≤ tt) (lit< tt)
    (fifty_ordered (step_text_checks text) (step-text_shift text) (step-text_ordered text))

pub fifty-text-turn : (text : List ℕ) → TurnsBy 3 (with_fifty (step_text_checks text))
fifty-text-turn text = fifty-turn (step_text_checks text) (step-text_shift text)
