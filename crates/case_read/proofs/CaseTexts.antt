-- Reading a case text gives the refusal of the first check that fails, and a case where all pass.
use Rattle.std.specs.Prelude.{Result, Ok, Err}
use mathlib.Core.Path.{◌≡◌, refl, sym}
use mathlib.Core.Bool.{Bool, true, false, cond, true≢false}
use mathlib.Core.List.{List, [], ◌∷◌}
use Prim.Native.Nat.{ℕ, ◌+◌}
use Rattle.text_field.specs.Split.{split, line_feed}
use Rattle.case_line.specs.Record.{record_of}
use Rattle.case_line.specs.declared.Record.{Record}
use Rattle.case_line.specs.declared.Record.TheVariants.{Grid, Bus, Line, Circuits, Pmu, End, Wrong}
use Rattle.grid.specs.declared.Case.{Case}
use Rattle.refusals.specs.declared.Refusal.TheVariants.{WrongForm, OutOfRange, OutOfOrder}
use Rattle.refusals.specs.Refusals.{Check, check_that}
use Rattle.refusals.proofs.Orders.{itself}
use Rattle.case_judge.specs.Judging.{in_place, in_range, in_order, next_or_last, judged}
use Rattle.grid.specs.Limits.{most_bytes}
use Rattle.case_read.specs.Reading.{start, next_reader, case_so_far, case_ended, record_said, read_lines, read_text}
use Rattle.case_read.specs.declared.Reader.{Reader}
use Rattle.case_read.specs.Reading.{read_case}
use Rattle.case_judge.specs.declared.Standing.{Standing}
use Rattle.case_judge.specs.declared.Fault.TheVariants.{Form, Range, Order}
use Rattle.refusals.specs.declared.Refusal.{Refusal}
use Rattle.refusals.proofs.Judging.{SaidBy, good, passing, failing, within_limit}
use Rattle.case_read.specs.Checks.{NothingFollows, after_record, line_checks, lines_from, case_checks}

-- a case
abbrev pub IsCase : Result Case Refusal → Type 0
IsCase r = (c : Case) × (r ≡ Ok c)

-- what is read by these checks
abbrev pub ReadBy : List Check → Result Case Refusal → Type 0
ReadBy = SaidBy Err IsCase

-- nothing follows `end`
end_judged : (c : Case) (k : ℕ) (m : List ℕ) (ms : List (List ℕ)) → ReadBy (check_that (NothingFollows m ms) 2 k ∷ []) (case_ended c k m ms)
end_judged c k [] [] = good (tt, tt) (c, refl)
end_judged c k [] (m ∷ ms) = failing (NothingFollows [] (m ∷ ms)) 2 k (WrongForm k) (λ h. h) (itself (WrongForm k))
end_judged c k (b ∷ l) ms = failing (NothingFollows (b ∷ l) ms) 2 k (WrongForm k) (λ h. h) (itself (WrongForm k))

-- a line: 2 before 3 before 4
line-judged : (p r o : Bool) (v : Standing) (k : ℕ) (on end : Result Case Refusal) (later : List Check)
    → ReadBy later (record_said (Ok v) k on end)
    → ReadBy (check_that (p ≡ true) 2 k ∷ check_that (r ≡ true) 3 k ∷ check_that (o ≡ true) 4 k ∷ later)
    (record_said (cond p (cond r (cond o (Ok v) (Err Order)) (Err Range)) (Err Form)) k on end)
line-judged false r o v k on end later h = failing (false ≡ true) 2 k (WrongForm k) (λ e. true≢false (sym e)) (itself (WrongForm k))
line-judged true false o v k on end later h =
    passing (true ≡ true) 2 k refl (failing (false ≡ true) 3 k (OutOfRange k) (λ e. true≢false (sym e)) (itself (OutOfRange k)))
line-judged true true false v k on end later h =
    passing (true ≡ true) 2 k refl
    (passing (true ≡ true) 3 k refl (failing (false ≡ true) 4 k (OutOfOrder k) (λ e. true≢false (sym e)) (itself (OutOfOrder k))))
line-judged true true true v k on end later h =
    passing (true ≡ true) 2 k refl (passing (true ≡ true) 3 k refl (passing (true ≡ true) 4 k refl h))

-- and then the lines after it, or after `end` nothing
record_judged : (x : Record) (k : ℕ) (on end : Result Case Refusal) (ons ends : List Check) → ReadBy ons on → ReadBy ends end
    → ReadBy (after_record x ends ons) (record_said (Ok (next_or_last x)) k on end)
record_judged (Grid n) k on end ons ends p q = p
record_judged (Bus b zero site) k on end ons ends p q = p
record_judged (Line a b) k on end ons ends p q = p
record_judged (Circuits a b c) k on end ons ends p q = p
record_judged (Pmu b) k on end ons ends p q = p
record_judged End k on end ons ends p q = q
record_judged Wrong k on end ons ends p q = p

pub lines-judged : (s : Reader) (k : ℕ) (l : List ℕ) (ms : List (List ℕ)) → ReadBy (line_checks s k l ms) (read_lines s k l ms)
unfolding read_lines judged
lines-judged s k l [] = failing ⊥ 2 k (WrongForm k) (λ h. h) (itself (WrongForm k))
lines-judged s k l (m ∷ ms) =
    let x = record_of l in
    line-judged (in_place s.place x) (in_range s.place x) (in_order s.place x) (next_or_last x) k
    (read_lines (next_reader s x) (k + 1) m ms) (case_ended (case_so_far s) (k + 1) m ms)
    (after_record x (check_that (NothingFollows m ms) 2 (k + 1) ∷ []) (line_checks (next_reader s x) (k + 1) m ms))
    (record_judged x k (read_lines (next_reader s x) (k + 1) m ms) (case_ended (case_so_far s) (k + 1) m ms)
    (line_checks (next_reader s x) (k + 1) m ms) (check_that (NothingFollows m ms) 2 (k + 1) ∷ [])
    (lines-judged (next_reader s x) (k + 1) m ms) (end_judged (case_so_far s) (k + 1) m ms))

pub case-judged : (text : List ℕ) → ReadBy (case_checks text) (read_case text)
unfolding read_case read_text
case-judged text =
    within_limit Err IsCase most_bytes text (lines_from 1 text) (read_text 1 text)
    (lines-judged start 1 (split line_feed text).first (split line_feed text).rest)
