-- Reading a step text gives the refusal of the first check that fails, and its steps' number where all pass.
use Rattle.refusals.specs.declared.Refusal.{Refusal}
use Rattle.std.specs.Prelude.{Result, Ok, Err}
use mathlib.Core.Path.{◌≡◌, refl, sym, subst⁻¹}
use mathlib.Core.Bool.{Bool, true, false, cond, not, true≢false}
use mathlib.Core.List.{List, [], ◌∷◌}
use Prim.Native.Nat.{ℕ, ◌+◌, ◌-◌, ◌≤◌}
use native.Mathlib.Omega.{arith}
use lib.Dec.{T, ltb, ltb→lt, nltb→le}
use Rattle.text_field.specs.Split.{split, line_feed}
use Rattle.step_line.specs.StepLine.{step_line_of}
use Rattle.step_line.specs.declared.StepLine.{StepLine}
use Rattle.step_line.specs.declared.StepLine.TheVariants as line
use Rattle.grid.specs.Limits.{most_steps, most_step_bytes}
use Rattle.refusals.specs.declared.Refusal.TheVariants.{WrongForm, OutOfRange, TooManySteps}
use Rattle.refusals.specs.Refusals.{Check, check_that}
use Rattle.refusals.proofs.Orders.{itself}
use Rattle.step_text.specs.Steps.{step_in_range, ended, line_said, step_lines, read_steps}
use Rattle.refusals.proofs.Judging.{SaidBy, good, passing, failing, within_limit}
use Rattle.case_read.specs.Checks.{NothingFollows}
use Rattle.step_text.specs.Checks.{is_formed, is_ranged, HasTurn, after_step, step_line_checks, step_text_checks}

-- a number of steps
abbrev pub IsCount : Result ℕ Refusal → Type 0
IsCount r = (n : ℕ) × (r ≡ Ok n)

-- what is read by these checks
abbrev pub StepsBy : List Check → Result ℕ Refusal → Type 0
StepsBy = SaidBy Err IsCount

-- nothing follows `end`
end_judged : (k : ℕ) (m : List ℕ) (ms : List (List ℕ)) → StepsBy (check_that (NothingFollows m ms) 2 (k + 1) ∷ []) (ended k m ms)
end_judged k [] [] = good (tt, tt) (k - 1, refl)
end_judged k [] (m ∷ ms) = failing (NothingFollows [] (m ∷ ms)) 2 (k + 1) (WrongForm (k + 1)) (λ h. h) (itself (WrongForm (k + 1)))
end_judged k (b ∷ l) ms = failing (NothingFollows (b ∷ l) ms) 2 (k + 1) (WrongForm (k + 1)) (λ h. h) (itself (WrongForm (k + 1)))

-- a step: 3 before 12
step-judged : (k : ℕ) (ranged : Bool) (on : Result ℕ Refusal) (ons : List Check) → StepsBy ons on
    → StepsBy (check_that (ranged ≡ true) 3 k ∷ check_that (k ≤ most_steps) 12 k ∷ ons)
    (cond ranged (cond (ltb most_steps k) (Err (TooManySteps k)) on) (Err (OutOfRange k)))
step-judged k false on ons h = failing (false ≡ true) 3 k (OutOfRange k) (λ e. true≢false (sym e)) (itself (OutOfRange k))
step-judged k true on ons h = passing (true ≡ true) 3 k refl (go (ltb most_steps k) refl)
  where
    go : (b : Bool) → ltb most_steps k ≡ b → StepsBy (check_that (k ≤ most_steps) 12 k ∷ ons) (cond b (Err (TooManySteps k)) on)
    go true e =
        failing (k ≤ most_steps) 12 k (TooManySteps k) (λ l. omega (arith, l, ltb→lt most_steps k (subst⁻¹ T e tt)))
        (itself (TooManySteps k))
    go false e = passing (k ≤ most_steps) 12 k (nltb→le most_steps k (subst⁻¹ (λ (b : Bool). T (not b)) e tt)) h

-- a line: 2, and then the lines after it, or after `end` nothing
line-judged : (x : StepLine) (k : ℕ) (on end : Result ℕ Refusal) (ons ends : List Check) → StepsBy ons on → StepsBy ends end
    → StepsBy (check_that (is_formed x ≡ true) 2 k ∷ check_that (is_ranged x ≡ true) 3 k ∷ check_that (HasTurn x k) 12 k ∷ after_step x
    ends ons)
    (line_said x k on end)
line-judged (line.Step x) k on end ons ends p q = passing (true ≡ true) 2 k refl (step-judged k (step_in_range x) on ons p)
line-judged line.End k on end ons ends p q =
    passing (true ≡ true) 2 k refl (passing (true ≡ true) 3 k refl (passing (HasTurn line.End k) 12 k tt q))
line-judged line.Wrong k on end ons ends p q = failing (false ≡ true) 2 k (WrongForm k) (λ e. true≢false (sym e)) (itself (WrongForm k))

lines-judged : (k : ℕ) (l : List ℕ) (ms : List (List ℕ)) → StepsBy (step_line_checks k l ms) (step_lines k l ms)
unfolding step_lines
lines-judged k l [] = failing ⊥ 2 k (WrongForm k) (λ h. h) (itself (WrongForm k))
lines-judged k l (m ∷ ms) =
    line-judged (step_line_of l) k (step_lines (k + 1) m ms) (ended k m ms) (step_line_checks (k + 1) m ms)
    (check_that (NothingFollows m ms) 2 (k + 1) ∷ []) (lines-judged (k + 1) m ms) (end_judged k m ms)

pub steps-judged : (text : List ℕ) → StepsBy (step_text_checks text) (read_steps text)
unfolding read_steps
steps-judged text =
    let l = (split line_feed text).first in
    let ms = (split line_feed text).rest in
    within_limit Err IsCount most_step_bytes text (step_line_checks 1 l ms) (step_lines 1 l ms) (lines-judged 1 l ms)
