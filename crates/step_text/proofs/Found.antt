-- What is known of a step text that is found good: as many steps as it says, at most 1,024, each with numbers 1 to 64.
use Rattle.std.specs.Prelude.{Option, Some, None, Result, Ok, Err}
use mathlib.Core.Path.{◌≡◌, refl}
use mathlib.Core.Bool.{Bool, true, false, cond}
use mathlib.Core.List.{List, [], ◌∷◌}
use Prim.Native.Nat.{ℕ, ◌+◌, ◌-◌, ◌≤◌}
use native.Mathlib.Omega.{arith}
use borrow.Author.Tests.{ltb-false}
use lib.Dec.{ltb}
use lib.ListN.{length}
use Rattle.basics.specs.Lists.{Each}
use Rattle.text_field.specs.Split.{split}
use Rattle.text_field.proofs.Tested.{both}
use Rattle.step.specs.declared.Step.{Step}
use Rattle.step.specs.Reasons.{named_by}
use Rattle.rules.specs.Steps.{BusIfNamed, Names}
use Rattle.step_line.specs.StepLine.{step_line_of}
use Rattle.step_line.specs.declared.StepLine.{StepLine}
use Rattle.step_line.specs.declared.StepLine.TheVariants.{Step as StepOf, End, Wrong}
use Rattle.grid.specs.Limits.{most_buses, most_steps, most_step_bytes}
use Rattle.refusals.specs.declared.Refusal.{Refusal}
use Rattle.refusals.specs.declared.Refusal.TheVariants.{TextTooLong, OutOfRange, TooManySteps}
use Rattle.case_judge.specs.Judging.{is_bus}
use Rattle.case_judge.proofs.Judged.{inside, not_one}
use Rattle.step_text.specs.Steps.{named_in_range, reason_in_range, step_in_range, ended, line_said, step_lines}
use Rattle.step_text.specs.Steps.{read_steps, and_steps, steps_in, steps_from, steps_of}

named-bus : (y : Option ℕ) → named_in_range y ≡ true → BusIfNamed most_buses y
named-bus None e = tt
named-bus (Some b) e = inside most_buses b e

names : (x : Step) → step_in_range x ≡ true → Names most_buses x
unfolding step_in_range
names x e =
    let p = both (is_bus most_buses x.bus) (reason_in_range x.reason) e in
    record { bus = inside most_buses x.bus p.0; reason = named-bus (named_by x.reason) p.1 }

-- n steps are found from line k on
pub record StepsFound (k n : ℕ) (xs : List Step) : Type 0 where
  pub count : length xs + k ≡ n + 1
  pub few : n ≤ most_steps
  pub named : Each (Names most_buses) xs

pub not_steps : {n : ℕ} (r : Refusal) → Err r ≡ Ok n → ⊥
not_steps r e = not_one (cc)

found_end : (k n : ℕ) (m : List ℕ) (ms : List (List ℕ)) → 1 ≤ k → k ≤ most_steps + 1 → ended k m ms ≡ Ok n → StepsFound k n []
found_end k n [] [] h l e = let f : k - 1 ≡ n = cc in record { count = omega arith; few = omega arith; named = tt }
found_end k n [] (m ∷ ms) h l e = absurd (not_steps _ e)
found_end k n (b ∷ m) ms h l e = absurd (not_steps _ e)

found-step : (k n : ℕ) (x : Step) (xs : List Step) (on : Result ℕ Refusal) (a b : Bool) → step_in_range x ≡ a → ltb most_steps k ≡ b →
    cond a (cond b (Err (TooManySteps k)) on) (Err (OutOfRange k)) ≡ Ok n
    → (k ≤ most_steps → on ≡ Ok n → StepsFound (k + 1) n xs)
    → StepsFound k n (x ∷ xs)
found-step k n x xs on true true p q e ih = absurd (not_steps _ e)
found-step k n x xs on true false p q e ih =
    let f = ih (ltb-false most_steps k q) e in
    record { count = omega (arith, f.count); few = f.few; named = (names x p, f.named) }
found-step k n x xs on false b p q e ih = absurd (not_steps _ e)

found-line : (k n : ℕ) (r : StepLine) (m : List ℕ) (ms : List (List ℕ)) (xs : List Step) (on : Result ℕ Refusal)
    → 1 ≤ k → k ≤ most_steps + 1 →
    line_said r k on (ended k m ms) ≡ Ok n → (k ≤ most_steps → on ≡ Ok n → StepsFound (k + 1) n xs) → StepsFound k n (and_steps r xs)
found-line k n (StepOf x) m ms xs on h l e ih = found-step k n x xs on (step_in_range x) (ltb most_steps k) refl refl e ih
found-line k n End m ms xs on h l e ih = found_end k n m ms h l e
found-line k n Wrong m ms xs on h l e ih = absurd (not_steps _ e)

found-lines : (ps : List (List ℕ)) (k n : ℕ) (l : List ℕ) → 1 ≤ k → k ≤ most_steps + 1 → step_lines k l ps ≡ Ok n
    → StepsFound k n (steps_in l ps)
unfolding step_lines steps_in
found-lines [] k n l h b e = absurd (not_steps _ e)
found-lines (m ∷ ms) k n l h b e =
    found-line k n (step_line_of l) m ms (steps_in m ms) (step_lines (k + 1) m ms) h b e
    (λ g f. found-lines ms (k + 1) n m (omega arith) (omega arith) f)

-- a text found to have n steps
pub steps-found : (text : List ℕ) (n : ℕ) → read_steps text ≡ Ok n → StepsFound 1 n (steps_of text)
unfolding read_steps steps_from
steps-found text n e = go (ltb most_step_bytes (length text)) e
  where
    go : (b : Bool) → cond b (Err TextTooLong) (step_lines 1 (split 10 text).first (split 10 text).rest) ≡ Ok n
        → StepsFound 1 n (steps_of text)
    go true e = absurd (not_steps _ e)
    go false e = found-lines (split 10 text).rest 1 n (split 10 text).first (omega arith) (omega arith) e

-- and as many as it says
pub steps-count : (text : List ℕ) (n : ℕ) → read_steps text ≡ Ok n → length (steps_of text) ≡ n
steps-count text n e = let f = steps-found text n e in omega (arith, f.count)
