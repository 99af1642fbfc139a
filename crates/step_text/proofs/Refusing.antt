-- Where a step text is refused: no line is further down than the text has bytes.
use Rattle.std.specs.Prelude.{Result, Ok, Err}
use mathlib.Core.Path.{◌≡◌, refl, subst}
use mathlib.Core.Bool.{Bool, true, false, cond}
use mathlib.Core.List.{List, [], ◌∷◌}
use Prim.Native.Nat.{ℕ, ◌+◌, ◌≤◌}
use native.Mathlib.Omega.{arith}
use borrow.Author.Tests.{ltb-false}
use lib.Dec.{ltb}
use lib.ListN.{length}
use Rattle.text_field.specs.Split.{split, line_feed}
use Rattle.text_field.proofs.Cutting.{rest-few}
use Rattle.step_line.specs.StepLine.{step_line_of}
use Rattle.step_line.specs.declared.StepLine.{StepLine}
use Rattle.step_line.specs.declared.StepLine.TheVariants.{Step as StepOf, End, Wrong}
use Rattle.refusals.specs.declared.Refusal.{Refusal}
use Rattle.refusals.specs.declared.Refusal.TheVariants.{TextTooLong, OutOfRange, TooManySteps}
use Rattle.refusals.specs.Refusals.{place_of}
use Rattle.grid.specs.Limits.{most_steps, most_step_bytes}
use Rattle.step_text.specs.Steps.{step_in_range, ended, line_said, step_lines, read_steps}

-- a refusal has a place of at most m
abbrev PlacedBy : ℕ → Result ℕ Refusal → Type 0
PlacedBy m (Ok n) = Unit {0}
PlacedBy m (Err q) = place_of q ≤ m

-- a step that is out of range, or one too many
step-placed : (m k : ℕ) (a b : Bool) (on : Result ℕ Refusal) → k ≤ m → PlacedBy m on
    → PlacedBy m (cond a (cond b (Err (TooManySteps k)) on) (Err (OutOfRange k)))
step-placed m k true true on h p = h
step-placed m k true false on h p = p
step-placed m k false b on h p = h

said-placed : (m k : ℕ) (r : StepLine) (on end : Result ℕ Refusal) → k ≤ m → PlacedBy m on → PlacedBy m end
    → PlacedBy m (line_said r k on end)
said-placed m k (StepOf x) on end h p q = step-placed m k (step_in_range x) (ltb most_steps k) on h p
said-placed m k End on end h p q = q
said-placed m k Wrong on end h p q = h

ended-placed : (m k : ℕ) (l : List ℕ) (ms : List (List ℕ)) → k + 1 ≤ m → PlacedBy m (ended k l ms)
ended-placed m k [] [] h = tt
ended-placed m k [] (l ∷ ms) h = h
ended-placed m k (b ∷ l) ms h = h

lines-placed : (m : ℕ) (ms : List (List ℕ)) (k : ℕ) (l : List ℕ) → k + length ms ≤ m → PlacedBy m (step_lines k l ms)
unfolding step_lines
lines-placed m [] k l h = omega arith
lines-placed m (n ∷ ms) k l h =
    said-placed m k (step_line_of l) (step_lines (k + 1) n ms) (ended k n ms) (omega arith)
    (lines-placed m ms (k + 1) n (omega arith)) (ended-placed m k n ms (omega arith))

text-placed : (text : List ℕ) → PlacedBy (1 + most_step_bytes) (read_steps text)
unfolding read_steps
text-placed text = go (ltb most_step_bytes (length text)) refl
  where
    go : (b : Bool) → ltb most_step_bytes (length text) ≡ b
        → PlacedBy (1 + most_step_bytes)
        (cond b (Err TextTooLong) (step_lines 1 (split line_feed text).first (split line_feed text).rest))
    go true e = omega arith
    go false e =
        lines-placed (1 + most_step_bytes) (split line_feed text).rest 1 (split line_feed text).first
        (omega (arith, ltb-false most_step_bytes (length text) e, rest-few line_feed text))

pub steps-place : (text : List ℕ) (q : Refusal) → read_steps text ≡ Err q → place_of q ≤ 1 + most_step_bytes
steps-place text q e = subst (PlacedBy (1 + most_step_bytes)) e (text-placed text)
