-- The line of a step: how it ends, and how long it is.
use Rattle.std.specs.Prelude.{Option, Some, None}
use mathlib.Core.Path.{◌≡◌, ap}
use mathlib.Core.List.{List, [], ◌∷◌, ◌++◌, append_assoc}
use Prim.Native.Nat.{ℕ, ◌≤◌}
use native.Mathlib.Omega.{arith}
use lib.ListN.{length, length-append}
use Rattle.busset.specs.Sets.{width}
use Rattle.step.specs.declared.Step.{Step}
use Rattle.step.specs.Reasons.{letter_of, named_by}
use Rattle.rules.specs.Steps.{BusIfNamed, Names}
use Rattle.text_field.specs.Split.{join, bytes, tab, line_feed}
use Rattle.text_field.specs.Number.{number_text}
use Rattle.text_field.proofs.Digits.{text-two}
use Rattle.step_line.specs.StepLine.{named_texts, step_text}

-- where the reason names no bus, its letter ends the line
pub letter_ends : (x : Step) → named_by x.reason ≡ None
    → step_text x ++ line_feed ∷ [] ≡ (bytes "step" ++ tab ∷ number_text x.bus) ++ tab ∷ letter_of x.reason ∷ line_feed ∷ []
unfolding step_text join
letter_ends x e =
    rw e (ap (λ (t : List ℕ). bytes "step" ++ tab ∷ t)
    (append_assoc (number_text x.bus) (tab ∷ letter_of x.reason ∷ []) (line_feed ∷ [])))

pub step_length : (x : Step) → Names width x → length (step_text x ++ line_feed ∷ []) ≤ 13
unfolding step_text join
step_length x h = go (named_by x.reason) h.reason
  where
    bus : length (number_text x.bus) ≤ 2
    bus = text-two x.bus (omega (arith, h.bus.most))

    go : (y : Option ℕ) → BusIfNamed width y
        → length (join tab (bytes "step") (number_text x.bus ∷ (letter_of x.reason ∷ []) ∷ named_texts y) ++ line_feed ∷ []) ≤ 13
    go None k = simp length-append (omega (arith, bus))
    go (Some p) k = simp length-append (omega (arith, bus, text-two p (omega (arith, k.most))))
