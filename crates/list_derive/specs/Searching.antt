-- The search for the next step: what it answers.
use Rattle.std.specs.Prelude.{ℕ, Option, Some, None}
use Rattle.step.specs.declared.Step.{Step}
use Rattle.rules.specs.Grids.{Grid}
use Rattle.rules.specs.Steps.{Finished}
use Rattle.rules.specs.Derivation.{NextIs}

-- the next step of the derivation, or nothing where the list is finished
abbrev pub NextAnswer : Grid → ℕ → Option Step → Type 0
NextAnswer g s (Some x) = NextIs g s x
NextAnswer g s None = Finished g s
