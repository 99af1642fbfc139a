-- The test of one step: what it checks, and what its answer says.
use Rattle.std.specs.Prelude.{List, [], ◌∷◌, ℕ}
use Rattle.busset.specs.Sets.{Out}
use Rattle.step.specs.declared.Step.{Step}
use Rattle.rules.specs.Grids.{Grid}
use Rattle.rules.specs.Steps.{Holds, Names}
use Rattle.refusals.specs.Refusals.{Check, check_that}

-- of step k, where s is observed: it names buses 1 to n, or 7; its bus is not yet observed, or 8; its reason holds, or 9
abbrev pub step_checks_at : Grid → ℕ → ℕ → Step → List Check
step_checks_at g k s x =
    check_that (Names g.n x) 7 k ∷ check_that (Out s x.bus) 8 k ∷ check_that (Holds g s x.bus x.reason) 9 k ∷ []
