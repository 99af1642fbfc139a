-- The lists of steps that a report has.
use Rattle.std.specs.Prelude.{List, ◌≤◌, length}
use Rattle.busset.specs.Sets.{width}
use Rattle.step.specs.declared.Step.{Step}
use Rattle.rules.specs.Steps.{Names}
use Rattle.basics.specs.Lists.{Each}

-- at most one step for each bus, which name buses
pub record Named (steps : List Step) : Type 0 where
  pub few : length steps ≤ width
  pub named : Each (Names width) steps
