-- The derivation as a list by value.
use Rattle.std.specs.Prelude.{◌≡◌}
use Rattle.rules.specs.Grids.{Grid}
use Rattle.rules.specs.Derivation.{Derivation}
use Rattle.list_value.specs.Lists.{StepList, listed_steps, list_of}

-- r is the derivation of the grid, with blanks after its last step
pub record Derives (g : Grid) (r : StepList) : Type 0 where
  pub derived : Derivation g (listed_steps r)
  pub is : r ≡ list_of (listed_steps r)
