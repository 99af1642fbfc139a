-- What a test that answers yes or no promises.
use Rattle.std.specs.Prelude.{◌≡◌, Bool, true}

-- r says whether P holds
pub record Decides (P : Type 0) (r : Bool) : Type 0 where
  pub yes : r ≡ true → P
  pub no : P → r ≡ true
