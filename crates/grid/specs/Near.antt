-- A set of buses, and those next to them.
use Rattle.std.specs.Prelude.{ℕ}
use Rattle.busset.specs.Sets.{In, Sub}

-- s is these buses, their neighbours, and no more: the smallest set that holds them
pub record WithNeighbours (nbr : ℕ → ℕ) (buses s : ℕ) : Type 0 where
  pub own : Sub buses s
  pub near : (b : ℕ) → In buses b → Sub (nbr b) s
  pub least : (t : ℕ) → Sub buses t → ((b : ℕ) → In buses b → Sub (nbr b) t) → Sub s t
