-- What the passes over a grid promise: each gives no more than Z buses give, and the last leaves nothing to give.
use Rattle.std.specs.Prelude.{◌≡◌, ℕ}
use Rattle.busset.specs.Sets.{Sub}
use Rattle.rules.specs.Observation.{Fired, ZeroRules}

-- r is s with what an observed Z bus with the neighbours m gives by O2
pub record Fires (m s r : ℕ) : Type 0 where
  pub grows : Sub s r
  pub sound : (t : ℕ) → Sub s t → Fired m t → Sub r t
  pub settled : r ≡ s → Fired m s

-- r is s with what one sweep over its Z buses gives; if that is nothing, s has all that they give
pub record Swept (nbr : ℕ → ℕ) (zeros s r : ℕ) : Type 0 where
  pub grows : Sub s r
  pub sound : (t : ℕ) → Sub s t → ZeroRules nbr zeros t → Sub r t
  pub settled : r ≡ s → ZeroRules nbr zeros s

-- r is the smallest set that holds s and has all that Z buses give
pub record Spread (nbr : ℕ → ℕ) (zeros s r : ℕ) : Type 0 where
  pub grows : Sub s r
  pub fired : ZeroRules nbr zeros r
  pub least : (t : ℕ) → Sub s t → ZeroRules nbr zeros t → Sub r t
