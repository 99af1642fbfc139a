-- What is observed with units added: observed sets made from one another.
use Rattle.std.specs.Prelude.{ℕ}
use Rattle.busset.specs.Sets.{In, Sub}
use Rattle.rules.specs.Observation.{ZeroRules}

-- r is what is observed where s is and a unit stands at x
pub record Lit (nbr : ℕ → ℕ) (zeros s x r : ℕ) : Type 0 where
  pub grows : Sub s r
  pub own : In r x
  pub near : Sub (nbr x) r
  pub fired : ZeroRules nbr zeros r
  pub least : (t : ℕ) → Sub s t → In t x → Sub (nbr x) t → ZeroRules nbr zeros t → Sub r t
