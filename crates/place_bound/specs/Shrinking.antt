-- What trial units promise, and the group that they give.
use Rattle.std.specs.Prelude.{ℕ}
use Rattle.busset.specs.Sets.{In, Out, Sub}
use Rattle.rules.specs.Observation.{ZeroRules}
use Rattle.rules.specs.Placing.{Full}
use Rattle.place_light.specs.Ways.{direct}

-- r holds c, has all that Z buses give if c does, and misses a bus if c does
pub record Shrunk (n : ℕ) (nbr : ℕ → ℕ) (zeros c r : ℕ) : Type 0 where
  pub grows : Sub c r
  pub fired : ZeroRules nbr zeros c → ZeroRules nbr zeros r
  pub misses : (Full n c → ⊥) → Full n r → ⊥

-- r has all of the sites from which a unit would observe something outside c directly
pub record Outside (nbr : ℕ → ℕ) (sites c r : ℕ) : Type 0 where
  pub rest : (x : ℕ) → In sites x → Out r x → Sub (direct nbr x) c

-- r has all of the sites from which a unit would observe something outside a set to which s is shrunk
pub record Beside (n : ℕ) (nbr : ℕ → ℕ) (zeros sites s r : ℕ) : Type 0 where
  pub to : ℕ
  pub shrunk : Shrunk n nbr zeros s to
  pub outside : Outside nbr sites to r
