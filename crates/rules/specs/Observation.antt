-- Observation: the two rules, and the observed set.
use Rattle.std.specs.Prelude.{◌≡◌, ℕ}
use Rattle.busset.specs.Sets.{In, Sub}
use Rattle.rules.specs.Grids.{Grid}

-- O1: a bus with a unit, and each of its neighbours, is observed
pub record O1 (neighbours : ℕ → ℕ) (units s : ℕ) : Type 0 where
  pub own : (b : ℕ) → In units b → In s b
  pub near : (b : ℕ) → In units b → Sub (neighbours b) s

-- of the buses m, all but b are in s
abbrev pub AllBut : ℕ → ℕ → ℕ → Type 0
AllBut m b s = (a : ℕ) → In m a → (a ≡ b → ⊥) → In s a

-- O2 at an observed Z bus with the neighbours m: if all of them but one are observed, that one is observed too
abbrev pub Fired : ℕ → ℕ → Type 0
Fired m s = (b : ℕ) → In m b → AllBut m b s → In s b

-- O2: if a Z bus is observed and all its neighbours but one are observed, that one is observed too
abbrev pub O2 : (ℕ → ℕ) → ℕ → ℕ → Type 0
O2 neighbours zeros s = (w : ℕ) → In zeros w → In s w → Fired (neighbours w) s

-- what Z buses give is in s
pub record ZeroRules (neighbours : ℕ → ℕ) (zeros s : ℕ) : Type 0 where
  pub o2 : O2 neighbours zeros s

-- s satisfies both rules: what units give directly is in it, and what Z buses give
pub record Closed (g : Grid) (s : ℕ) : Type 0 where
  pub direct : O1 g.neighbours g.units s
  pub zeros : ZeroRules g.neighbours g.zeros s

-- s is the observed set: it satisfies both rules and is contained in every set that does
pub record ObservedSet (g : Grid) (s : ℕ) : Type 0 where
  pub closed : Closed g s
  pub least : (t : ℕ) → Closed g t → Sub s t
