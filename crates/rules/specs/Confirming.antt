-- Cross-validation: when two units confirm each other, and the units that no other confirms.
use Rattle.std.specs.Prelude.{◌≡◌, ℕ}
use Rattle.busset.specs.Sets.{In}

-- units at a and b confirm each other: their buses are joined, or share a neighbour c, of whatever class
pub data Confirm : (ℕ → ℕ) → ℕ → ℕ → Type 0 where
  joined : {neighbours : ℕ → ℕ} {a b : ℕ} → In (neighbours a) b → Confirm neighbours a b
  share : {neighbours : ℕ → ℕ} {a b : ℕ} (c : ℕ) → In (neighbours a) c → In (neighbours b) c → Confirm neighbours a b

-- a unit stands at b, and no other unit confirms it
pub record Unconfirmed (neighbours : ℕ → ℕ) (units b : ℕ) : Type 0 where
  pub unit : In units b
  pub none : (a : ℕ) → In units a → (a ≡ b → ⊥) → Confirm neighbours a b → ⊥

-- s is the set of the units that no other unit confirms
pub record UnconfirmedSet (neighbours : ℕ → ℕ) (units s : ℕ) : Type 0 where
  pub all : (b : ℕ) → Unconfirmed neighbours units b → In s b
  pub only : (b : ℕ) → In s b → Unconfirmed neighbours units b
