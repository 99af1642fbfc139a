-- On the way: what the search for the fewest looks for, and what keeps it short. No call's promise names any of it.
use Rattle.std.specs.Prelude.{◌≡◌, Bool, true, List, ℕ, ◌≤◌, ◌<◌, length}
use Rattle.busset.specs.Sets.{In, Sub, empty, add, meet, size}
use Rattle.rules.specs.Grids.{Grid, with_sites_and_units}
use Rattle.rules.specs.Observation.{Closed}
use Rattle.rules.specs.Placing.{Full, Covers, Rising, placed, Before}

-- P holds of every grid with the buses, lines and Z buses of g, whatever its sites and units
abbrev pub Whatever : Grid → (Grid → Type 0) → Type 0
Whatever g P = (sites units : ℕ) → P (with_sites_and_units g sites units)

-- ---- ways: what one call of the search looks for, where these sites are still open to it

-- xs is a rising list of k of the sites that makes all buses observed
pub record Way (g : Grid) (sites k : ℕ) (xs : List ℕ) : Type 0 where
  pub rising : Rising (In sites) 0 xs
  pub many : length xs ≡ k
  pub covers : Covers g (placed g.units xs)

-- there is no way
abbrev pub NoWay : Grid → ℕ → ℕ → Type 0
NoWay g sites k = (xs : List ℕ) → Way g sites k xs → ⊥

-- m is the set of the sites of the first way
pub record FirstWay (g : Grid) (sites k m : ℕ) : Type 0 where
  pub list : List ℕ
  pub set : m ≡ placed empty list
  pub way : Way g sites k list
  pub first : (ys : List ℕ) → Way g sites k ys → Before list ys

-- ---- covers: what a cut excludes. An item is what a unit may be put on, and `gives` says what a unit there observes directly

-- v is at most k of the items, and units on them make all buses observed: a set that satisfies the rules and has what they give has all
pub record ItemCover (g : Grid) (gives : ℕ → ℕ) (items k v : ℕ) : Type 0 where
  pub of : Sub v items
  pub few : size v ≤ k
  pub full : (s : ℕ) → Closed g s → ((x : ℕ) → In v x → Sub (gives x) s) → Full g.n s

-- v has one of the items w
pub record Meets (w v : ℕ) : Type 0 where
  pub some : 0 < size (meet w v)

-- w is a group: every cover has one of it
pub record Group (g : Grid) (gives : ℕ → ℕ) (items w : ℕ) : Type 0 where
  pub met : (k v : ℕ) → ItemCover g gives items k v → Meets w v

-- what a unit at bus x observes directly: x and its neighbours
abbrev pub direct : (ℕ → ℕ) → ℕ → ℕ
direct nbr x = add (nbr x) x

-- v is at most k of the sites, and units there make all buses observed
abbrev pub Cover : Grid → ℕ → ℕ → ℕ → Type 0
Cover g sites k v = ItemCover g (direct g.neighbours) sites k v

-- there is no cover
abbrev pub Uncoverable : Grid → ℕ → ℕ → Type 0
Uncoverable g sites k = (v : ℕ) → Cover g sites k v → ⊥

-- a cut: where it says true there is no cover
abbrev pub Cut : Grid → ℕ → ℕ → Bool → Type 0
Cut g sites k r = r ≡ true → Uncoverable g sites k
