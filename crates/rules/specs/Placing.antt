-- Placing new units: additions that make all buses observed, and which of them comes first.
use Rattle.std.specs.Prelude.{◌≡◌, ◌⊎◌, List, [], ◌∷◌, ℕ, ◌≤◌, ◌<◌, length}
use Rattle.busset.specs.Sets.{Bus, In, Out, empty, add}
use Rattle.rules.specs.Grids.{Grid, with_sites_and_units}
use Rattle.rules.specs.Observation.{Closed}

-- ---- other units

-- g with the units u
abbrev pub with_units : Grid → ℕ → Grid
with_units g u = with_sites_and_units g g.sites u

-- s has all n buses
abbrev pub Full : ℕ → ℕ → Type 0
Full n s = (b : ℕ) → Bus n b → In s b

-- the units u make all n buses observed: every set that satisfies both rules has them
abbrev pub Covers : Grid → ℕ → Type 0
Covers g u = (s : ℕ) → Closed (with_units g u) s → Full g.n s

-- ---- additions

-- a new unit may go on x: a Y site without a unit
pub record Free (g : Grid) (x : ℕ) : Type 0 where
  pub site : In g.sites x
  pub bare : Out g.units x

-- a rising list of numbers above `low`, and P holds of each
abbrev pub Rising : (ℕ → Type 0) → ℕ → List ℕ → Type 0
Rising P low [] = Unit {0}
Rising P low (x ∷ xs) = (low < x) × P x × Rising P x xs

-- the set u with the buses of a list
abbrev pub placed : ℕ → List ℕ → ℕ
placed u [] = u
placed u (x ∷ xs) = placed (add u x) xs

-- xs is an addition within the budget that makes all n buses observed
pub record Addition (g : Grid) (budget : ℕ) (xs : List ℕ) : Type 0 where
  pub within : length xs ≤ budget
  pub rising : Rising (Free g) 0 xs
  pub covers : Covers g (placed g.units xs)

-- ---- which comes first

-- xs comes before ys, or is the same, number by number
abbrev pub Before : List ℕ → List ℕ → Type 0
Before [] ys = Unit {0}
Before (x ∷ xs) [] = ⊥
Before (x ∷ xs) (y ∷ ys) = (x < y) ⊎ ((x ≡ y) × Before xs ys)

-- xs is smaller in number than ys; or as large, and comes before it or is the same
abbrev pub Earlier : List ℕ → List ℕ → Type 0
Earlier xs ys = (length xs < length ys) ⊎ ((length xs ≡ length ys) × Before xs ys)

-- m is the set of the sites of the fewest: the addition that is earlier than every one
pub record FewestSites (g : Grid) (budget m : ℕ) : Type 0 where
  pub list : List ℕ
  pub set : m ≡ placed empty list
  pub addition : Addition g budget list
  pub first : (ys : List ℕ) → Addition g budget ys → Earlier list ys

-- some addition within the budget makes all n buses observed
pub record SomeAddition (g : Grid) (budget : ℕ) : Type 0 where
  pub list : List ℕ
  pub addition : Addition g budget list
