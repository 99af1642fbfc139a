-- Places in order: by kind, then by a number a, then by a number b. The base comes from the most buses alone, and only here.
use mathlib.Core.Path.{◌≡◌}
use Prim.Native.Nat.{ℕ, ◌+◌, ◌*◌, ◌≤◌, ◌<◌}
use native.Mathlib.Omega.{arith}
use Rattle.grid.specs.Limits.{most_buses}

-- above the bus numbers, and above what comes after the last of them
abbrev pub base : ℕ
base = 2 * most_buses

-- the place of a and b among the places of a kind
unfoldable pub spot : ℕ → ℕ → ℕ → ℕ
spot kind a b = (kind * base + a) * base + b

-- ---- the order of any kinds

module _ (k a b : ℕ) where
  -- a later kind is later
  pub kind_rises : (l c d : ℕ) → k < l → a < base → b < base → spot k a b < spot l c d
  unfolding spot
  kind_rises l c d h i j = omega arith

  -- of one kind, a higher a
  pub first_rises : (c d : ℕ) → a < c → b < base → spot k a b < spot k c d
  unfolding spot
  first_rises c d h j = omega arith

  -- and of one a, a higher b
  pub second_rises : (d : ℕ) → b < d → spot k a b < spot k a d
  unfolding spot
  second_rises d h = omega arith

  -- the next place is that of the next b
  pub next_spot : spot k a b + 1 ≡ spot k a (b + 1)
  unfolding spot
  next_spot = omega arith

  -- of one kind, a place has one a and one b
  pub same_first : (c d : ℕ) → b < base → d < base → spot k a b ≡ spot k c d → a ≡ c
  unfolding spot
  same_first c d i j e = omega arith

  pub same_second : (c d : ℕ) → b < base → d < base → spot k a b ≡ spot k c d → b ≡ d
  unfolding spot
  same_second c d i j e = omega arith

  -- a place at most another's has at most its a, and of one a at most its b
  pub at_most : (c d : ℕ) → d < base → spot k a b ≤ spot k c d → (a ≤ c) × (a ≡ c → b ≤ d)
  unfolding spot
  at_most c d j e = omega arith

  pub below : (c d : ℕ) → d < base → spot k a b < spot k c d → (a ≤ c) × (a ≡ c → b < d)
  unfolding spot
  below c d j e = omega arith

-- ---- the kinds, in the order of a text's records

-- bus k
abbrev pub bus_place : ℕ → ℕ
bus_place k = spot 0 0 k

-- the line from a to b
abbrev pub line_place : ℕ → ℕ → ℕ
line_place a b = spot 1 a b

-- the unit at k
abbrev pub unit_place : ℕ → ℕ
unit_place k = spot 2 0 k

-- after all of them
abbrev pub last_place : ℕ
last_place = spot 3 0 0

-- ---- rising

pub bus-rises : (j k : ℕ) → j < k → bus_place j < bus_place k
bus-rises j k = second_rises 0 0 j k

pub line-rises : (a b d : ℕ) → b < d → line_place a b < line_place a d
line-rises a b d = second_rises 1 a b d

pub row-rises : (a b c d : ℕ) → a < c → b < base → line_place a b < line_place c d
row-rises a b c d = first_rises 1 a b c d

pub unit-rises : (j k : ℕ) → j < k → unit_place j < unit_place k
unit-rises j k = second_rises 2 0 j k

-- ---- disjoint

pub bus-line : (k a b : ℕ) → k < base → bus_place k < line_place a b
bus-line k a b h = kind_rises 0 0 k 1 a b (omega arith) (omega arith) h

pub bus-unit : (k j : ℕ) → k < base → bus_place k < unit_place j
bus-unit k j h = kind_rises 0 0 k 2 0 j (omega arith) (omega arith) h

pub line-unit : (a b k : ℕ) → a < base → b < base → line_place a b < unit_place k
line-unit a b k h i = kind_rises 1 a b 2 0 k (omega arith) h i

pub unit-last : (k : ℕ) → k < base → unit_place k < last_place
unit-last k h = kind_rises 2 0 k 3 0 0 (omega arith) (omega arith) h

-- ---- known by its numbers

pub bus-below : (j k : ℕ) → k < base → bus_place j < bus_place k → j < k
bus-below j k h l = let m = below 0 0 j 0 k h l in m.1 (omega arith)

pub bus-past : (j k : ℕ) → k < base → bus_place (j + 1) ≤ bus_place k → j < k
bus-past j k h l = let m = at_most 0 0 (j + 1) 0 k h l in omega (arith, m.1 (omega arith))

pub line-most : (a b c d : ℕ) → d < base → line_place a b ≤ line_place c d → (a ≤ c) × (a ≡ c → b ≤ d)
line-most a b c d = at_most 1 a b c d

pub line-below : (a b c d : ℕ) → d < base → line_place a b < line_place c d → (a ≤ c) × (a ≡ c → b < d)
line-below a b c d = below 1 a b c d

pub unit-below : (j k : ℕ) → k < base → unit_place j < unit_place k → j < k
unit-below j k h l = let m = below 2 0 j 0 k h l in m.1 (omega arith)

pub unit-past : (j k : ℕ) → k < base → unit_place (j + 1) ≤ unit_place k → j < k
unit-past j k h l = let m = at_most 2 0 (j + 1) 0 k h l in omega (arith, m.1 (omega arith))

pub bus-same : (j k : ℕ) → j < base → k < base → bus_place j ≡ bus_place k → j ≡ k
bus-same j k = same_second 0 0 j 0 k

pub line_same : (a b c d : ℕ) → b < base → d < base → line_place a b ≡ line_place c d → (a ≡ c) × (b ≡ d)
line_same a b c d i j e = (same_first 1 a b c d i j e, same_second 1 a b c d i j e)

pub unit-same : (j k : ℕ) → j < base → k < base → unit_place j ≡ unit_place k → j ≡ k
unit-same j k = same_second 2 0 j 0 k
