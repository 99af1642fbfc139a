-- The grid, with no machine word in it: a set of buses is a number of any length (busset).
use Rattle.std.specs.Prelude.{◌≡◌, ℕ, zero, suc, ◌+◌}
use Rattle.busset.specs.Sets.{Bus, In, Within, size, up_to}

-- n buses numbered from 1, the neighbours of each, the Z buses, the Y sites, and the buses with a unit
pub record Grid : Type 0 where
  pub n : ℕ
  pub neighbours : ℕ → ℕ
  pub zeros : ℕ
  pub sites : ℕ
  pub units : ℕ

-- g with these sites and units: every other grid with its buses, lines and Z buses is one of these
abbrev pub with_sites_and_units : Grid → ℕ → ℕ → Grid
with_sites_and_units g sites units = record { n = g.n; neighbours = g.neighbours; zeros = g.zeros; sites = sites; units = units }

-- a and b, joined as seen from a, have a line: they are two different buses, 1 to n, and it is the same seen from b
pub record Line (n : ℕ) (neighbours : ℕ → ℕ) (a b : ℕ) : Type 0 where
  pub from : Bus n a
  pub to : Bus n b
  pub differ : a ≡ b → ⊥
  pub back : In (neighbours b) a

-- every line is one, and every Z bus, Y site and unit is at a bus 1 to n
pub record Proper (g : Grid) : Type 0 where
  pub lines : (a b : ℕ) → In (g.neighbours a) b → Line g.n g.neighbours a b
  pub zeros : Within g.n g.zeros
  pub sites : Within g.n g.sites
  pub units : Within g.n g.units

-- the sum of f over the buses 1 to n
unfoldable pub total : ℕ → (ℕ → ℕ) → ℕ
total zero f = 0
total (suc n) f = total n f + f (suc n)

-- how many lines there are: each is counted at its higher bus
abbrev pub line_count : ℕ → (ℕ → ℕ) → ℕ
line_count n neighbours = total n (λ b. size (up_to b (neighbours b)))
