-- A case's text: `grid n`; n records `bus number class site`; `line a b` or `line a b circuits`, a below b, rising by a then b;
-- `pmu number`, rising; `end`.
use Rattle.std.specs.Prelude.{Bool, cond, List, [], ◌∷◌, ◌++◌, ℕ, zero, suc, ◌+◌, eqb, ltb}
use Rattle.busset.specs.Sets.{bit, set_of}
use Rattle.busset.specs.Held.{SetWord}
use Rattle.text_field.specs.Split.{line_feed}
use Rattle.case_line.specs.Record.{record_text}
use Rattle.case_line.specs.declared.Record.{Record}
use Rattle.case_line.specs.declared.Record.TheVariants.{Grid, Bus, Line, Circuits, Pmu, End}
use Rattle.grid.specs.Limits.{least_several}
use Rattle.grid.specs.Rows.{Rows, neighbours, circuits}
use Rattle.grid.specs.declared.Case.{Case}

-- bus k is in the set s
abbrev pub has : ℕ → ℕ → Bool
has s k = eqb (bit s k) 1

-- bus k, where these are the Z buses and the Y sites
abbrev pub bus_record : ℕ → ℕ → ℕ → Record
bus_record zeros sites k = Bus k (has zeros k) (has sites k)

-- the m buses from k on, each with its class and site
unfoldable pub bus_records : ℕ → ℕ → ℕ → ℕ → List Record
bus_records z_buses sites k zero = []
bus_records z_buses sites k (suc m) = bus_record z_buses sites k ∷ bus_records z_buses sites (k + 1) m

-- a record for each of the m buses from k on that is in s
unfoldable pub members : (ℕ → Record) → ℕ → ℕ → ℕ → List Record
members f s k zero = []
members f s k (suc m) = cond (has s k) (f k ∷ members f s (k + 1) m) (members f s (k + 1) m)

-- the line from a to b, by k circuits: a text says them if they are several
abbrev pub line_record : ℕ → ℕ → ℕ → Record
line_record a b k = cond (ltb k least_several) (Line a b) (Circuits a b k)

-- the line from a to b, of these circuits
abbrev pub line_from : (ℕ → ℕ → ℕ) → ℕ → ℕ → Record
line_from counts a b = line_record a b (counts a b)

-- the lines of the m buses from a on, each at its lower bus
unfoldable pub line_records : (ℕ → ℕ) → (ℕ → ℕ → ℕ) → ℕ → ℕ → List Record
line_records nbr counts a zero = []
line_records nbr counts a (suc m) = members (line_from counts a) (nbr a) (a + 1) m ++ line_records nbr counts (a + 1) m

-- all in order, of n buses with these rows, Z buses, Y sites and units
abbrev pub records_with : ℕ → Rows → SetWord → SetWord → SetWord → List Record
records_with n rows zeros sites units =
    Grid n
    ∷ (bus_records (set_of zeros) (set_of sites) 1 n
    ++ (line_records (neighbours rows) (circuits rows) 1 n
    ++ (members Pmu (set_of units) 1 n
    ++ End ∷ [])))

-- of a case
abbrev pub records : Case → List Record
records c = records_with c.n c.nbr c.zero c.site c.units

-- each record ended by a line feed
unfoldable pub lines_text : List Record → List ℕ
lines_text [] = []
lines_text (r ∷ rs) = record_text r ++ line_feed ∷ lines_text rs

-- the text of a case
abbrev pub case_text : Case → List ℕ
case_text c = lines_text (records c)
