-- What each bus is joined to, and by how many circuits: five sets for each bus, those of bus 1 first. The first set is the bus's
-- neighbours. The others are the four binary digits of its counts of circuits, the lowest first: the buses at whose count the digit is 1.
use Rattle.std.specs.Prelude.{Bool, true, cond, List, ◌++◌, ℕ, ◌+◌, ◌-◌, ◌*◌, ◌/◌, ◌%◌, eqb, get_or, set, replicate}
use Rattle.busset.specs.Sets.{bit, add, less, set_of}
use Rattle.busset.specs.Held.{SetWord, empty_word, word_of}
use Rattle.grid.specs.Limits.{most_buses}

-- how many sets a bus has
abbrev pub bus_sets : ℕ
bus_sets = 5

-- how many all buses have
abbrev pub rows_length : ℕ
rows_length = bus_sets * most_buses

-- a word for each set of each bus
abbrev pub Rows : Type 0
Rows = List SetWord

-- ---- read

-- set i of bus b, from 0 on: any number that is not a bus has none
unfoldable pub set_at : Rows → ℕ → ℕ → ℕ
set_at rows b i = set_of (get_or (replicate bus_sets empty_word ++ rows) (bus_sets * b + i) empty_word)

-- the neighbours of bus b
unfoldable pub neighbours : Rows → ℕ → ℕ
neighbours rows b = set_at rows b 0

-- the circuits from a to b, as a counts them
unfoldable pub circuits : Rows → ℕ → ℕ → ℕ
circuits rows a b =
    bit (set_at rows a 1) b + 2 * (bit (set_at rows a 2) b + 2 * (bit (set_at rows a 3) b + 2 * bit (set_at rows a 4) b))

-- ---- put

-- the rows with the word w as set i of bus b
abbrev pub with_set : Rows → ℕ → ℕ → SetWord → Rows
with_set rows b i w = set rows (bus_sets * (b - 1) + i) w

-- the rows with the word w as the neighbours of bus b
abbrev pub with_row : Rows → ℕ → SetWord → Rows
with_row rows b w = with_set rows b 0 w

-- the rows with b in set i of bus a if t, and not in it otherwise
unfoldable pub with_bit : Rows → ℕ → ℕ → ℕ → Bool → Rows
with_bit rows a i b t = with_set rows a i (word_of (cond t (add (set_at rows a i) b) (less (set_at rows a i) b)))

-- k is odd
abbrev pub is_odd : ℕ → Bool
is_odd k = eqb (k % 2) 1

-- the rows with k circuits from a to b, as a counts them
unfoldable pub with_circuits : Rows → ℕ → ℕ → ℕ → Rows
with_circuits rows a b k =
    with_bit
    (with_bit (with_bit (with_bit rows a 1 b (is_odd k)) a 2 b (is_odd (k / 2))) a 3 b (is_odd (k / 2 / 2)))
    a 4 b (is_odd (k / 2 / 2 / 2))

-- the rows with b as a neighbour of a, by k circuits
unfoldable pub with_end : Rows → ℕ → ℕ → ℕ → Rows
with_end rows a b k = with_circuits (with_bit rows a 0 b true) a b k

-- the rows with a line of k circuits: a with b, and b with a
unfoldable pub with_line : Rows → ℕ → ℕ → ℕ → Rows
with_line rows a b k = with_end (with_end rows a b k) b a k

-- no line
abbrev pub no_rows : Rows
no_rows = replicate rows_length empty_word
