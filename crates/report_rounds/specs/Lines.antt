-- On the way to the lines: the fields of a round's buses as they are put, one after another, and how far what is put reaches.
use Rattle.std.specs.Prelude.{List, ◌∷◌, ℕ, ◌+◌, ◌*◌}
use Rattle.busset.specs.Sets.{width}
use Rattle.text_field.specs.Split.{tab}
use Rattle.text_field.specs.Number.{most_digits, number_text}

-- a tab and the number of a bus
abbrev pub tabbed : ℕ → List ℕ
tabbed b = tab ∷ number_text b

-- the most bytes that those of a round have, whatever their numbers are
abbrev pub buses_reach : ℕ
buses_reach = (1 + most_digits) * width

-- and with `round`, a tab, the number of the round and a line feed
abbrev pub line_reach : ℕ
line_reach = 7 + most_digits + buses_reach
