-- Case values with the most lines, and one more.
use mathlib.Core.Path.{◌≡◌, refl, ap, ◌∙◌}
use Prim.Native.Nat.{suc, ◌-◌, ◌*◌}
use native.Mathlib.Omega.{arith}
use lib.ListN.{length}
use Rattle.rules.specs.Grids.{line_count}
use Rattle.tables.proofs.Words.{test_words}
use Rattle.grid.specs.Limits.{most_buses, most_lines}
use Rattle.grid.specs.Rows.{bus_sets}
use Rattle.grid.specs.Cases.{Valid}
use Rattle.tables.proofs.Drawn.{written_row, written_is, lines-counted, filled_passes}
use Rattle.tables.proofs.Rows.{◌&◌}
use Rattle.tables.specs.Tables.{AllRight}
use Rattle.tables.specs.Grids.{short_crowd, crowd, most_lines_table}

one-too_many : line_count 24 (written_row (short_crowd 4).nbr) ≡ suc most_lines
unfolding test_words
one-too_many = lines-counted 24 (short_crowd 4).nbr ∙ refl

too_many : Valid (crowd 4) → ⊥
too_many v =
    let same = written_is (short_crowd 4).nbr (bus_sets * (most_buses - length (short_crowd 4).nbr)) in
    omega (arith, v.few, one-too_many, ap (line_count 24) same)

pub most-right : AllRight most_lines_table
unfolding test_words
most-right = filled_passes (short_crowd 3) refl & too_many & tt
