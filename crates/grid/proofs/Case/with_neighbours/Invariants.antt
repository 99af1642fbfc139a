-- The neighbours of the buses that are not still to come are gathered.
use Rattle.busset.specs.Sets.{set_of}
use Rattle.grid.specs.Rows.{neighbours}
use Rattle.grid.proofs.Gathering.{Gathered}
use Rattle.grid.proofs.Case.with_neighbours.Given as goal

abbrev pub invariant-loop-b : goal.invariant-loop-b
invariant-loop-b l = Gathered (neighbours l.self.nbr) (set_of l.buses) (set_of l.near) (set_of l.b-iterator)
