-- The neighbours of b that are not still to come are joined to it by a line.
use Rattle.busset.specs.Sets.{set_of}
use Rattle.rules.specs.Grids.{Line}
use Rattle.grid.specs.Rows.{neighbours}
use Rattle.grid.proofs.Checking.{Checked}
use Rattle.grid.proofs.Case.has_lines.Given as goal

abbrev pub invariant-loop-a : goal.invariant-loop-a
invariant-loop-a l = Checked (Line l.self.n (neighbours l.self.nbr) l.b) (neighbours l.self.nbr l.b) (set_of l.a-iterator)
