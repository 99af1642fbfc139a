-- The buses below b have only lines; b rises past the most buses. A number that is no bus has no row, so all buses are then checked.
use Prim.Native.Nat.{suc, ◌-◌, ◌≤◌}
use Rattle.grid.specs.Limits.{most_buses}
use Rattle.grid.specs.Rows.{neighbours}
use Rattle.grid.specs.Cases.{LinesAt}
use Rattle.grid.proofs.Checking.{CheckedBelow}
use Rattle.grid.proofs.Case.all_lines.Given as goal

abbrev pub invariant-loop-b : goal.invariant-loop-b
invariant-loop-b l = (1 ≤ l.b) × (l.b ≤ suc most_buses) × CheckedBelow (LinesAt l.self.n (neighbours l.self.nbr)) l.b

abbrev pub decreases-loop-b : goal.decreases-loop-b
decreases-loop-b l = suc most_buses - l.b
