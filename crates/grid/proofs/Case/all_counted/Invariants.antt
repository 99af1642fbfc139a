-- The buses below a count right; a rises past the most buses. A number that is no bus has no sets, so all are then checked.
use Prim.Native.Nat.{suc, ◌-◌, ◌≤◌}
use Rattle.grid.specs.Limits.{most_buses}
use Rattle.grid.specs.Counting.{CountsAt}
use Rattle.grid.proofs.Checking.{CheckedBelow}
use Rattle.grid.proofs.Case.all_counted.Given as goal

abbrev pub invariant-loop-a : goal.invariant-loop-a
invariant-loop-a l = (1 ≤ l.a) × (l.a ≤ suc most_buses) × CheckedBelow (CountsAt l.self.nbr) l.a

abbrev pub decreases-loop-a : goal.decreases-loop-a
decreases-loop-a l = suc most_buses - l.a
