-- The sum has the lines of the buses below b, each at its higher bus; b rises to n + 1. A row adds at most 64, so the sum fits.
use Prim.Native.Nat.{◌+◌, ◌-◌, ◌≤◌}
use mathlib.Core.Path.{◌≡◌}
use Rattle.grid.specs.Rows.{neighbours}
use Rattle.grid.proofs.Summing.{Summed}
use Rattle.grid.proofs.Case.count_lines.Given as goal

abbrev pub invariant-loop-b : goal.invariant-loop-b
invariant-loop-b l = (l.b ≤ l.b-end) × (l.b-end ≡ l.self.n + 1) × Summed (neighbours l.self.nbr) l.b l.sum

abbrev pub decreases-loop-b : goal.decreases-loop-b
decreases-loop-b l = l.b-end - l.b
