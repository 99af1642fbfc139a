-- The buses of the set that are not still to come have b in theirs.
use Prim.Native.Nat.{ℕ}
use Rattle.busset.specs.Sets.{In, set_of}
use Rattle.grid.specs.Rows.{set_at}
use Rattle.grid.proofs.Checking.{Checked}
use Rattle.grid.proofs.Case.is_mirrored.Given as goal

abbrev pub invariant-loop-a : goal.invariant-loop-a
invariant-loop-a l = Checked (λ (a : ℕ). In (set_at l.self.nbr a l.i) l.b) (set_at l.self.nbr l.b l.i) (set_of l.a-iterator)
