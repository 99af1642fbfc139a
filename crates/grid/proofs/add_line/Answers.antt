-- One end, then the other.
use mathlib.Core.Path.{◌≡◌}
use Prim.Native.Nat.{ℕ}
use Rattle.grid.specs.Rows.{Rows, with_end, with_line}
use Rattle.grid.proofs.add_line.Goals as goal

-- the rows after both
ends-put : (rows : Rows) (a b k : ℕ) {half new : Rows} → half ≡ with_end rows a b k → new ≡ with_end half b a k → new ≡ with_line rows a b k
unfolding with_line
ends-put rows a b k e f = cc (e, f)

pub returns : goal.returns
returns c = ends-put _ _ _ _ c.add_end.ensures c.add_end-2.ensures
