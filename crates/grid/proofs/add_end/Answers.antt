-- The neighbour, then the count.
use mathlib.Core.Path.{◌≡◌}
use mathlib.Core.Bool.{true}
use Prim.Native.Nat.{ℕ}
use Rattle.grid.specs.Rows.{Rows, with_bit, with_circuits, with_end}
use Rattle.grid.proofs.add_end.Goals as goal

-- the rows after both
end-put : (rows : Rows) (a b k : ℕ) {near new : Rows} → near ≡ with_bit rows a 0 b true
    → new ≡ with_circuits near a b k → new ≡ with_end rows a b k
unfolding with_end
end-put rows a b k e f = cc (e, f)

pub returns : goal.returns
returns c = end-put _ _ _ _ c.put_bit.ensures c.set_circuits.ensures
