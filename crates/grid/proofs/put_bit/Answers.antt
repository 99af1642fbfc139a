-- The set that is put is the one that stood there, with b or without it.
use mathlib.Core.Path.{◌≡◌}
use mathlib.Core.Bool.{Bool, cond}
use Prim.Native.Nat.{ℕ}
use Rattle.busset.specs.Sets.{add, less}
use Rattle.busset.specs.Held.{SetWord, word_of}
use Rattle.grid.specs.Rows.{Rows, set_at, with_set, with_bit}
use Rattle.grid.proofs.put_bit.Goals as goal

-- the rows after the set is put
bit-put : (rows : Rows) (a i b : ℕ) (t : Bool) {old : ℕ} {s : SetWord} {new : Rows} → old ≡ set_at rows a i
    → s ≡ word_of (cond t (add old b) (less old b)) → new ≡ with_set rows a i s → new ≡ with_bit rows a i b t
unfolding with_bit
bit-put rows a i b t e f g = cc (e, f, g)

pub returns : goal.returns
returns c = bit-put _ _ _ _ _ c.set_at.ensures c.with_if-s.ensures c.put_set.ensures
