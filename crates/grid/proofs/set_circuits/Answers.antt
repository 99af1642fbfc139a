-- The four digits, one after another.
use mathlib.Core.Path.{◌≡◌}
use mathlib.Core.Bool.{Bool}
use Prim.Native.Nat.{ℕ, ◌/◌}
use Rattle.grid.specs.Rows.{Rows, with_bit, is_odd, with_circuits}
use Rattle.grid.proofs.set_circuits.Goals as goal

-- the rows after each digit
digits : (rows : Rows) (a b k : ℕ) {one two three four : Rows} {s t u v : Bool} → one ≡ with_bit rows a 1 b s → s ≡ is_odd k
    → two ≡ with_bit one a 2 b t → t ≡ is_odd (k / 2) → three ≡ with_bit two a 3 b u → u ≡ is_odd (k / 2 / 2)
    → four ≡ with_bit three a 4 b v → v ≡ is_odd (k / 2 / 2 / 2) → four ≡ with_circuits rows a b k
unfolding with_circuits
digits rows a b k e s f t g u h v = cc (e, s, f, t, g, u, h, v)

pub returns : goal.returns
returns c = digits _ _ _ _ c.put_bit.ensures c.is_odd.ensures c.put_bit-2.ensures c.is_odd-2.ensures
    c.put_bit-3.ensures c.is_odd-3.ensures c.put_bit-4.ensures c.is_odd-4.ensures
