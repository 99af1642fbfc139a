-- The firing figure.
use Rattle.std.specs.Prelude.{ℕ, ℤ, pos, neg_ℤ, ◌+ℤ◌, ◌-ℤ◌, ◌≤ℤ◌}
use Rattle.busset.specs.Sets.{bit, size, less, meet}

-- 1, less the number of i's neighbours, plus 1 if i is observed, plus the number of observed neighbours of i other than j
unfoldable pub figure : (ℕ → ℕ) → ℕ → ℕ → ℕ → ℤ
figure neighbours s i j = pos 1 -ℤ pos (size (neighbours i)) +ℤ pos (bit s i) +ℤ pos (size (less (meet (neighbours i) s) j))

-- z runs from -k to 1
pub record Runs (k : ℕ) (z : ℤ) : Type 0 where
  pub low : neg_ℤ (pos k) ≤ℤ z
  pub high : z ≤ℤ pos 1
