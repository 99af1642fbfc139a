-- How the counts of circuits are checked, bus after bus: on the way to the clauses of `Valid`.
use Rattle.std.specs.Prelude.{ℕ}
use Rattle.busset.specs.Sets.{In}
use Rattle.grid.specs.Rows.{Rows, set_at}
use Rattle.grid.specs.Cases.{JoinedCounted, OthersUncounted}

-- b is in set i of each bus of its own set i
abbrev pub MirroredAt : Rows → ℕ → ℕ → Type 0
MirroredAt rows i b = (a : ℕ) → In (set_at rows b i) a → In (set_at rows a i) b

-- so for each digit of b's counts
pub record DigitsMirrored (rows : Rows) (b : ℕ) : Type 0 where
  pub first : MirroredAt rows 1 b
  pub second : MirroredAt rows 2 b
  pub third : MirroredAt rows 3 b
  pub fourth : MirroredAt rows 4 b

-- what is checked of b's counts
pub record CountsAt (rows : Rows) (b : ℕ) : Type 0 where
  pub joined : JoinedCounted rows b
  pub others : OthersUncounted rows b
  pub mirrored : DigitsMirrored rows b
