-- Only the rows change.
use mathlib.Core.Path.{◌≡◌, ap}
use Prim.Native.Nat.{ℕ}
use Rattle.grid.specs.Rows.{Rows, with_line}
use Rattle.grid.specs.Cases.{case_of, line_added}
use Rattle.grid.specs.declared.Case.{Case}
use Rattle.grid.proofs.Case.with_line.Goals as goal

-- the case of the changed rows
rows-put : (c : Case) (a b k : ℕ) {rows : Rows} → rows ≡ with_line c.nbr a b k
    → case_of c.n rows c.zero c.site c.units ≡ line_added c a b k
rows-put c a b k e = ap (λ (rows : Rows). case_of c.n rows c.zero c.site c.units) e

pub returns : goal.returns
returns c = rows-put _ _ _ _ c.add_line.ensures
