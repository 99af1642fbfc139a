-- The neighbours are the first set.
use Rattle.grid.specs.Rows.{neighbours}
use Rattle.grid.proofs.Case.neighbours.Goals as goal

pub returns : goal.returns
unfolding neighbours
returns c = c.set_at.ensures
