-- The digits and their worths, as the definition has them.
use Rattle.grid.specs.Rows.{circuits}
use borrow.Author.Rules.{rules}
use Rattle.grid.proofs.Case.circuits.Goals as goal

pub returns : goal.returns
unfolding circuits
returns c = search rules
