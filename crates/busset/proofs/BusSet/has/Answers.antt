-- Bus b is the digit b - 1 of the word, which the shift and the mask by 1 give.
use Rattle.busset.proofs.Words.{has_test}
use Rattle.busset.proofs.BusSet.has.Goals as goal

pub returns : goal.returns
returns c = rw c.self.view_is (has_test c.args.self c.args.b c.requires.some)
