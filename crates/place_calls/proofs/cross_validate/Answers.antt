-- A valid case has each line seen from both ends, which `unconfirmed` requires.
use Rattle.busset.proofs.Holding.{word_own}
use Rattle.place_calls.proofs.cross_validate.Goals as goal

pub returns : goal.returns
returns c = (c.in_ok-check.ensures, c.unconfirmed.ensures, word_own _)
