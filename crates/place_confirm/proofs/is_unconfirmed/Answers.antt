-- A unit confirms p exactly if it is on a neighbour of p or next to one. This needs that each line is seen from both ends.
use Rattle.place_confirm.proofs.Sharing.{unconfirmed-test}
use Rattle.place_confirm.proofs.is_unconfirmed.Goals as goal

pub returns : goal.returns
returns c = unconfirmed-test c.requires.0 (c.has.ensures.yes c.if-not-has.false) c.neighbours.ensures c.with_neighbours-near.ensures
    c.without-others.ensures c.both.ensures c.is_none.ensures
