-- A unit at a site that is neither dark nor next to a dark bus observes nothing outside c.
-- This needs that each line is seen from both ends.
use Rattle.place_bound.proofs.Grouping.{group-by}
use Rattle.place_bound.proofs.groups.group.Goals as goal

pub returns : goal.returns
returns c = group-by c.requires.1 c.all.ensures c.minus-dark.ensures c.with_neighbours.ensures
    c.both.ensures c.requires.2
