-- Trial units twice keep what one round keeps.
use Rattle.place_bound.proofs.Grouping.{shrunk-more}
use Rattle.place_bound.proofs.groups.beside.Goals as goal

pub returns : goal.returns
returns c = record {
  to = _;
  shrunk = shrunk-more c.shrunk-c.ensures c.shrunk-d.ensures;
  outside = c.group.ensures;
}
