-- The set of b alone, subtracted from s, takes b and no other bus, so one bus fewer is left if b was in s.
use Rattle.busset.proofs.Words.{without_law, empty-set}
use Rattle.busset.proofs.BusSet.without.Goals as goal

pub returns : goal.returns
returns c = without_law (empty-set c.none.ensures) c.with.ensures c.minus.ensures
