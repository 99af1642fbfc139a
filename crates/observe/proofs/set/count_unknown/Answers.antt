-- What is counted and what is left make up the unknown.
use Rattle.busset.specs.Sets.{width}
use Rattle.busset.proofs.Words.{set-size}
use Rattle.observe.proofs.Counting.{tallied-none}
use borrow.Author.Rules.{rules}
use Rattle.observe.proofs.set.count_unknown.Goals as goal

pub loop-b-init : goal.loop-b-init
loop-b-init c = rw c.into_iter-b-iterator.ensures.into_iter_gives
    (tallied-none c.minus-b-items.ensures (set-size width (search rules)))
