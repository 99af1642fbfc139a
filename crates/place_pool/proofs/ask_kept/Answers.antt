-- Each kept group says what it says of every set that meets it. The loop ends at an empty one, or where more than k are apart.
use Rattle.basics.proofs.Tests.{refutes}
use Rattle.place_pool.proofs.Saying.{kept-meets}
use Rattle.place_pool.proofs.ask_kept.Goals as goal

pub returns-then-a-k : goal.returns-then-a-k
returns-then-a-k c = λ v few sub kept. c.ask-a.ensures.says v few (c.loop-group.invariant.1 v few sub kept)
    (kept-meets c.loop-group.group-index c.deref-group-items.ensures c.loop-group-test.true c.group-item.is
    (refutes c.is_none.ensures c.if-is_none.false) kept)

pub loop-group-preserved : goal.loop-group-preserved
loop-group-preserved c = (
  c.if-a-k.false,
  λ v few sub kept. c.ask-a.ensures.says v few (c.loop-group.invariant.1 v few sub kept)
      (kept-meets c.loop-group.group-index c.deref-group-items.ensures c.loop-group-test.true c.group-item.is
      (refutes c.is_none.ensures c.if-is_none.false) kept),
)
