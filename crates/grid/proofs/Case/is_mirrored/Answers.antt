-- The buses of the set that are not still to come have b in theirs. One that has not decides no.
use Rattle.busset.proofs.Members.{decides_in}
use Rattle.basics.proofs.Tests.{refutes, decides-no, decides-yes}
use Rattle.grid.proofs.Checking.{checked_none, checked_more, checked_all, checked_fails}
use Rattle.grid.proofs.Case.is_mirrored.Goals as goal

pub loop-a-init : goal.loop-a-init
loop-a-init c = rw c.into_iter-a-iterator.ensures.into_iter_gives (checked_none c.set_at-a-items.ensures)

pub returns-then-not-has : goal.returns-then-not-has
returns-then-not-has c = decides-no (checked_fails c.loop-a.invariant c.in-Some.ensures.steps.0.has
    (refutes (decides_in _ c.set_at.ensures c.has.ensures) c.if-not-has.true))

pub loop-a-preserved : goal.loop-a-preserved
loop-a-preserved c = checked_more c.loop-a.invariant
    ((decides_in _ c.set_at.ensures c.has.ensures).yes c.if-not-has.false)
    c.in-Some.ensures.steps.1

pub returns : goal.returns
returns c = decides-yes (checked_all c.loop-a.invariant c.in-None.ensures.steps.0)
