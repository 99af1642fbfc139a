-- The neighbours of b that are not still to come are joined to it by a line. One that is not joined so decides no.
use Rattle.basics.proofs.Tests.{refutes, decides-no, decides-yes}
use Rattle.grid.proofs.Checking.{checked_none, checked_more, checked_all, checked_fails}
use Rattle.grid.proofs.Case.has_lines.Goals as goal

pub loop-a-init : goal.loop-a-init
loop-a-init c = rw c.into_iter-a-iterator.ensures.into_iter_gives (checked_none c.neighbours-a-items.ensures)

pub returns-then-not-is_line : goal.returns-then-not-is_line
returns-then-not-is_line c = decides-no (checked_fails c.loop-a.invariant c.in-Some.ensures.steps.0.has
    (refutes c.is_line.ensures c.if-not-is_line.true))

pub loop-a-preserved : goal.loop-a-preserved
loop-a-preserved c = checked_more c.loop-a.invariant
    (c.is_line.ensures.yes c.if-not-is_line.false) c.in-Some.ensures.steps.1

pub returns : goal.returns
returns c = decides-yes (checked_all c.loop-a.invariant c.in-None.ensures.steps.0)
