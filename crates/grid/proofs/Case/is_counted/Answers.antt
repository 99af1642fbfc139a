-- The highest digit alone is the most circuits. So the counts are right where it shares no bus, and the digits are the neighbours.
use Rattle.basics.proofs.Tests.{refutes, decides-no, decides-by}
use Rattle.busset.proofs.Words.{same-test}
use Rattle.grid.proofs.Counting.{digit_sets, counted_apart, counted_same, same_counted}
use Rattle.grid.proofs.Case.is_counted.Goals as goal

pub returns-then-not-is_none : goal.returns-then-not-is_none
returns-then-not-is_none c = decides-no (λ p. refutes c.is_none.ensures c.if-not-is_none.true (counted_apart
    (digit_sets c.set_at.ensures c.set_at-2.ensures c.set_at-3.ensures c.set_at-high.ensures)
    c.union-low_two.ensures c.union-low.ensures c.both.ensures p.0 p.1))

pub returns : goal.returns
returns c = let q = digit_sets c.set_at.ensures c.set_at-2.ensures c.set_at-3.ensures c.set_at-high.ensures in
    let row = c.neighbours.ensures in
    decides-by
    (same_counted q c.union-low_two.ensures c.union-low.ensures c.both.ensures row c.union.ensures
    (c.is_none.ensures.yes c.if-not-is_none.false))
    (λ p. counted_same q c.union-low_two.ensures c.union-low.ensures c.both.ensures row c.union.ensures p.0
    p.1)
    (same-test _ _ c.eq.ensures)
