-- Each digit that is not mirrored decides no. The last is the answer.
use Rattle.basics.proofs.Tests.{refutes, decides-no, decides-by}
use Rattle.grid.proofs.Case.is_alike.Goals as goal

pub returns-then-not-is_mirrored : goal.returns-then-not-is_mirrored
returns-then-not-is_mirrored c = decides-no (λ m. refutes c.is_mirrored.ensures c.if-not-is_mirrored.true m.first)

pub returns-then-not-is_mirrored-2 : goal.returns-then-not-is_mirrored-2
returns-then-not-is_mirrored-2 c = decides-no (λ m. refutes c.is_mirrored-2.ensures c.if-not-is_mirrored-2.true m.second)

pub returns-then-not-is_mirrored-3 : goal.returns-then-not-is_mirrored-3
returns-then-not-is_mirrored-3 c = decides-no (λ m. refutes c.is_mirrored-3.ensures c.if-not-is_mirrored-3.true m.third)

pub returns : goal.returns
returns c = decides-by
    (λ m. record {
      first = c.is_mirrored.ensures.yes c.if-not-is_mirrored.false;
      second = c.is_mirrored-2.ensures.yes c.if-not-is_mirrored-2.false;
      third = c.is_mirrored-3.ensures.yes c.if-not-is_mirrored-3.false;
      fourth = m;
    })
    (λ m. m.fourth) c.is_mirrored-4.ensures
