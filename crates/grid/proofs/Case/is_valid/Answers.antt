-- Each test that fails refutes one field of Valid. If none fails, what the tests decide are the fields.
use native.Mathlib.Omega.{arith}
use Rattle.basics.proofs.Tests.{refutes, decides-no, decides-le}
use Rattle.grid.proofs.Checking.{valid-counts, valid-test}
use Rattle.grid.proofs.Case.is_valid.Goals as goal

pub returns-then-n-lt1 : goal.returns-then-n-lt1
returns-then-n-lt1 c = decides-no (λ v. omega (arith, v.buses.some))

pub returns-then-n-gt-MOST_BUSES : goal.returns-then-n-gt-MOST_BUSES
returns-then-n-gt-MOST_BUSES c = decides-no (λ v. omega (arith, v.buses.most))

pub returns-then-not-is_within : goal.returns-then-not-is_within
returns-then-not-is_within c = decides-no (λ v. refutes c.is_within.ensures c.if-not-is_within.true v.proper.zeros)

pub returns-then-not-is_within-2 : goal.returns-then-not-is_within-2
returns-then-not-is_within-2 c = decides-no (λ v. refutes c.is_within-2.ensures c.if-not-is_within-2.true v.proper.sites)

pub returns-then-not-is_within-3 : goal.returns-then-not-is_within-3
returns-then-not-is_within-3 c = decides-no (λ v. refutes c.is_within-3.ensures c.if-not-is_within-3.true v.proper.units)

pub returns-then-not-all_lines : goal.returns-then-not-all_lines
returns-then-not-all_lines c = decides-no (λ v. refutes c.all_lines.ensures c.if-not-all_lines.true v.proper.lines)

pub returns-then-not-all_counted : goal.returns-then-not-all_counted
returns-then-not-all_counted c = decides-no (λ v. refutes c.all_counted.ensures c.if-not-all_counted.true (valid-counts v))

pub returns : goal.returns
returns c = valid-test (record { some = omega arith; most = omega arith }) (c.is_within.ensures.yes c.if-not-is_within.false)
    (c.is_within-2.ensures.yes c.if-not-is_within-2.false)
    (c.is_within-3.ensures.yes c.if-not-is_within-3.false)
    (c.all_lines.ensures.yes c.if-not-all_lines.false)
    (c.all_counted.ensures.yes c.if-not-all_counted.false) c.count_lines.ensures (decides-le _ _)
