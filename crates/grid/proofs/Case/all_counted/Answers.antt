-- The buses below a count right; a rises past the most buses. A number that is no bus has no sets, so all are then checked.
use native.Mathlib.Omega.{arith}
use borrow.Author.Rules.{rules}
use Rattle.basics.proofs.Tests.{refutes, decides-no, decides-yes}
use Rattle.grid.proofs.Rows.{set-none, set_past}
use Rattle.grid.proofs.Counting.{bare-counts}
use Rattle.grid.proofs.Checking.{below_first, below_next, below_all}
use Rattle.grid.proofs.Case.all_counted.Goals as goal

pub loop-a-init : goal.loop-a-init
loop-a-init c = (search rules, search rules, below_first (bare-counts (set-none _)))

pub returns-then-not-is_counted : goal.returns-then-not-is_counted
returns-then-not-is_counted c = decides-no (λ all. let here = all _ in
    refutes c.is_counted.ensures c.if-not-is_counted.true (here.joined, here.others))

pub returns-then-not-is_alike : goal.returns-then-not-is_alike
returns-then-not-is_alike c = decides-no (λ all. refutes c.is_alike.ensures c.if-not-is_alike.true (all _).mirrored)

pub loop-a-preserved : goal.loop-a-preserved
loop-a-preserved c = let here = c.is_counted.ensures.yes c.if-not-is_counted.false in (
  search rules,
  search rules,
  below_next c.loop-a.invariant.2 (record {
    joined = here.0;
    others = here.1;
    mirrored = c.is_alike.ensures.yes c.if-not-is_alike.false;
  }),
)

pub returns : goal.returns
returns c = let rows = c.args.self.now.nbr in
    decides-yes (below_all c.loop-a.invariant.2 (λ a l. bare-counts (λ i k. set_past rows a i (omega arith))))
