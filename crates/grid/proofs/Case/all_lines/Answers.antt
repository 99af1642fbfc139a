-- The buses below b have only lines; b rises past the most buses. A number that is no bus has no row, so all buses are then checked.
use native.Mathlib.Omega.{arith}
use borrow.Author.Rules.{rules}
use Rattle.basics.proofs.Tests.{refutes, decides-no, decides-yes}
use Rattle.grid.proofs.Rows.{row_zero, row-past}
use Rattle.grid.proofs.Checking.{below_first, below_next, below_all, bare-lines}
use Rattle.grid.proofs.Case.all_lines.Goals as goal

pub loop-b-init : goal.loop-b-init
loop-b-init c = (search rules, search rules, below_first (bare-lines (row_zero _)))

pub returns-then-not-has_lines : goal.returns-then-not-has_lines
returns-then-not-has_lines c = decides-no (λ all. refutes c.has_lines.ensures c.if-not-has_lines.true (all _))

pub loop-b-preserved : goal.loop-b-preserved
loop-b-preserved c = (
  search rules,
  search rules,
  below_next c.loop-b.invariant.2
      (c.has_lines.ensures.yes c.if-not-has_lines.false),
)

pub returns : goal.returns
returns c = let rows = c.args.self.now.nbr in
    decides-yes (below_all c.loop-b.invariant.2 (λ b l. bare-lines (row-past rows b (omega arith))))
