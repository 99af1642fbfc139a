-- The sum has the lines of the buses below b, each at its higher bus; b rises to n + 1. A row adds at most 64, so the sum fits.
use Prim.Native.Nat.{ℕ, ◌-◌}
use mathlib.Core.Path.{◌≡◌, refl, ap, ◌∙◌}
use native.Mathlib.Omega.{arith}
use borrow.Author.Rules.{rules}
use Rattle.rules.specs.Grids.{line_count}
use Rattle.grid.specs.Rows.{neighbours}
use Rattle.grid.proofs.Summing.{summed-none, summed-more}
use Rattle.grid.proofs.Case.count_lines.Goals as goal

pub loop-b-init : goal.loop-b-init
loop-b-init c = (search rules, refl, summed-none _)

pub loop-b-preserved : goal.loop-b-preserved
loop-b-preserved c = (
  search rules,
  refl,
  summed-more c.loop-b.invariant.2 c.neighbours.ensures c.up_to.ensures
      c.count-sum.ensures.is c.count-sum.ensures.most,
)

pub returns : goal.returns
returns c = let inv = c.loop-b.invariant in
    let e : c.loop-b.b - 1 ≡ c.args.self.now.n = omega arith in
    inv.2.is ∙ ap (λ (k : ℕ). line_count k (neighbours c.args.self.now.nbr)) e
