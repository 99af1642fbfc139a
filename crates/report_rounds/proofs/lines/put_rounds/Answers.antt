-- Invariant: the lines of the rounds that are still to come are left to put. Each line is bounded, and so is every place.
use native.Mathlib.Omega.{arith}
use borrow.Author.Rules.{rules}
use Rattle.text_put.proofs.Left.{left-none, left-more, left-all}
use Rattle.round_list.proofs.Putting.{held-round}
use Rattle.report_rounds.proofs.Texts.{rest-first, rest-next, rest_all}
use Rattle.report_rounds.proofs.lines.put_rounds.Goals as goal

pub loop-i-init : goal.loop-i-init
loop-i-init c = (omega arith, λ rounds h. left-none (rest-first rounds))

pub loop-i-preserved : goal.loop-i-preserved
loop-i-preserved c = (
  omega (arith, c.loop-i.invariant.0, c.put_round-k.ensures.0),
  λ rounds h. left-more (c.loop-i.invariant.1 rounds h) (rest-next rounds _ (omega (arith, h.count)))
      (c.put_round-k.ensures.1 _ (held-round h (search rules) c.index-sets-i.is)),
)

pub returns : goal.returns
returns c = let few = c.requires.1.most in (
  omega (arith, c.loop-i.invariant.0),
  λ rounds h. left-all (c.loop-i.invariant.1 rounds h) (rest_all rounds _ (omega (arith, h.count))),
)
