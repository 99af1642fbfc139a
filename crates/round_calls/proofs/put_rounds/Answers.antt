-- Invariant: the numbers of the rounds that are still to come are left to put, and those before are at most a round of all buses each.
use native.Mathlib.Omega.{arith}
use borrow.Author.Rules.{rules}
use Rattle.text_put.proofs.Left.{left-none, left-more, left-all}
use Rattle.round_list.proofs.Putting.{held-round}
use Rattle.round_calls.proofs.Writing.{rest-first, rest-next, rest_all}
use Rattle.round_calls.proofs.put_rounds.Goals as goal

pub loop-r-init : goal.loop-r-init
loop-r-init c = (search rules, λ rounds held. left-none (rest-first rounds))

pub loop-r-preserved : goal.loop-r-preserved
loop-r-preserved c = (
  omega (arith, c.loop-r.invariant.0, c.put_round-k.ensures.0),
  λ rounds held. left-more (c.loop-r.invariant.1 rounds held) (rest-next rounds _ (omega (arith, held.count)))
      (c.put_round-k.ensures.1 _ (held-round held (search rules) c.r-item.is)),
)

pub returns : goal.returns
returns c = λ rounds held. left-all (c.loop-r.invariant.1 rounds held) (rest_all rounds _ (omega (arith, held.count)))
