-- Invariant: of the round's buses those that are still to come are to put, and as many numbers are left to count.
use Prim.Native.Nat.{ℕ}
use mathlib.Core.Path.{sym, ap, ◌∙◌}
use mathlib.Core.List.{◌∷◌}
use native.Mathlib.Omega.{arith}
use Rattle.text_put.proofs.Putting.{put_then, put_same}
use Rattle.rules.proofs.Rising.{members-size}
use Rattle.round_list.proofs.Putting.{buses-more, buses-all}
use Rattle.round_calls.proofs.Writing.{number-each}
use Rattle.round_calls.proofs.put_round.Goals as goal

pub loop-b-preserved : goal.loop-b-preserved
loop-b-preserved c = (
  omega (arith, c.loop-b.invariant.0, c.put_one-k-in-loop-b.ensures.next, c.in-Some.ensures.steps.1.fewer c.in-Some.ensures.steps.0.has),
  λ buses m. buses-more (c.loop-b.invariant.1 buses m) c.in-Some.ensures.steps.0 c.put_one-k-in-loop-b.ensures c.in-Some.ensures.steps.1,
)

pub returns : goal.returns
returns c = (
  omega (arith, c.loop-b.invariant.0, c.put_one-k.ensures.next, c.count.ensures.is, c.count.ensures.most),
  λ buses m. put_same (ap (λ (k : ℕ). k ∷ buses) (c.count.ensures.is ∙ sym (members-size _ buses m)))
      (put_then c.put_one-k.ensures
      (put_same (number-each buses)
      (buses-all (c.loop-b.invariant.1 buses m) c.in-None.ensures.steps.0))),
)
