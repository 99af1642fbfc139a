-- While fewer than m are written there is a step to come and room for it.
use native.Mathlib.Omega.{arith}
use Rattle.busset.proofs.Words.{empty-set}
use Rattle.list_follow.proofs.Putting.{put-none, put_more, put_all}
use Rattle.list_calls.proofs.put.Goals as goal

pub loop-x-init : goal.loop-x-init
loop-x-init c = put-none c.args.m c.args.steps.now c.args.out.now (empty-set c.none-s.ensures)

pub returns-then-k-m : goal.returns-then-k-m
returns-then-k-m c = put_all c.loop-x.invariant (omega (arith, c.if-k-m.true))

pub loop-x-preserved : goal.loop-x-preserved
loop-x-preserved c =
    put_more c.requires c.loop-x.invariant (omega (arith, c.loop-x.invariant.le, c.if-k-m.false)) c.with-s.result c.with-s.ensures
    c.count-k.ensures
