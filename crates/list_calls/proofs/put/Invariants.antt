-- What the steps up to the next write is written, but that the record after it may hold anything until m are written.
use Rattle.list_follow.proofs.Putting.{PutSoFar}
use Rattle.list_calls.proofs.put.Given as goal

abbrev pub invariant-loop-x : goal.invariant-loop-x
invariant-loop-x l = PutSoFar l.m l.steps l.fn.out l.x-index l.s l.k l.out
