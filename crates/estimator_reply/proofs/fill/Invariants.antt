-- Invariant: the first i bytes are those of the set, and the others are as lent.
use Rattle.busset.specs.Bytes.{set_bytes}
use Rattle.step.proofs.Writing.{WrittenSoFar}
use Rattle.estimator_reply.proofs.fill.Given as goal

abbrev pub invariant-loop-i : goal.invariant-loop-i
invariant-loop-i l = WrittenSoFar (set_bytes l.s) l.initial.set l.set l.i
