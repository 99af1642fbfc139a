-- What is counted and what is left make up the unknown; fewer are left each turn.
use Rattle.busset.specs.Sets.{set_of}
use Rattle.observe.proofs.Counting.{Tallied}
use Rattle.observe.proofs.set.count_unknown.Given as goal

abbrev pub invariant-loop-b : goal.invariant-loop-b
invariant-loop-b l = Tallied (set_of l.fn.m) (set_of l.fn.s) (set_of l._b-iterator) l.unknown
