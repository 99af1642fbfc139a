-- Invariant: v is below most_read, and the field's number is v with the digits of `rest` from d-index on.
use Rattle.text_field.proofs.Numbers.{Sofar}
use Rattle.text_field.proofs.number_of.Given as goal

abbrev pub invariant-loop-d : goal.invariant-loop-d
invariant-loop-d l = Sofar l.s l.rest l.v l.d-index
