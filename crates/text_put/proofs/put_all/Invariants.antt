-- Invariant: the bytes of s before b-index are put, and k is the place after them.
use lib.ListN.{take}
use Rattle.text_put.specs.Put.{Put}
use Rattle.text_put.proofs.put_all.Given as goal

abbrev pub invariant-loop-b : goal.invariant-loop-b
invariant-loop-b l = Put l.initial.out l.at (take l.b-index l.s) l.out l.k
