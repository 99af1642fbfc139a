-- Invariant: the list so far reaches s, and any derivation of the rest from s completes it. What the list lacks of 64 steps falls.
use Prim.Native.Nat.{◌-◌}
use lib.ListN.{length}
use Rattle.grid.specs.Limits.{most_buses}
use Rattle.busset.specs.Sets.{set_of}
use Rattle.busset.specs.Held.{empty_word}
use Rattle.grid.specs.Cases.{grid_with}
use Rattle.list_derive.proofs.Extending.{Extends}
use Rattle.list_derive.proofs.derive.Given as goal

abbrev pub invariant-loop-x : goal.invariant-loop-x
invariant-loop-x l = Extends (grid_with l.case.n l.case.nbr l.case.zero empty_word l.case.units) (set_of l.s) l.list

abbrev pub decreases-loop-x : goal.decreases-loop-x
decreases-loop-x l = most_buses - length l.list.items
