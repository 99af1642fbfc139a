-- Invariant: the rounds so far reach s, and the rounds from s on complete them. What s leaves of the buses falls.
-- A round that adds a bus makes s larger, so that there is always a place for its set.
use Prim.Native.Nat.{◌-◌}
use Rattle.busset.specs.Sets.{size, set_of}
use Rattle.grid.specs.Limits.{most_buses}
use Rattle.grid.specs.Cases.{grid_of}
use Rattle.round_list.proofs.Gathering.{RoundsSoFar}
use Rattle.round_list.proofs.rounds.Given as goal

abbrev pub invariant-loop-s : goal.invariant-loop-s
invariant-loop-s l = RoundsSoFar (grid_of l.case) (set_of l.s) l.sets.items

abbrev pub decreases-loop-s : goal.decreases-loop-s
decreases-loop-s l = most_buses - size (set_of l.s)
