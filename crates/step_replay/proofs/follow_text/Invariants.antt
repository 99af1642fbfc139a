-- The invariant: the list is where the steps before the index lead. The rest of the text gets shorter.
use Prim.Native.Nat.{◌-◌}
use lib.ListN.{length}
use Rattle.step_replay.proofs.Onward.{Onward}
use Rattle.step_replay.proofs.follow_text.Given as goal

abbrev pub invariant-loop-taken : goal.invariant-loop-taken
invariant-loop-taken l = Onward l.case l.text l.fn.count l.st l.at

abbrev pub decreases-loop-taken : goal.decreases-loop-taken
decreases-loop-taken l = length l.text - l.at
