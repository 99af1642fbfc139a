-- Invariant: line k starts at `at`, and to check the text is to check on from there. A turn passes a line feed, so length - at falls.
-- k is at most at + 1, so it does not overflow. Out of range is asked before too many, as `line_said` does.
use Prim.Native.Nat.{◌-◌}
use lib.ListN.{length}
use Rattle.step_text.proofs.Stepping.{Going}
use Rattle.step_text.proofs.check_steps.Given as goal

abbrev pub invariant-loop-line : goal.invariant-loop-line
invariant-loop-line l = Going l.text l.k l.at

abbrev pub decreases-loop-line : goal.decreases-loop-line
decreases-loop-line l = length l.text - l.at
