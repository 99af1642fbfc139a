-- Invariant: i is from `at` up to `end`, so each byte read is there. end - i falls. The remainder keeps the value in its range.
use Prim.Native.Nat.{◌-◌, ◌≤◌}
use Rattle.asked.proofs.number_at.Given as goal

abbrev pub invariant-loop-i : goal.invariant-loop-i
invariant-loop-i l = (l.at ≤ l.i) × (l.i ≤ l.end)

abbrev pub decreases-loop-i : goal.decreases-loop-i
decreases-loop-i l = l.end - l.i
