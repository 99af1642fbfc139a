-- The next line starts past `at`, so what is left up to `to` falls.
use Prim.Native.Nat.{◌-◌}
use Rattle.ask.proofs.lists.first.Given as goal

abbrev pub decreases-loop-at : goal.decreases-loop-at
decreases-loop-at l = l.to - l.at
