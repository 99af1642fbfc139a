-- `line_at` promises a next line past `at`, and `text_end` is no earlier, so length - at falls.
use Prim.Native.Nat.{◌-◌}
use lib.ListN.{length}
use Rattle.ask.proofs.questions.Given as goal

abbrev pub decreases-loop-at : goal.decreases-loop-at
decreases-loop-at l = length l.block - l.at
