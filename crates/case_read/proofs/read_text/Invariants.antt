-- Invariant: line k starts at `at`, and to read the text is to read on from there with the reader held.
-- A turn passes a line feed, so length - at falls.
use Prim.Native.Nat.{◌-◌}
use lib.ListN.{length}
use Rattle.case_read.proofs.Lines.{Going}
use Rattle.case_read.proofs.read_text.Given as goal

abbrev pub invariant-loop-line : goal.invariant-loop-line
invariant-loop-line l = Going l.text l.from l.first l.reader l.k l.at

abbrev pub decreases-loop-line : goal.decreases-loop-line
decreases-loop-line l = length l.text - l.at
