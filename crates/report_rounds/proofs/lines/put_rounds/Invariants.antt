-- Invariant: the lines of the rounds that are still to come are left to put. Each line is bounded, and so is every place.
use Prim.Native.Nat.{ℕ, ◌*◌, ◌≤◌}
use mathlib.Core.List.{List}
use Rattle.text_put.proofs.Left.{Left}
use Rattle.round_list.specs.Rounds.{HeldRounds}
use Rattle.report_rounds.specs.Rounds.{round_lines}
use Rattle.report_rounds.specs.Lines.{line_reach}
use Rattle.report_rounds.proofs.Texts.{rest_rounds}
use Rattle.report_rounds.proofs.lines.put_rounds.Given as goal

abbrev pub invariant-loop-i : goal.invariant-loop-i
invariant-loop-i l = (l.k ≤ line_reach * l.i)
    × ((rounds : List (List ℕ)) → HeldRounds l.sets rounds
    → Left l.initial.out 0 (round_lines 1 rounds) l.out l.k (rest_rounds rounds l.i))
