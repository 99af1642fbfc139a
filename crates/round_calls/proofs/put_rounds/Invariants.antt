-- Invariant: the numbers of the rounds that are still to come are left to put, and those before are at most a round of all buses each.
use Prim.Native.Nat.{ℕ, suc, ◌*◌, ◌≤◌}
use mathlib.Core.List.{List}
use Rattle.busset.specs.Sets.{width}
use Rattle.text_put.proofs.Left.{Left}
use Rattle.round_list.specs.Rounds.{HeldRounds}
use Rattle.round_calls.specs.Replies.{round_numbers}
use Rattle.round_calls.proofs.Writing.{rest_numbers}
use Rattle.round_calls.proofs.put_rounds.Given as goal

abbrev pub invariant-loop-r : goal.invariant-loop-r
invariant-loop-r l = (l.k ≤ l.r-index * suc width)
    × ((rounds : List (List ℕ)) → HeldRounds l.sets rounds
    → Left l.initial.out 0 (round_numbers rounds) l.out l.k (rest_numbers rounds l.r-index))
