-- Invariant: of the round's buses those that are still to come are to put, and as many numbers are left to count.
use Prim.Native.Nat.{ℕ, ◌+◌}
use mathlib.Core.Path.{◌≡◌}
use mathlib.Core.List.{List, [], ◌∷◌}
use Rattle.busset.specs.Sets.{size, set_of}
use Rattle.round_list.specs.Rounds.{HoldsBuses}
use Rattle.round_list.proofs.Putting.{BusesLeft}
use Rattle.round_calls.proofs.put_round.Given as goal

abbrev pub invariant-loop-b : goal.invariant-loop-b
invariant-loop-b l = (l.k + size (set_of l.b-iterator) ≡ l.initial.k + size (set_of l.fn.r))
    × ((buses : List ℕ) → HoldsBuses l.fn.r buses → BusesLeft (λ b. b ∷ []) l.initial.out l.initial.k buses l.out l.k l.b-iterator)
