-- Invariant: of the buses that the word holds, those that are still to come are left to put. How many they are bounds every place.
use mathlib.Core.List.{List}
use Prim.Native.Nat.{ℕ, ◌+◌, ◌*◌, ◌≤◌}
use Rattle.busset.specs.Sets.{set_of, size}
use Rattle.text_field.specs.Number.{most_digits}
use Rattle.round_list.specs.Rounds.{HoldsBuses}
use Rattle.round_list.proofs.Putting.{BusesLeft}
use Rattle.report_rounds.specs.Lines.{tabbed}
use Rattle.report_rounds.proofs.lines.put_buses.Given as goal

abbrev pub invariant-loop-b : goal.invariant-loop-b
invariant-loop-b l = (l.k + (1 + most_digits) * size (set_of l.b-iterator) ≤ l.at + (1 + most_digits) * size (set_of l.fn.r))
    × ((buses : List ℕ) → HoldsBuses l.fn.r buses → BusesLeft tabbed l.initial.out l.at buses l.out l.k l.b-iterator)
