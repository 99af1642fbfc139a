-- A check before others: where it passes, what is said by the others is said of all.
use Rattle.std.specs.Prelude.{Result, Ok, Err}
use mathlib.Core.List.{List, ◌∷◌}
use mathlib.Core.Logic.{inr}
use Rattle.refusals.specs.declared.Refusal.{Refusal}
use Rattle.refusals.specs.Refusals.{Check, CheckedBy}

pub tested-after : (q : Check) (qs : List Check) (w : Result (Unit {0}) Refusal) → q.wants → CheckedBy qs w → CheckedBy (q ∷ qs) w
tested-after q qs (Ok tt) p h = (p, h)
tested-after q qs (Err r) p h = inr (p, h)
