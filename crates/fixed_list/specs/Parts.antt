-- The parts of a list give its places back.
use Rattle.std.specs.Prelude.{◌≡◌, ℕ, ◌≤◌, ◌++◌, length, take, drop}
use mathlib.Core.Path.{sym, subst, ap₂}
use Rattle.std.proofs.lemmas.List.{take-append-drop, length-take-le}
use Rattle.fixed_list.specs.declared.FixedList.TheInside.{Inside}

-- the first `count` places and the others are all places, and the first are `count`
pub parts_again : {T : Type 0} {N : ℕ} (a : Inside T N) → (a.count ≤ N) × (length a.places ≡ N)
    → record { places = take a.count a.places ++ drop a.count a.places; count = length (take a.count a.places) } ≡ a
parts_again a h =
    ap₂ (λ p c. record { places = p; count = c }) (take-append-drop a.count a.places)
    (length-take-le a.count a.places (subst (λ n. a.count ≤ n) (sym h.1) h.0))
