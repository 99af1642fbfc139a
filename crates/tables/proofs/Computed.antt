-- The observed sets of the grids that the tables draw: each is computed.
use mathlib.Core.Path.{◌≡◌, refl}
use mathlib.Core.List.{[], ◌∷◌}
use Prim.Native.Nat.{ℕ}
use Rattle.rules.specs.Observation.{ObservedSet}
use Rattle.tables.proofs.Words.{test_words}
use Rattle.grid.specs.Cases.{Valid}
use Rattle.tables.proofs.Drawn.{valid_test, filled_passes}
use Rattle.tables.specs.Starred.{Drawing, short_case, drawn_case, seven, path}
use Rattle.tables.specs.Drawings.{set, drawn_grid, path_with, sweep, onward, leaf, lone, ring}
use Rattle.tables.proofs.Deriving.{least_test, least_passes, derived}

-- a valid case, and the set that is observed in it
pub record ObservedIn (d : Drawing) (s : ℕ) : Type 0 where
  pub valid : Valid (drawn_case d)
  pub least : ObservedSet (drawn_grid d) s

-- from two tests, where the list that derives the set is found
observed : (d : Drawing) (s : ℕ) → valid_test (short_case d) ≡ 0 → least_test (drawn_grid d) (derived (drawn_grid d)) s ≡ 0 → ObservedIn d s
observed d s v e =
    let ok : Valid (drawn_case d) = filled_passes (short_case d) v in
    record { valid = ok; least = least_passes (drawn_grid d) (derived (drawn_grid d)) s ok.proper e }

-- those that the tables speak of
pub record Known : Type 0 where
  pub none : ObservedIn (seven []) (set [])
  pub at2 : ObservedIn (seven (2 ∷ [])) (set (1 ∷ 2 ∷ 3 ∷ []))
  pub at3 : ObservedIn (seven (3 ∷ [])) (set (1 ∷ 2 ∷ 3 ∷ 4 ∷ 7 ∷ []))
  pub at4 : ObservedIn (seven (4 ∷ [])) (set (3 ∷ 4 ∷ 5 ∷ 6 ∷ []))
  pub at14 : ObservedIn (seven (1 ∷ 4 ∷ [])) (set (1 ∷ 2 ∷ 3 ∷ 4 ∷ 5 ∷ 6 ∷ 7 ∷ []))
  pub at12 : ObservedIn (seven (1 ∷ 2 ∷ [])) (set (1 ∷ 2 ∷ 3 ∷ []))
  pub at13 : ObservedIn (seven (1 ∷ 3 ∷ [])) (set (1 ∷ 2 ∷ 3 ∷ 4 ∷ 7 ∷ []))
  pub at34 : ObservedIn (seven (3 ∷ 4 ∷ [])) (set (1 ∷ 2 ∷ 3 ∷ 4 ∷ 5 ∷ 6 ∷ 7 ∷ []))
  pub ring4 : ObservedIn (ring (4 ∷ [])) (set (1 ∷ 2 ∷ 3 ∷ 4 ∷ []))
  pub ring34 : ObservedIn (ring (3 ∷ 4 ∷ [])) (set (1 ∷ 2 ∷ 3 ∷ 4 ∷ []))
  pub path15 : ObservedIn path (set (1 ∷ 2 ∷ 4 ∷ 5 ∷ []))
  pub path1 : ObservedIn (path_with (1 ∷ [])) (set (1 ∷ 2 ∷ []))
  pub swept : ObservedIn sweep (set (1 ∷ 2 ∷ 3 ∷ 4 ∷ []))
  pub gone_on : ObservedIn onward (set (1 ∷ 2 ∷ 3 ∷ 4 ∷ []))
  pub leaf2 : ObservedIn leaf (set (1 ∷ 2 ∷ []))
  pub lone1 : ObservedIn lone (set (1 ∷ []))

pub known : Known
unfolding test_words
known = record {
  none = observed (seven []) (set []) refl refl;
  at2 = observed (seven (2 ∷ [])) (set (1 ∷ 2 ∷ 3 ∷ [])) refl refl;
  at3 = observed (seven (3 ∷ [])) (set (1 ∷ 2 ∷ 3 ∷ 4 ∷ 7 ∷ [])) refl refl;
  at4 = observed (seven (4 ∷ [])) (set (3 ∷ 4 ∷ 5 ∷ 6 ∷ [])) refl refl;
  at14 = observed (seven (1 ∷ 4 ∷ [])) (set (1 ∷ 2 ∷ 3 ∷ 4 ∷ 5 ∷ 6 ∷ 7 ∷ [])) refl refl;
  at12 = observed (seven (1 ∷ 2 ∷ [])) (set (1 ∷ 2 ∷ 3 ∷ [])) refl refl;
  at13 = observed (seven (1 ∷ 3 ∷ [])) (set (1 ∷ 2 ∷ 3 ∷ 4 ∷ 7 ∷ [])) refl refl;
  at34 = observed (seven (3 ∷ 4 ∷ [])) (set (1 ∷ 2 ∷ 3 ∷ 4 ∷ 5 ∷ 6 ∷ 7 ∷ [])) refl refl;
  ring4 = observed (ring (4 ∷ [])) (set (1 ∷ 2 ∷ 3 ∷ 4 ∷ [])) refl refl;
  ring34 = observed (ring (3 ∷ 4 ∷ [])) (set (1 ∷ 2 ∷ 3 ∷ 4 ∷ [])) refl refl;
  path15 = observed path (set (1 ∷ 2 ∷ 4 ∷ 5 ∷ [])) refl refl;
  path1 = observed (path_with (1 ∷ [])) (set (1 ∷ 2 ∷ [])) refl refl;
  swept = observed sweep (set (1 ∷ 2 ∷ 3 ∷ 4 ∷ [])) refl refl;
  gone_on = observed onward (set (1 ∷ 2 ∷ 3 ∷ 4 ∷ [])) refl refl;
  leaf2 = observed leaf (set (1 ∷ 2 ∷ [])) refl refl;
  lone1 = observed lone (set (1 ∷ [])) refl refl;
}
