-- The tables of placing: the fewest and greedy are computed, and what is not them differs from them.
use mathlib.Core.Path.{◌≡◌, refl}
use mathlib.Core.List.{List, [], ◌∷◌}
use mathlib.Core.Logic.{inl, inr}
use Prim.Native.Nat.{ℕ, ◌+◌, ◌≤◌, ◌<◌}
use native.Mathlib.Omega.{arith}
use Rattle.busset.specs.Sets.{lack}
use Rattle.busset.proofs.Members.{lack-at}
use Rattle.tables.proofs.Words.{search_words, set_words}
use Rattle.tables.proofs.Listed.{all-buses}
use Rattle.rules.specs.Grids.{Grid}
use Rattle.rules.specs.Placing.{Full, Covers, Free, placed, Addition, FewestSites, SomeAddition}
use Rattle.rules.specs.Choosing.{WithSite, NoneAdds, GreedyList}
use Rattle.rules.proofs.Choices.{best-unique, greedy-unique}
use Rattle.rules.proofs.Covering.{covers-full, full-covers}
use Rattle.rules.proofs.Leasts.{least-unique}
use Rattle.rules.proofs.Ordering.{before_antisym, earlier_antisym, fewest-set-unique, fewest-some}
use Rattle.tables.proofs.Sought.{Sought, PlanIs, greedy_test, greedy_passes, none, some, smallest, fewest_passes}
use Rattle.grid.specs.declared.Case.{Case}
use Rattle.grid.specs.Limits.{largest_budget, most_budget}
use Rattle.grid.specs.Cases.{grid_of}
use Rattle.tables.proofs.Drawn.{valid_test, filled_passes}
use Rattle.tables.specs.Starred.{filled, short_case, seven}
use Rattle.tables.proofs.Rows.{◌&◌, differ}
use Rattle.tables.proofs.Computed.{known}
use Rattle.tables.specs.Tables.{AllRight}
use Rattle.plan_input.specs.Asking.{default_budget}
use Rattle.tables.specs.Drawings.{set, drawn_grid, seven_grid, short_value, apart, four_apart, barred, trio, hub}
use Rattle.tables.specs.Placing as tables

-- ---- additions

pub placings_right : tables.PlacedRight
unfolding set_words
placings_right = refl

pub free-right : AllRight tables.free_table
unfolding set_words
free-right =
    record { site = refl; bare = refl }
    & (λ h. omega (arith, h.bare))
    & (λ h. omega (arith, h.site))
    & record { site = refl; bare = refl }
    & (λ h. omega (arith, h.site))
    & tt

pub rising-right : AllRight tables.rising_table
rising-right =
    (omega arith, omega arith, (omega arith, omega arith, (omega arith, omega arith, tt)))
    & tt
    & (λ h. omega (arith, h.2.0))
    & (λ h. omega (arith, h.2.0))
    & (λ h. omega (arith, h.2.1))
    & (λ h. omega (arith, h.0))
    & tt

-- all seven buses
full : Full 7 (set (1 ∷ 2 ∷ 3 ∷ 4 ∷ 5 ∷ 6 ∷ 7 ∷ []))
unfolding set_words
full = (all-buses 7).has

-- bus 5 is missing where only 3 has a unit
uncovered : Covers (seven_grid []) (set (3 ∷ [])) → ⊥
unfolding set_words
uncovered h = omega (arith, covers-full (seven_grid []) known.at3.least h 5 (record { some = omega arith; most = omega arith }))

pub covers-right : AllRight tables.covers_table
unfolding set_words
covers-right =
    full
    & (λ h. omega (arith, h 6 (record { some = omega arith; most = omega arith })))
    & full-covers (seven_grid []) known.at14.least full
    & full-covers (seven_grid []) known.at34.least full
    & uncovered
    & (λ h. omega (arith, covers-full (seven_grid []) known.none.least h 5 (record { some = omega arith; most = omega arith })))
    & tt

-- two sites that cover, within a budget of two or more
two : (g : Grid) (x y budget : ℕ) → 0 < x → x < y → Free g x → Free g y → Covers g (placed g.units (x ∷ y ∷ [])) → 2 ≤ budget
    → Addition g budget (x ∷ y ∷ [])
two g x y budget l m p q c k = record { within = k; rising = (l, p, (m, q, tt)); covers = c }

pub plan_right : AllRight tables.addition_table
unfolding set_words
plan_right =
    at14 2 (omega arith)
    & at14 (most_budget 7) (omega arith)
    & two (seven_grid []) 3 4 2 (omega arith) (omega arith) (record { site = refl; bare = refl }) (record { site = refl; bare = refl })
    (full-covers (seven_grid []) known.at34.least full) (omega arith)
    & (λ h. omega (arith, h.within))
    & (λ h. omega (arith, h.rising.2.0))
    & (λ h. uncovered h.covers)
    & record {
      within = omega arith;
      rising = (omega arith, record { site = refl; bare = refl }, tt);
      covers = full-covers (seven_grid (4 ∷ [])) known.at14.least full;
    }
    & (λ h. omega (arith, h.rising.2.1.bare))
    & (λ h. omega (arith, h.rising.1.site))
    & tt
  where
    at14 : (budget : ℕ) → 2 ≤ budget → Addition (seven_grid []) budget (1 ∷ 4 ∷ [])
    at14 budget =
        two (seven_grid []) 1 4 budget (omega arith) (omega arith) (record { site = refl; bare = refl })
        (record { site = refl; bare = refl }) (full-covers (seven_grid []) known.at14.least full)

-- ---- which comes first

pub before-right : AllRight tables.before_table
before-right =
    inl (omega arith)
    & (λ h. differ 0 (before_antisym (1 ∷ 4 ∷ []) (2 ∷ 3 ∷ []) (inl (omega arith)) h) (λ e. omega arith))
    & inr (refl, inl (omega arith))
    & (λ h. differ 1 (before_antisym (1 ∷ 3 ∷ []) (1 ∷ 4 ∷ []) (inr (refl, inl (omega arith))) h) (λ e. omega arith))
    & inr (refl, inr (refl, tt))
    & tt

pub earlier-right : AllRight tables.earlier_table
earlier-right =
    inl (omega arith)
    & (λ h. differ 1 (earlier_antisym (1 ∷ []) (1 ∷ 4 ∷ []) (inl (omega arith)) h) (λ e. omega arith))
    & inl (omega arith)
    & (λ h. differ 0 (earlier_antisym (4 ∷ []) (1 ∷ 2 ∷ 3 ∷ []) (inl (omega arith)) h) (λ e. omega arith))
    & inr (refl, inl (omega arith))
    & (λ h. differ 0 (earlier_antisym (1 ∷ 4 ∷ []) (2 ∷ 3 ∷ []) (inr (refl, inl (omega arith))) h) (λ e. omega arith))
    & inr (refl, inr (refl, inr (refl, tt)))
    & tt

-- ---- the fewest and greedy, computed

-- what the search finds on a valid case
found : (c : Case) (budget : ℕ) (a : Sought) → valid_test c ≡ 0
    → smallest (grid_of (filled c)) (lack (grid_of c).sites (grid_of c).units) (budget + 1) 0 ≡ a → PlanIs (grid_of (filled c)) budget a
found c budget a v e =
    fewest_passes (grid_of (filled c)) (filled_passes c v).proper (lack (grid_of c).sites (grid_of c).units)
    (record { at = lack-at (grid_of c).sites (grid_of c).units }) budget a e

-- what greedy adds on a valid case
adds : (c : Case) (budget : ℕ) (xs : List ℕ) → valid_test c ≡ 0 → greedy_test (grid_of (filled c)) budget xs ≡ 0
    → GreedyList (grid_of (filled c)) budget xs
adds c budget xs v e = greedy_passes (grid_of (filled c)) budget xs (filled_passes c v).proper e

-- those that the tables speak of
pub record Placed : Type 0 where
  pub fewest1 : SomeAddition (seven_grid []) 1 → ⊥
  pub fewest2 : FewestSites (seven_grid []) 2 (set (1 ∷ 4 ∷ []))
  pub fewest3 : FewestSites (seven_grid []) 3 (set (1 ∷ 4 ∷ []))
  pub hub4 : FewestSites (drawn_grid hub) 3 (set (4 ∷ []))
  pub beside14 : FewestSites (seven_grid (1 ∷ 4 ∷ [])) 0 (set [])
  pub beside4 : FewestSites (seven_grid (4 ∷ [])) 1 (set (1 ∷ []))
  pub barred2 : FewestSites (barred []) 1 (set (2 ∷ []))
  pub apart3 : SomeAddition (drawn_grid four_apart) default_budget → ⊥
  pub apart8 : FewestSites (drawn_grid four_apart) largest_budget (set (1 ∷ 2 ∷ 3 ∷ 4 ∷ []))
  pub greedy2 : GreedyList (seven_grid []) 2 (3 ∷ 4 ∷ [])
  pub greedy3 : GreedyList (seven_grid []) 3 (3 ∷ 4 ∷ [])
  pub covered : NoneAdds (seven_grid (1 ∷ 4 ∷ []))
  pub tie : GreedyList (drawn_grid (apart [])) 1 (1 ∷ [])
  pub observed2 : GreedyList (drawn_grid (trio (1 ∷ []))) 1 (2 ∷ [])
  pub greedy_barred : GreedyList (barred []) 1 (2 ∷ [])

pub known_places : Placed
unfolding search_words
known_places = record {
  fewest1 = found (short_case (seven [])) 1 none refl refl;
  fewest2 = found (short_case (seven [])) 2 (some (set (1 ∷ 4 ∷ []))) refl refl;
  fewest3 = found (short_case (seven [])) 3 (some (set (1 ∷ 4 ∷ []))) refl refl;
  hub4 = found (short_case hub) 3 (some (set (4 ∷ []))) refl refl;
  beside14 = found (short_case (seven (1 ∷ 4 ∷ []))) 0 (some (set [])) refl refl;
  beside4 = found (short_case (seven (4 ∷ []))) 1 (some (set (1 ∷ []))) refl refl;
  barred2 = found (short_value 2 ((2 ∷ []) ∷ (1 ∷ []) ∷ []) [] (2 ∷ []) []) 1 (some (set (2 ∷ []))) refl refl;
  apart3 = found (short_case four_apart) default_budget none refl refl;
  apart8 = found (short_case four_apart) largest_budget (some (set (1 ∷ 2 ∷ 3 ∷ 4 ∷ []))) refl refl;
  greedy2 = adds (short_case (seven [])) 2 (3 ∷ 4 ∷ []) refl refl;
  greedy3 = adds (short_case (seven [])) 3 (3 ∷ 4 ∷ []) refl refl;
  covered = adds (short_case (seven (1 ∷ 4 ∷ []))) 1 [] refl refl;
  tie = adds (short_case (apart [])) 1 (1 ∷ []) refl refl;
  observed2 = adds (short_case (trio (1 ∷ []))) 1 (2 ∷ []) refl refl;
  greedy_barred = adds (short_value 2 ((2 ∷ []) ∷ (1 ∷ []) ∷ []) [] (2 ∷ []) []) 1 (2 ∷ []) refl refl;
}

-- ---- the fewest

pub fewest-right : AllRight tables.fewest_sites_table
unfolding set_words
fewest-right =
    known_places.fewest2
    & known_places.fewest3
    & (λ h. omega (arith, fewest-set-unique known_places.fewest2 h))
    & (λ h. omega (arith, fewest-set-unique known_places.fewest3 h))
    & fewest-some known_places.fewest2
    & known_places.fewest1
    & (λ h. known_places.fewest1 (fewest-some h))
    & known_places.hub4
    & (λ h. omega (arith, fewest-set-unique known_places.hub4 h))
    & known_places.beside14
    & known_places.beside4
    & known_places.barred2
    & (λ h. omega (arith, fewest-set-unique known_places.barred2 h))
    & known_places.apart3
    & known_places.apart8
    & tt

-- ---- greedy

-- a unit at 3
with3 : WithSite (seven_grid []) 3 (set (1 ∷ 2 ∷ 3 ∷ 4 ∷ 7 ∷ []))
unfolding set_words
with3 = record { free = record { site = refl; bare = refl }; observed = known.at3.least }

pub with-right : AllRight tables.with_site_table
unfolding set_words
with-right =
    with3
    & (λ h. omega (arith, least-unique (seven_grid (3 ∷ [])) _ _ known.at3.least h.observed))
    & (λ h. omega (arith, h.free.bare))
    & (λ h. omega (arith, h.free.site))
    & tt

pub best-right : AllRight tables.best_table
unfolding set_words
best-right =
    known_places.greedy2.0
    & (λ h. omega (arith, best-unique known_places.greedy2.0 h))
    & known_places.tie.0
    & (λ h. omega (arith, best-unique known_places.tie.0 h))
    & known_places.observed2.0
    & known_places.greedy_barred.0
    & (λ h. omega (arith, known_places.covered 2 h.before h.after h.observed h.with, h.adds))
    & known_places.covered
    & (λ h. omega (arith, h 3 _ _ known.none.least with3))
    & tt

pub greedy-right : AllRight tables.greedy_list_table
greedy-right =
    known_places.greedy2
    & (λ h. differ 0 (greedy-unique (seven_grid []) 2 (3 ∷ 4 ∷ []) (4 ∷ 3 ∷ []) known_places.greedy2 h) (λ e. omega arith))
    & (λ h. differ 0 (greedy-unique (seven_grid []) 2 (3 ∷ 4 ∷ []) (1 ∷ 4 ∷ []) known_places.greedy2 h) (λ e. omega arith))
    & (known_places.greedy2.0, tt)
    & tt
    & (λ h. h.1)
    & (λ h. differ 1 (greedy-unique (seven_grid []) 2 (3 ∷ 4 ∷ []) (3 ∷ []) known_places.greedy2 h) (λ e. omega arith))
    & known_places.greedy3
    & known_places.covered
    & (λ h. differ 0 (greedy-unique (seven_grid (1 ∷ 4 ∷ [])) 2 [] (2 ∷ []) known_places.covered h) (λ e. omega arith))
    & tt
