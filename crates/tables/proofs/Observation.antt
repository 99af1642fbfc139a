-- The tables of observation, from the observed sets that are computed, or from one bus.
use mathlib.Core.Path.{◌≡◌, refl}
use mathlib.Core.List.{[], ◌∷◌}
use Prim.Native.Nat.{ℕ}
use native.Mathlib.Omega.{arith}
use Rattle.busset.specs.Sets.{In, Out, lack, size}
use Rattle.rules.specs.Observation.{AllBut, O2, Closed}
use Rattle.rules.proofs.Firing.{fired-by, others_in}
use Rattle.rules.proofs.Leasts.{least-unique, all_closed}
use Rattle.tables.proofs.Words.{case_words, set_words}
use Rattle.tables.specs.Starred.{path}
use Rattle.tables.proofs.Rows.{◌&◌}
use Rattle.tables.proofs.Computed.{known}
use Rattle.tables.proofs.Listed.{all-buses}
use Rattle.tables.specs.Tables.{AllRight}
use Rattle.tables.specs.Drawings.{set, drawn_grid, seven_grid, sweep, lone}
use Rattle.tables.specs.Observation as tables

-- ---- the rules

pub o1-right : AllRight tables.o1_table
unfolding case_words
o1-right =
    known.at3.least.closed.direct
    & (λ h. omega (arith, h.near 3 refl 2))
    & (λ h. omega (arith, h.near 3 refl 7))
    & (λ h. omega (arith, h.own 3 refl))
    & known.none.least.closed.direct
    & tt

-- of the buses m, b alone is not in s
but_one : (m b s : ℕ) → (size (lack m s) ≡ 1) → In m b → Out s b → AllBut m b s
but_one m b s e i o = others_in m s s b e (λ a. omega arith) i o

pub all_but_right : AllRight tables.all_but_table
unfolding set_words
all_but_right =
    but_one (set (2 ∷ 4 ∷ 7 ∷ [])) 7 (set (2 ∷ 4 ∷ [])) refl refl refl
    & (λ h. omega (arith, h 4 refl (λ e. omega arith)))
    & but_one (set (2 ∷ [])) 2 (set []) refl refl refl
    & tt

pub fired-right : AllRight tables.fired_table
unfolding set_words
fired-right =
    (λ h. omega (arith, h 1 refl (but_one (set (1 ∷ 3 ∷ [])) 1 (set (3 ∷ [])) refl refl refl)))
    & fired-by (set (1 ∷ 3 ∷ [])) (set (1 ∷ 3 ∷ [])) (λ e. omega arith)
    & fired-by (set (2 ∷ 4 ∷ 7 ∷ [])) (set (4 ∷ [])) (λ e. omega arith)
    & (λ h. omega (arith, h 2 refl (but_one (set (2 ∷ [])) 2 (set (1 ∷ [])) refl refl refl)))
    & tt

-- bus 2 of the seven asks for 1
asks_1 : O2 (seven_grid []).neighbours (seven_grid []).zeros (set (2 ∷ 3 ∷ 4 ∷ 7 ∷ [])) → ⊥
unfolding case_words
asks_1 h = omega (arith, h 2 refl refl 1 refl (but_one (set (1 ∷ 3 ∷ [])) 1 (set (2 ∷ 3 ∷ 4 ∷ 7 ∷ [])) refl refl refl))

pub o2-right : AllRight tables.o2_table
unfolding case_words
o2-right =
    asks_1
    & known.at3.least.closed.zeros.o2
    & known.path15.least.closed.zeros.o2
    & known.path1.least.closed.zeros.o2
    & known.at4.least.closed.zeros.o2
    & (λ h. omega (arith, h 1 refl refl 2 refl (but_one (set (2 ∷ [])) 2 (set (1 ∷ [])) refl refl refl)))
    & known.leaf2.least.closed.zeros.o2
    & tt

-- ---- the observed set

-- all seven buses satisfy the rules
all-seven : Closed (seven_grid (3 ∷ [])) (set (1 ∷ 2 ∷ 3 ∷ 4 ∷ 5 ∷ 6 ∷ 7 ∷ []))
unfolding set_words
all-seven = all_closed known.at3.valid.proper (all-buses 7)

pub closed-right : AllRight tables.closed_table
unfolding set_words
closed-right =
    known.at3.least.closed
    & all-seven
    & (λ h. asks_1 h.zeros.o2)
    & (λ h. omega (arith, h.direct.own 3 refl))
    & tt

pub least-right : AllRight tables.observed_set_table
unfolding set_words
least-right =
    known.none.least
    & known.at2.least
    & known.at3.least
    & known.at4.least
    & known.at14.least
    & known.path15.least
    & (λ h. omega (arith, least-unique (seven_grid (3 ∷ [])) _ _ known.at3.least h))
    & (λ h. asks_1 h.closed.zeros.o2)
    & (λ h. omega (arith, least-unique (drawn_grid path) _ _ known.path15.least h))
    & (λ h. omega (arith, least-unique (drawn_grid sweep) _ _ known.swept.least h))
    & known.swept.least
    & known.lone1.least
    & (λ h. omega (arith, least-unique (drawn_grid lone) _ _ known.lone1.least h))
    & tt
