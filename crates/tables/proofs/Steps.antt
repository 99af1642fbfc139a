-- The tables of steps and of the derivation.
use mathlib.Core.Path.{◌≡◌, refl, sym, ap}
use mathlib.Core.List.{List, [], ◌∷◌}
use mathlib.Core.Logic.{◌⊎◌, inl, inr}
use Prim.Native.Nat.{ℕ, ◌≤◌, ◌<◌}
use native.Mathlib.Omega.{arith}
use lib.ListN.{length, get_or}
use Rattle.step.specs.Records.{no_step}
use Rattle.step.specs.declared.Reason.TheVariants.{NeighbourOf}
use Rattle.step.specs.declared.Step.{Step}
use Rattle.rules.specs.Grids.{Grid}
use Rattle.rules.specs.Derivation.{Derivation}
use Rattle.rules.proofs.Reasons.{closed_reasoned}
use Rattle.rules.proofs.Lists.{closed-finished}
use Rattle.rules.proofs.Derivations.{derived-unique, derived-accepted}
use Rattle.tables.proofs.Words.{set_words, step_words}
use Rattle.tables.proofs.Tests.{bus_passes}
use Rattle.tables.proofs.Rows.{◌&◌}
use Rattle.tables.proofs.Computed.{known}
use Rattle.tables.proofs.Deriving.{allowed_passes, next_passes, derived_passes}
use Rattle.tables.specs.Tables.{AllRight}
use Rattle.tables.specs.Drawings.{set, own, near, zero_at, drawn_grid, seven_grid, sweep, ring}
use Rattle.tables.specs.Steps as steps
use Rattle.tables.specs.Derivation as derivation
use Rattle.tables.proofs.Deriving.{names_pass}

-- ---- computed

pub reaches-right : steps.ReachedRight
unfolding set_words
reaches-right = refl

pub values_right : steps.ListOfRight
values_right = refl

pub listings_right : steps.ListedStepsRight
listings_right = refl

pub writings_right : steps.WrittenIntoRight
writings_right = refl

pub puttings_right : steps.PutFirstRight
puttings_right = refl

pub places_right : steps.NthOfRight
places_right = refl

-- ---- one step

pub reasons_right : AllRight steps.reason_table
unfolding step_words
reasons_right =
    refl
    & (λ h. omega arith)
    & record { unit = refl; joined = refl }
    & (λ h. omega (arith, h.unit))
    & (λ h. omega (arith, h.joined))
    & (λ h. omega (arith, h.joined))
    & (allowed_passes (seven_grid (3 ∷ [])) (set (2 ∷ 3 ∷ [])) (zero_at 1 2) refl).holds
    & (λ h. omega (arith, h.observed))
    & (λ h. omega (arith, h.others 3 refl (λ e. omega arith)))
    & (λ h. omega (arith, h.others 2 refl (λ e. omega arith)))
    & (λ h. omega (arith, h.class))
    & (λ h. omega (arith, h.joined))
    & refl
    & tt

pub allowed-right : AllRight steps.allowed_table
unfolding step_words
allowed-right =
    allowed_passes (seven_grid (3 ∷ [])) (set []) (near 2 3) refl
    & allowed_passes (seven_grid (3 ∷ [])) (set (2 ∷ [])) (own 3) refl
    & allowed_passes (seven_grid (3 ∷ [])) (set (2 ∷ 3 ∷ [])) (zero_at 1 2) refl
    & (λ h. omega (arith, h.new))
    & (λ h. omega (arith, h.holds.observed))
    & allowed_passes (seven_grid (3 ∷ 4 ∷ [])) (set []) (near 3 4) refl
    & tt

pub names-right : AllRight steps.names_table
names-right =
    names_pass 7 (own 7) refl
    & (λ h. omega (arith, h.bus.most))
    & (λ h. omega (arith, h.bus.some))
    & names_pass 7 (near 1 7) refl
    & (λ h. omega (arith, h.reason.most))
    & (λ h. omega (arith, h.reason.some))
    & (λ h. omega (arith, h.reason.most))
    & (λ h. omega (arith, h.bus.most))
    & tt
    & bus_passes 7 7 refl
    & (λ h. omega (arith, h.some))
    & tt

-- ---- lists

-- document 01's derivation
pub is-derivation : Derivation (seven_grid (3 ∷ [])) steps.derivation_steps
unfolding step_words
is-derivation = derived_passes (seven_grid (3 ∷ [])) known.at3.valid.proper (set []) steps.derivation_steps refl

-- and that of no units
pub no_steps : Derivation (seven_grid []) []
unfolding step_words
no_steps = derived_passes (seven_grid []) known.none.valid.proper (set []) [] refl

pub accepted-right : AllRight steps.accepted_table
unfolding step_words
accepted-right =
    (derived-accepted is-derivation).0
    & tt
    & (
      allowed_passes (seven_grid (3 ∷ [])) (set []) (own 3) refl,
      (allowed_passes (seven_grid (3 ∷ [])) (set (3 ∷ [])) (near 2 3) refl, tt),
    )
    & (λ h. omega (arith, h.0.holds.observed))
    & (λ h. omega (arith, h.1.0.new))
    & (allowed_passes (seven_grid (3 ∷ [])) (set (2 ∷ 3 ∷ [])) (zero_at 1 2) refl, tt)
    & tt

pub finished-right : AllRight steps.finished_table
unfolding step_words
finished-right =
    closed-finished (seven_grid (3 ∷ [])) (set (1 ∷ 2 ∷ 3 ∷ 4 ∷ 7 ∷ [])) known.at3.least.closed
    & (λ h. h (zero_at 1 2) (allowed_passes (seven_grid (3 ∷ [])) (set (2 ∷ 3 ∷ 4 ∷ 7 ∷ [])) (zero_at 1 2) refl))
    & (λ h. h (own 3) (allowed_passes (seven_grid (3 ∷ [])) (set []) (own 3) refl))
    & closed-finished (seven_grid []) (set []) known.none.least.closed
    & closed_reasoned (seven_grid (3 ∷ [])) (set (1 ∷ 2 ∷ 3 ∷ 4 ∷ 7 ∷ [])) known.at3.least.closed
    & (λ h. omega (arith, h 2 (NeighbourOf 3) (record { unit = refl; joined = refl })))
    & tt

-- ---- the derivation

-- neither of an earlier turn, nor of the same turn with what is wanted of the buses
later : {a b : ℕ} {A : Type 0} → b ≤ a → (a ≡ b → A → ⊥) → (a < b) ⊎ ((a ≡ b) × A) → ⊥
later l n (inl s) = omega arith
later l n (inr q) = n q.0 q.1

pub before-right : AllRight derivation.taken_first_table
before-right =
    inl (omega arith)
    & later (omega arith) (λ e h. omega arith)
    & inr (refl, omega arith)
    & later (omega arith) (λ e h. omega arith)
    & inl (omega arith)
    & later (omega arith) (λ e h. omega arith)
    & inr (refl, omega arith)
    & later (omega arith) (λ e h. omega arith)
    & later (omega arith) (λ e h. omega arith)
    & inr (refl, omega arith)
    & tt

pub next-right : AllRight derivation.next_step_table
unfolding step_words
next-right =
    next_passes (seven_grid (3 ∷ [])) known.at3.valid.proper (set []) (near 2 3) refl
    & (λ h. omega (arith, h.lowest (near 2 3) (allowed_passes (seven_grid (3 ∷ [])) (set []) (near 2 3) refl)))
    & next_passes (seven_grid (3 ∷ [])) known.at3.valid.proper (set (2 ∷ 3 ∷ [])) (zero_at 1 2) refl
    & (λ h. omega (arith, h.lowest (zero_at 1 2) (allowed_passes (seven_grid (3 ∷ [])) (set (2 ∷ 3 ∷ [])) (zero_at 1 2) refl)))
    & next_passes (seven_grid (1 ∷ 2 ∷ [])) known.at12.valid.proper (set []) (own 1) refl
    & (λ h. later (omega arith) (λ e n. omega arith)
    (h.first (own 1) (allowed_passes (seven_grid (1 ∷ 2 ∷ [])) (set []) (own 1) refl) refl))
    & next_passes (seven_grid (1 ∷ 3 ∷ [])) known.at13.valid.proper (set (1 ∷ [])) (near 2 1) refl
    & (λ h. later (omega arith) (λ e n. omega arith)
    (h.first (near 2 1) (allowed_passes (seven_grid (1 ∷ 3 ∷ [])) (set (1 ∷ [])) (near 2 1) refl) refl))
    & next_passes (drawn_grid (ring (3 ∷ 4 ∷ []))) known.ring34.valid.proper (set (2 ∷ 3 ∷ 4 ∷ [])) (near 1 3) refl
    & (λ h. later (omega arith) (λ e n. omega arith)
    (h.first (near 1 3) (allowed_passes (drawn_grid (ring (3 ∷ 4 ∷ []))) (set (2 ∷ 3 ∷ 4 ∷ [])) (near 1 3) refl) refl))
    & next_passes (drawn_grid (ring (4 ∷ []))) known.ring4.valid.proper (set (2 ∷ 3 ∷ 4 ∷ [])) (zero_at 1 2) refl
    & (λ h. later (omega arith) (λ e n. omega arith)
    (h.first (zero_at 1 2) (allowed_passes (drawn_grid (ring (4 ∷ []))) (set (2 ∷ 3 ∷ 4 ∷ [])) (zero_at 1 2) refl) refl))
    & (λ h. omega (arith, h.allowed.holds))
    & tt

-- a list that differs from the derivation in its length, or in the bus of its step i, is not it
other : (g : Grid) (i : ℕ) (xs ys : List Step) → Derivation g xs
    → (length xs ≡ length ys → (get_or xs i no_step).bus ≡ (get_or ys i no_step).bus → ⊥) → Derivation g ys → ⊥
other g i xs ys d ne h = let e = derived-unique d ys h in ne (ap length e) (ap (λ (zs : List Step). (get_or zs i no_step).bus) e)

pub derivations_right : AllRight derivation.derivation_table
unfolding step_words
derivations_right =
    is-derivation
    & (λ xs d. sym (derived-unique is-derivation xs d))
    & other (seven_grid (3 ∷ [])) 0 _ _ is-derivation (λ l e. omega arith)
    & other (seven_grid (3 ∷ [])) 2 _ _ is-derivation (λ l e. omega arith)
    & other (seven_grid (3 ∷ [])) 0 _ _ is-derivation (λ l e. omega arith)
    & no_steps
    & sweeping
    & other (drawn_grid sweep) 0 _ _ sweeping (λ l e. omega arith)
    & record { derived = is-derivation; is = refl }
    & (λ h. other (seven_grid (3 ∷ [])) 0 _ _ is-derivation (λ l e. omega arith) h.derived)
    & tt
  where
    sweeping : Derivation (drawn_grid sweep) (near 3 4 ∷ own 4 ∷ zero_at 2 3 ∷ zero_at 1 2 ∷ [])
    sweeping =
        derived_passes (drawn_grid sweep) known.swept.valid.proper (set []) (near 3 4 ∷ own 4 ∷ zero_at 2 3 ∷ zero_at 1 2 ∷ []) refl
