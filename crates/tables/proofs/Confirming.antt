-- The tables of cross-validation: sets of unconfirmed units are computed.
use mathlib.Core.Path.{◌≡◌, refl}
use mathlib.Core.List.{List, [], ◌∷◌}
use Prim.Native.Nat.{ℕ, ◌+◌}
use native.Mathlib.Omega.{arith}
use Rattle.busset.specs.Sets.{bit, meet, size}
use Rattle.busset.proofs.Members.{meet-at}
use Rattle.busset.proofs.Sizes.{size-some}
use Rattle.busset.proofs.Words.{set-zero}
use Rattle.rules.specs.Confirming.{Confirm, joined, share, UnconfirmedSet}
use Rattle.rules.proofs.Choices.{unconfirmed-unique}
use Rattle.tables.proofs.Words.{case_words, search_words}
use Rattle.tables.proofs.Tests.{within_test, within_passes}
use Rattle.tables.proofs.Sought.{unconfirmed_test, unconfirmed_passes}
use Rattle.tables.proofs.Drawn.{valid_test, filled_passes}
use Rattle.tables.specs.Starred.{Drawing, word_with, short_case, seven}
use Rattle.tables.proofs.Rows.{◌&◌}
use Rattle.tables.specs.Tables.{AllRight}
use Rattle.tables.specs.Drawings.{set, drawn_grid, seven_grid, apart}
use Rattle.tables.specs.Confirming as tables

-- buses that are not joined and share no neighbour
strangers : (nbr : ℕ → ℕ) (a b : ℕ) → bit (nbr a) b + size (meet (nbr a) (nbr b)) ≡ 0 → Confirm nbr a b → ⊥
strangers nbr a b e (joined j) = omega arith
strangers nbr a b e (share c j k) = omega (arith, size-some (meet (nbr a) (nbr b)) c (let m = meet-at (nbr a) (nbr b) c in omega arith))

pub confirm-right : AllRight tables.confirm_table
unfolding case_words
confirm-right =
    joined refl
    & joined refl
    & share 3 refl refl
    & share 4 refl refl
    & strangers (seven_grid []).neighbours 1 4 refl
    & strangers (seven_grid []).neighbours 1 6 refl
    & strangers (drawn_grid (apart [])).neighbours 1 3 refl
    & tt

-- the units of a drawing that no other unit confirms
alone : (d : Drawing) (bs : List ℕ) → valid_test (short_case d) ≡ 0 → within_test d.n (set bs) ≡ 0
    → unconfirmed_test (drawn_grid d) (set bs) ≡ 0
    → UnconfirmedSet (drawn_grid d).neighbours (drawn_grid d).units (set bs)
alone d bs v w e =
    unconfirmed_passes (drawn_grid d) (filled_passes (short_case d) v).proper (set bs)
    (within_passes d.n (set bs) (set-zero (word_with bs)) w) e

-- no units, and a unit alone
pub nobody : UnconfirmedSet (seven_grid []).neighbours (set []) (set [])
unfolding search_words
nobody = alone (seven []) [] refl refl refl

pub itself : UnconfirmedSet (seven_grid []).neighbours (set (3 ∷ [])) (set (3 ∷ []))
unfolding search_words
itself = alone (seven (3 ∷ [])) (3 ∷ []) refl refl refl

pub unconfirmed-right : AllRight tables.unconfirmed_table
unfolding case_words
unconfirmed-right =
    itself.only 3 refl
    & (λ h. h.none 4 refl (λ e. omega arith) (joined refl))
    & (λ h. omega (arith, h.unit))
    & tt

pub sets_right : AllRight tables.unconfirmed_set_table
unfolding search_words
sets_right =
    nobody
    & itself
    & joined34
    & alone (seven (2 ∷ 4 ∷ [])) [] refl refl refl
    & apart14
    & alone (apart (1 ∷ 2 ∷ 3 ∷ [])) (3 ∷ []) refl refl refl
    & (λ h. omega (arith, unconfirmed-unique _ _ itself h))
    & (λ h. omega (arith, unconfirmed-unique _ _ apart14 h))
    & (λ h. omega (arith, unconfirmed-unique _ _ joined34 h))
    & tt
  where
    joined34 : UnconfirmedSet (seven_grid []).neighbours (set (3 ∷ 4 ∷ [])) (set [])
    joined34 = alone (seven (3 ∷ 4 ∷ [])) [] refl refl refl

    apart14 : UnconfirmedSet (seven_grid []).neighbours (set (1 ∷ 4 ∷ [])) (set (1 ∷ 4 ∷ []))
    apart14 = alone (seven (1 ∷ 4 ∷ [])) (1 ∷ 4 ∷ []) refl refl refl
