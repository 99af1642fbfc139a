-- The tables of the order of refusals, proved: of two refusals one comes before the other, and never both.
use mathlib.Core.Path.{refl, sym}
use mathlib.Core.Bool.{true≢false}
use mathlib.Core.List.{[], ◌∷◌}
use mathlib.Core.Logic.{inl, inr}
use native.Mathlib.Omega.{arith}
use lib.Dec.{lit<}
use Rattle.refusals.specs.Refusals.{Check, check_that}
use Rattle.demands.specs.Order.{Precedes, FirstFails}
use Rattle.tables.proofs.Rows.{◌&◌}
use Rattle.tables.specs.Tables.{AllRight}
use Rattle.tables.specs.Order.{refusal_at, precedes_table, in_order_table}

never_both : (p q : Check) → Precedes p q → Precedes q p → ⊥
never_both p q (inl h) (inl k) = omega (arith, h, k)
never_both p q (inl h) (inr k) = omega (arith, h, k.0)
never_both p q (inr h) (inl k) = omega (arith, h.0, k)
never_both p q (inr (e, inl h)) (inr (f, inl k)) = omega (arith, h, k)
never_both p q (inr (e, inl h)) (inr (f, inr k)) = omega (arith, h, k.0)
never_both p q (inr (e, inr h)) (inr (f, inl k)) = omega (arith, h.0, k)
never_both p q (inr (e, inr h)) (inr (f, inr k)) = omega (arith, h.1, k.1)

-- by the turn, by the line or step, by the number
pub pairs-right : AllRight precedes_table
pairs-right =
    inl (lit< tt)
    & inr (refl, inr (refl, lit< tt))
    & inr (refl, inr (refl, lit< tt))
    & (λ h. never_both (refusal_at 4 3) (refusal_at 2 3) h (inr (refl, inr (refl, lit< tt))))
    & inr (refl, inl (lit< tt))
    & (λ h. never_both (refusal_at 2 4) (refusal_at 4 3) h (inr (refl, inl (lit< tt))))
    & inr (refl, inr (refl, lit< tt))
    & inr (refl, inl (lit< tt))
    & inl (lit< tt)
    & inl (lit< tt)
    & inl (lit< tt)
    & inl (lit< tt)
    & (λ h. never_both (refusal_at 10 0) (refusal_at 5 0) h (inl (lit< tt)))
    & inl (lit< tt)
    & inr (refl, inr (refl, lit< tt))
    & inr (refl, inr (refl, lit< tt))
    & inr (refl, inl (lit< tt))
    & (λ h. never_both (refusal_at 7 2) (refusal_at 9 1) h (inr (refl, inl (lit< tt))))
    & inl (lit< tt)
    & inl (lit< tt)
    & inl (lit< tt)
    & (λ h. never_both (refusal_at 6 0) (refusal_at 11 0) h (inl (lit< tt)))
    & inl (lit< tt)
    & inl (lit< tt)
    & inr (refl, inr (refl, lit< tt))
    & inl (lit< tt)
    & tt

pub lists-right : AllRight in_order_table
lists-right =
    tt
    & refl
    & (refl, inl (lit< tt), (refl, inl (lit< tt), refl))
    & (λ h. never_both (refusal_at 11 0) (refusal_at 10 0) h.2.1 (inl (lit< tt)))
    & (λ h. true≢false (sym h))
    & (λ h. true≢false (sym h.2))
    & inr (tt, inl (λ h. h, refl, refl))
    & (λ h. no_later h)
    & (λ h. no_first h)
    & tt
  where
    no_later : FirstFails (check_that (Unit {0}) 5 0 ∷ refusal_at 10 0 ∷ refusal_at 11 0 ∷ []) 11 0 → ⊥
    no_later (inl a) = a.0 tt
    no_later (inr (_, inl a)) = omega (arith, a.1)
    no_later (inr (_, inr (a, _))) = a

    no_first : FirstFails (check_that (Unit {0}) 5 0 ∷ []) 5 0 → ⊥
    no_first (inl a) = a.0 tt
    no_first (inr (_, a)) = a
