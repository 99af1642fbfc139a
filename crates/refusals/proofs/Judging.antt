-- What is said by checks: an answer where all pass, or the refusal of the first that fails;
-- and the byte limit, which every text is checked for first.
use mathlib.Core.Path.{◌≡◌, refl, subst⁻¹}
use mathlib.Core.Bool.{Bool, true, false, cond, not}
use mathlib.Core.List.{List, ◌∷◌}
use mathlib.Core.Logic.{inl, inr}
use Prim.Native.Nat.{ℕ, ◌≤◌}
use native.Mathlib.Omega.{arith}
use lib.Dec.{T, ltb, ltb→lt, nltb→le}
use lib.ListN.{length}
use Rattle.refusals.specs.declared.Refusal.{Refusal}
use Rattle.refusals.specs.declared.Refusal.TheVariants.{TextTooLong}
use Rattle.refusals.specs.Refusals.{Is, Check, check_that, Passed, Failed}
use Rattle.refusals.proofs.Orders.{itself}

-- r is an answer of A where all of the checks pass, or the refusal of the first that fails
pub data SaidBy {R : Type 0} (refused : Refusal → R) (A : R → Type 0) (checks : List Check) (r : R) : Type 0 where
  good : Passed checks → A r → SaidBy refused A checks r
  bad : (q : Refusal) → Failed checks q → r ≡ refused q → SaidBy refused A checks r

-- a check that passes, and then the others
pub passing : {R : Type 0} {refused : Refusal → R} {A : R → Type 0} (B : Type 0) (number place : ℕ) → B → {checks : List Check} {r : R}
    → SaidBy refused A checks r
    → SaidBy refused A (check_that B number place ∷ checks) r
passing B number place b (good p a) = good (b, p) a
passing B number place b (bad q f e) = bad q (inr (b, f)) e

-- a check that fails
pub failing : {R : Type 0} {refused : Refusal → R} {A : R → Type 0} (B : Type 0) (number place : ℕ) (q : Refusal) → (B → ⊥)
    → Is number place q → {checks : List Check}
    → SaidBy refused A (check_that B number place ∷ checks) (refused q)
failing B number place q f i = bad q (inl (f, i)) refl

-- a text over its byte limit, or what is said of it
pub within_limit : {R : Type 0} (refused : Refusal → R) (A : R → Type 0) (most : ℕ) (text : List ℕ) (checks : List Check) (r : R)
    → SaidBy refused A checks r
    → SaidBy refused A (check_that (length text ≤ most) 1 0 ∷ checks) (cond (ltb most (length text)) (refused TextTooLong) r)
within_limit refused A most text checks r h = go (ltb most (length text)) refl
  where
    go : (b : Bool) → ltb most (length text) ≡ b
        → SaidBy refused A (check_that (length text ≤ most) 1 0 ∷ checks) (cond b (refused TextTooLong) r)
    go true e =
        failing (length text ≤ most) 1 0 TextTooLong (λ l. omega (arith, l, ltb→lt most (length text) (subst⁻¹ T e tt)))
        (itself TextTooLong)
    go false e = passing (length text ≤ most) 1 0 (nltb→le most (length text) (subst⁻¹ (λ (b : Bool). T (not b)) e tt)) h
