-- Tests that answer yes or no, and cases on numbers.
use mathlib.Core.Path.{◌≡◌, refl, sym, ◌∙◌}
use mathlib.Core.Bool.{Bool, true, false}
use mathlib.Core.Logic.{◌⊎◌, inl, inr, ⊎_elim}
use Prim.Native.Nat.{ℕ, ◌+◌, ◌-◌, ◌≤◌, ◌<◌}
use native.Mathlib.Nat.{eq-zero-or-pos}
use native.Mathlib.Omega.{arith}
use lib.Dec.{eqb, leb}
use borrow.Author.Tests.{eqb-true, eq-eqb, leb-true, le-leb}
use Rattle.basics.specs.Deciding.{Decides}

-- ---- tests

pub decides_eq : (m n : ℕ) → Decides (m ≡ n) (eqb m n)
decides_eq m n = record { yes = eqb-true m n; no = eq-eqb m n }

pub decides-le : (m n : ℕ) → Decides (m ≤ n) (leb m n)
decides-le m n = record { yes = leb-true m n; no = le-leb m n }

pub decides-by : {P Q : Type 0} {r : Bool} → (Q → P) → (P → Q) → Decides Q r → Decides P r
decides-by f g d = record { yes = λ e. f (d.yes e); no = λ p. d.no (g p) }

true_is_not_false : true ≡ false → ⊥
true_is_not_false e = let z : ◌≡◌ {A = ℕ} 0 1 = cc in omega arith

pub refutes : {P : Type 0} {r : Bool} → Decides P r → r ≡ false → P → ⊥
refutes d e p = true_is_not_false (sym (d.no p) ∙ e)

pub decides-no : {P : Type 0} → (P → ⊥) → Decides P false
decides-no f = record { yes = λ e. absurd (true_is_not_false (sym e)); no = λ p. absurd (f p) }

pub decides-yes : {P : Type 0} → P → Decides P true
decides-yes p = record { yes = λ e. p; no = λ q. refl }

-- two answers to one question are the same
pub decides-same : {P : Type 0} {r q : Bool} → Decides P r → Decides P q → r ≡ q
decides-same {P} {r} {q} d e = go r q d e
  where
    go : (r q : Bool) → Decides P r → Decides P q → r ≡ q
    go true true d e = refl
    go true false d e = absurd (true_is_not_false (sym (e.no (d.yes refl))))
    go false true d e = absurd (true_is_not_false (sym (d.no (e.yes refl))))
    go false false d e = refl

-- ---- cases

pub below_or : (i k : ℕ) → (i < k) ⊎ (k ≤ i)
below_or i k = ⊎_elim (λ (e : k - i ≡ 0). inr (omega arith)) (λ (h : 0 < k - i). inl (omega arith)) (eq-zero-or-pos (k - i))

pub same_or : (i j : ℕ) → (i ≡ j) ⊎ (i ≡ j → ⊥)
same_or i j =
    ⊎_elim (λ (e : (i - j) + (j - i) ≡ 0). inl (omega arith)) (λ (h : 0 < (i - j) + (j - i)). inr (λ e. omega arith))
    (eq-zero-or-pos ((i - j) + (j - i)))
