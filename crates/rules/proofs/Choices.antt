-- Greedy adds one list, and cross-validation gives one set.
use mathlib.Core.Path.{◌≡◌, refl, ap₂, subst⁻¹}
use mathlib.Core.Logic.{⊎_elim}
use mathlib.Core.List.{List, [], ◌∷◌}
use Prim.Native.Nat.{ℕ, zero, suc, ◌≤◌, ◌<◌}
use native.Mathlib.Omega.{arith}
use Rattle.busset.specs.Sets.{add}
use Rattle.basics.proofs.Tests.{below_or}
use Rattle.busset.proofs.Members.{sub_of, sub_antisym}
use Rattle.rules.specs.Grids.{Grid}
use Rattle.rules.specs.Placing.{with_units}
use Rattle.rules.specs.Choosing.{Best, NoneAdds, GreedyList}
use Rattle.rules.specs.Confirming.{UnconfirmedSet}

pub unconfirmed-unique : {nbr : ℕ → ℕ} {units : ℕ} (s t : ℕ) → UnconfirmedSet nbr units s → UnconfirmedSet nbr units t → s ≡ t
unconfirmed-unique s t p q = sub_antisym s t (sub_of s t (λ b h. q.all b (p.only b h))) (sub_of t s (λ b h. p.all b (q.only b h)))

-- the best site is one
pub best-unique : {g : Grid} {x y : ℕ} → Best g x → Best g y → x ≡ y
best-unique {g} {x} {y} p q =
    ⊎_elim
    (λ (l : x < y). absurd (omega (arith, q.lowest x p.after p.with l, p.largest y q.after q.with)))
    (λ (l : y ≤ x). ⊎_elim
    (λ (m : y < x). absurd (omega (arith, p.lowest y q.after q.with m, q.largest x p.after p.with)))
    (λ (m : x ≤ y). omega arith)
    (below_or y x))
    (below_or x y)

-- and where there is one, some site adds a bus
best-adds : {g : Grid} {x : ℕ} → Best g x → NoneAdds g → ⊥
best-adds {g} {x} p none = omega (arith, p.adds, none x p.before p.after p.observed p.with)

pub greedy-unique : (g : Grid) (budget : ℕ) (xs ys : List ℕ) → GreedyList g budget xs → GreedyList g budget ys → xs ≡ ys
greedy-unique g zero [] [] p q = refl
greedy-unique g zero [] (y ∷ ys) p q = absurd q
greedy-unique g zero (x ∷ xs) ys p q = absurd p
greedy-unique g (suc k) [] [] p q = refl
greedy-unique g (suc k) [] (y ∷ ys) p q = absurd (best-adds q.0 p)
greedy-unique g (suc k) (x ∷ xs) [] p q = absurd (best-adds p.0 q)
greedy-unique g (suc k) (x ∷ xs) (y ∷ ys) p q =
    let e = best-unique p.0 q.0 in
    ap₂ (λ (z : ℕ) (zs : List ℕ). z ∷ zs) e
    (greedy-unique (with_units g (add g.units x)) k xs ys p.1
    (subst⁻¹ (λ (z : ℕ). GreedyList (with_units g (add g.units z)) k ys) e q.1))
