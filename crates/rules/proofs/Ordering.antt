-- The order of additions, and that the fewest is one alone.
use mathlib.Core.Path.{◌≡◌, refl, sym, ap, ap₂, ◌∙◌}
use mathlib.Core.Logic.{inl, inr, ⊎_elim}
use mathlib.Core.List.{List, [], ◌∷◌}
use Prim.Native.Nat.{ℕ, ◌≤◌, ◌<◌}
use native.Mathlib.Omega.{arith}
use lib.ListN.{length}
use Rattle.basics.proofs.Tests.{below_or}
use Rattle.busset.specs.Sets.{empty}
use Rattle.rules.specs.Grids.{Grid}
use Rattle.rules.specs.Placing.{placed, Before, Earlier, FewestSites, SomeAddition}

pub before_antisym : (xs ys : List ℕ) → Before xs ys → Before ys xs → xs ≡ ys
before_antisym [] [] p q = refl
before_antisym [] (y ∷ ys) p q = absurd q
before_antisym (x ∷ xs) [] p q = absurd p
before_antisym (x ∷ xs) (y ∷ ys) (inl l) (inl m) = absurd (omega arith)
before_antisym (x ∷ xs) (y ∷ ys) (inl l) (inr m) = absurd (omega (arith, m.0))
before_antisym (x ∷ xs) (y ∷ ys) (inr l) (inl m) = absurd (omega (arith, l.0))
before_antisym (x ∷ xs) (y ∷ ys) (inr l) (inr m) = ap₂ (λ (z : ℕ) (zs : List ℕ). z ∷ zs) l.0 (before_antisym xs ys l.1 m.1)

pub earlier_antisym : (xs ys : List ℕ) → Earlier xs ys → Earlier ys xs → xs ≡ ys
earlier_antisym xs ys (inl l) (inl m) = absurd (omega arith)
earlier_antisym xs ys (inl l) (inr m) = absurd (omega (arith, m.0))
earlier_antisym xs ys (inr l) (inl m) = absurd (omega (arith, l.0))
earlier_antisym xs ys (inr l) (inr m) = before_antisym xs ys l.1 m.1

-- the sites of the fewest are one set
pub fewest-set-unique : {g : Grid} {budget m k : ℕ} → FewestSites g budget m → FewestSites g budget k → m ≡ k
fewest-set-unique p q =
    p.set ∙ ap (placed empty) (earlier_antisym p.list q.list (p.first q.list q.addition) (q.first p.list p.addition))
    ∙ sym q.set

-- where there is a fewest, some addition within the budget covers
pub fewest-some : {g : Grid} {budget m : ℕ} → FewestSites g budget m → SomeAddition g budget
fewest-some f = record { list = f.list; addition = f.addition }

-- a larger budget leaves the fewest as it is: an addition that only the larger one allows has more sites
pub fewest-more : {g : Grid} {budget more m : ℕ} → budget ≤ more → FewestSites g budget m → FewestSites g more m
fewest-more {g} {budget} {more} l f = record {
  list = f.list;
  set = f.set;
  addition =
      record { within = omega (arith, f.addition.within); rising = f.addition.rising; covers = f.addition.covers };
  first = λ ys a. ⊎_elim (λ (k : budget < length ys). inl (omega (arith, f.addition.within)))
      (λ (k : length ys ≤ budget). f.first ys (record { within = k; rising = a.rising; covers = a.covers }))
      (below_or budget (length ys));
}
