-- A refusal is known by its number and place, and the first check that fails gives one refusal.
use mathlib.Core.Path.{◌≡◌, refl, sym, ap₂, ◌∙◌}
use mathlib.Core.List.{List, [], ◌∷◌, ◌++◌}
use mathlib.Core.Logic.{inl, inr}
use Prim.Native.Nat.{ℕ, ◌≤◌}
use native.Mathlib.Omega.{arith}
use lib.ListN.{get_or}
use Rattle.refusals.specs.declared.Refusal.{Refusal}
use Rattle.refusals.specs.declared.Refusal.TheVariants.{TextTooLong, WrongForm, OutOfRange, OutOfOrder}
use Rattle.refusals.specs.declared.Refusal.TheVariants.{InvalidCase, NoRoom, NoSuchBus, AlreadyObserved}
use Rattle.refusals.specs.declared.Refusal.TheVariants.{ReasonFails, OverBudget, NoCover, TooManySteps, NotJoined}
use Rattle.refusals.specs.Refusals.{number_of, place_of, Is, Check, Passed, Failed}

-- the refusal with a number and a place
abbrev refusal_of : ℕ → ℕ → Refusal
refusal_of number p =
    get_or
    (NoRoom ∷ TextTooLong ∷ WrongForm p ∷ OutOfRange p ∷ OutOfOrder p ∷ InvalidCase ∷ NoRoom ∷ NoSuchBus p ∷ AlreadyObserved p
    ∷ ReasonFails p ∷ OverBudget p ∷ NoCover ∷ TooManySteps p ∷ NotJoined ∷ [])
    number NoRoom

there_and_back : (r : Refusal) → refusal_of (number_of r) (place_of r) ≡ r
there_and_back TextTooLong = refl
there_and_back (WrongForm p) = refl
there_and_back (OutOfRange p) = refl
there_and_back (OutOfOrder p) = refl
there_and_back InvalidCase = refl
there_and_back NoRoom = refl
there_and_back (NoSuchBus p) = refl
there_and_back (AlreadyObserved p) = refl
there_and_back (ReasonFails p) = refl
there_and_back (OverBudget p) = refl
there_and_back NoCover = refl
there_and_back (TooManySteps p) = refl
there_and_back NotJoined = refl

-- the table has the rows 1 to 13
row : (r : Refusal) → (1 ≤ number_of r) × (number_of r ≤ 13)
row TextTooLong = (omega arith, omega arith)
row (WrongForm p) = (omega arith, omega arith)
row (OutOfRange p) = (omega arith, omega arith)
row (OutOfOrder p) = (omega arith, omega arith)
row InvalidCase = (omega arith, omega arith)
row NoRoom = (omega arith, omega arith)
row (NoSuchBus p) = (omega arith, omega arith)
row (AlreadyObserved p) = (omega arith, omega arith)
row (ReasonFails p) = (omega arith, omega arith)
row (OverBudget p) = (omega arith, omega arith)
row NoCover = (omega arith, omega arith)
row (TooManySteps p) = (omega arith, omega arith)
row NotJoined = (omega arith, omega arith)

pub number-some : (r : Refusal) → 1 ≤ number_of r
number-some r = (row r).0

pub number-most : (r : Refusal) → number_of r ≤ 13
number-most r = (row r).1

pub itself : (r : Refusal) → Is (number_of r) (place_of r) r
itself r = record { numbered = refl; placed = refl }

-- number and place say which refusal it is
pub refusal-unique : {k p : ℕ} {r q : Refusal} → Is k p r → Is k p q → r ≡ q
refusal-unique {k} {p} {r} {q} a b =
    sym (there_and_back r) ∙ ap₂ refusal_of (a.numbered ∙ sym b.numbered) (a.placed ∙ sym b.placed) ∙ there_and_back q

-- the first check that fails gives one refusal
pub failed-unique : (qs : List Check) (r q : Refusal) → Failed qs r → Failed qs q → r ≡ q
failed-unique (x ∷ qs) r q (inl a) (inl b) = refusal-unique a.1 b.1
failed-unique (x ∷ qs) r q (inl a) (inr b) = absurd (a.0 b.0)
failed-unique (x ∷ qs) r q (inr a) (inl b) = absurd (b.0 a.0)
failed-unique (x ∷ qs) r q (inr a) (inr b) = failed-unique qs r q a.1 b.1
failed-unique [] r q x'' _ = elim x'' [ ]

-- and only where some check fails
pub failed_or_passed : (qs : List Check) (r : Refusal) → Failed qs r → Passed qs → ⊥
failed_or_passed (x ∷ qs) r (inl a) p = a.0 p.0
failed_or_passed (x ∷ qs) r (inr a) p = failed_or_passed qs r a.1 p.1
failed_or_passed [] r x'' p = elim x'' [ ]

-- ---- one list of checks after another

pub passed_then : (ps qs : List Check) → Passed ps → Passed qs → Passed (ps ++ qs)
passed_then [] qs a b = b
passed_then (p ∷ ps) qs a b = (a.0, passed_then ps qs a.1 b)

pub failed_sooner : (ps qs : List Check) (r : Refusal) → Failed ps r → Failed (ps ++ qs) r
failed_sooner (p ∷ ps) qs r (inl f) = inl f
failed_sooner (p ∷ ps) qs r (inr f) = inr (f.0, failed_sooner ps qs r f.1)
failed_sooner [] qs r x' = elim x' [ ]

pub failed-later : (ps qs : List Check) (r : Refusal) → Passed ps → Failed qs r → Failed (ps ++ qs) r
failed-later [] qs r a f = f
failed-later (p ∷ ps) qs r a f = inr (a.0, failed-later ps qs r a.1 f)

-- ---- places

-- each check's place is at most m
abbrev pub PlacesBy : ℕ → List Check → Type 0
PlacesBy m [] = Unit {0}
PlacesBy m (x ∷ qs) = (x.place ≤ m) × PlacesBy m qs

-- and so the place of the refusal that they give
pub failed-place : (m : ℕ) (qs : List Check) (r : Refusal) → PlacesBy m qs → Failed qs r → place_of r ≤ m
failed-place m (x ∷ qs) r p (inl a) = omega (arith, p.0, a.1.placed)
failed-place m (x ∷ qs) r p (inr a) = failed-place m qs r p.1 a.1
failed-place m [] r p x'' = elim x'' [ ]
