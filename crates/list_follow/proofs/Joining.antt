-- One list of steps after another: their checks, the set that they reach and what weaving writes of them.
use Rattle.refusals.specs.declared.Refusal.{Refusal}
use Rattle.std.specs.Prelude.{Result, Ok, Err}
use mathlib.Core.Path.{◌≡◌, refl, sym, ap, ◌∙◌}
use mathlib.Core.List.{List, [], ◌∷◌, ◌++◌, append_assoc}
use Prim.Native.Nat.{ℕ, zero, suc, ◌+◌, ◌≤◌}
use native.Mathlib.Omega.{arith}
use lib.ListN.{length}
use Rattle.basics.specs.Lists.{Each}
use Rattle.busset.specs.Sets.{Bus, bit, width, empty, add, size}
use Rattle.busset.proofs.Members.{add_again}
use Rattle.busset.proofs.Sizes.{size-add, size-empty}
use Rattle.step.specs.declared.Step.{Step}
use Rattle.rules.specs.Steps.{Names, reached_from, reached}
use Rattle.rules.specs.Weaving.{unless_seen, woven_from, woven}
use Rattle.rules.proofs.Reasons.{names_more}
use Rattle.grid.specs.declared.Case.{Case}
use Rattle.refusals.specs.Refusals.{Check, Passed, CheckedBy}
use Rattle.refusals.proofs.Orders.{passed_then, failed-later}
use Rattle.list_follow.specs.Following.{checks_at, checks_from, begin_checks, list_checks}
use Rattle.list_follow.specs.declared.Task.{Task}
use Rattle.list_follow.specs.declared.Task.TheVariants.{Replay, Weave}

-- ---- the checks

pub standing_then : (ps qs : List Check) (w : Result (Unit {0}) Refusal) → Passed ps → CheckedBy qs w → CheckedBy (ps ++ qs) w
standing_then ps qs (Ok tt) p h = passed_then ps qs p h
standing_then ps qs (Err q) p h = failed-later ps qs q p h

checks_append : (task : Task) (c : Case) (k s : ℕ) (xs ys : List Step)
    → checks_from task c k s (xs ++ ys) ≡ checks_from task c k s xs ++ checks_from task c (k + length xs) (reached_from s xs) ys
checks_append task c k s [] ys = let place : k ≡ k + 0 = omega arith in ap (λ (j : ℕ). checks_from task c j s ys) place
checks_append task c k s (x ∷ xs) ys =
    let here = checks_at task c k s x in
    let t = add s x.bus in
    let more = checks_from task c (suc k) t xs in
    let place : suc k + length xs ≡ k + suc (length xs) = omega arith in
    ap (λ (l : List Check). here ++ l) (checks_append task c (suc k) t xs ys)
    ∙ sym (append_assoc here more (checks_from task c (suc k + length xs) (reached_from t xs) ys))
    ∙ ap (λ (j : ℕ). (here ++ more) ++ checks_from task c j (reached_from t xs) ys) place

pub list-checks_append : (task : Task) (c : Case) (count : ℕ) (xs ys : List Step)
    → list_checks task c count (xs ++ ys) ≡ list_checks task c count xs ++ checks_from task c (suc (length xs)) (reached xs) ys
list-checks_append task c count xs ys =
    let place : 1 + length xs ≡ suc (length xs) = omega arith in
    ap (λ (l : List Check). begin_checks c count ++ l)
    (checks_append task c 1 empty xs ys ∙ ap (λ (j : ℕ). checks_from task c 1 empty xs ++ checks_from task c j (reached xs) ys) place)

-- ---- the set reached

pub reached_append : (s : ℕ) (xs ys : List Step) → reached_from s (xs ++ ys) ≡ reached_from (reached_from s xs) ys
reached_append s [] ys = refl
reached_append s (x ∷ xs) ys = reached_append (add s x.bus) xs ys

-- a step that passes its checks names buses of the grid
names_and : (task : Task) (c : Case) (k s : ℕ) (x : Step) (rest : List Check) → Passed (checks_at task c k s x ++ rest)
    → Names c.n x × Passed rest
names_and Replay c k s x rest p = (p.0, p.1.1.1)
names_and Weave c k s x rest p = (p.0, p.1.1)

-- so every bus of a list that passes is one of the set's
pub each-bus : (task : Task) (c : Case) (k s : ℕ) (xs : List Step) → c.n ≤ width → Passed (checks_from task c k s xs)
    → Each (λ x. Bus width x.bus) xs
each-bus task c k s [] l p = tt
each-bus task c k s (x ∷ xs) l p =
    let h = names_and task c k s x (checks_from task c (suc k) (add s x.bus) xs) p in
    ((names_more h.0 l).bus, each-bus task c (suc k) (add s x.bus) xs l h.1)

-- ---- what weaving writes

unless_append : (d : ℕ) (x : Step) (xs ys : List Step) → unless_seen d x (xs ++ ys) ≡ unless_seen d x xs ++ ys
unless_append zero x xs ys = refl
unless_append (suc d) x xs ys = refl

pub woven_append : (s : ℕ) (xs ys : List Step) → woven_from s (xs ++ ys) ≡ woven_from s xs ++ woven_from (reached_from s xs) ys
woven_append s [] ys = refl
woven_append s (x ∷ xs) ys =
    let t = add s x.bus in
    let d = bit s x.bus in
    ap (λ (l : List Step). unless_seen d x l) (woven_append t xs ys)
    ∙ unless_append d x (woven_from t xs) (woven_from (reached_from t xs) ys)

-- ys leads from s to t, with one step for each bus that t has more
abbrev Once : ℕ → List Step → ℕ → Type 0
Once s ys t = (reached_from s ys ≡ t) × (length ys + size s ≡ size t)

woven-from : (s : ℕ) (xs : List Step) → Once s (woven_from s xs) (reached_from s xs)
woven-from s [] = (refl, omega arith)
woven-from s (x ∷ xs) = go (bit s x.bus) refl (woven-from t xs)
  where
    t : ℕ
    t = add s x.bus

    go : (d : ℕ) → bit s x.bus ≡ d → Once t (woven_from t xs) (reached_from t xs)
        → Once s (unless_seen d x (woven_from t xs)) (reached_from t xs)
    go zero e ih = (ih.0, omega (arith, ih.1, size-add s x.bus e))
    go (suc d) e ih =
        let same : t ≡ s = add_again s x.bus (omega arith) in
        (ap (λ (z : ℕ). reached_from z (woven_from t xs)) (sym same) ∙ ih.0, omega (arith, ih.1, ap size same))

pub woven-reaches : (xs : List Step) → reached (woven xs) ≡ reached xs
woven-reaches xs = (woven-from empty xs).0

pub woven-size : (xs : List Step) → length (woven xs) ≡ size (reached xs)
woven-size xs = omega (arith, (woven-from empty xs).1, size-empty)
