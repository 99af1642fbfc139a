-- One list of checks after another in document 01's order; the checks of a list of steps are in it.
use Rattle.std.proofs.lemmas.Bool.{eqb-true}
use mathlib.Core.Path.{◌≡◌, refl, sym, ◌∙◌, subst, subst⁻¹}
use mathlib.Core.Bool.{Bool, true, false, cond, ◌||◌}
use mathlib.Core.List.{List, [], ◌∷◌, ◌++◌, append-nil}
use mathlib.Core.Logic.{◌⊎◌, inl, inr}
use Prim.Native.Nat.{ℕ, suc, ◌≤◌, ◌<◌}
use native.Mathlib.Omega.{arith}
use lib.Dec.{lit<, lit≤, eqb}
use lib.ListN.{length}
use Rattle.step.specs.declared.Step.{Step}
use Rattle.busset.specs.Sets.{Out, empty, add}
use Rattle.rules.specs.Steps.{Holds}
use Rattle.rules.specs.Weaving.{woven}
use Rattle.grid.specs.declared.Case.{Case}
use Rattle.grid.specs.Limits.{most_steps}
use Rattle.grid.specs.Cases.{grid_of}
use Rattle.refusals.specs.Refusals.{Check, check_that}
use Rattle.list_follow.specs.Following.{checks_from}
use Rattle.list_follow.specs.Replies.{replay_checks, weave_checks}
use Rattle.list_follow.specs.declared.Task.{Task}
use Rattle.list_follow.specs.declared.Task.TheVariants.{Replay, Weave}
use Rattle.demands.specs.Order.{order, is_of, is_in, group_of, turn_of12, turn, InTable, Precedes, InTableOrder, FirstFails}

-- ---- numbers in the table

group_in : (gs : List (List ℕ)) (k : ℕ) → group_of gs k < length gs → is_in gs k ≡ true
group_in [] k h = absurd (omega (arith, h))
group_in (g ∷ gs) k h = go (is_of g k) (λ l. group_in gs k l) h
  where
    go : (b : Bool) → (group_of gs k < length gs → is_in gs k ≡ true) → cond b 0 (suc (group_of gs k)) < suc (length gs)
        → (b || is_in gs k) ≡ true
    go true rest h = refl
    go false rest h = rest (omega (arith, h))

-- a number that the table does not have comes after all of its ten turns
pub in_table : (q : Check) → turn q ≤ 9 → InTable q
in_table q = go (eqb q.number 12) refl
  where
    go : (b : Bool) → eqb q.number 12 ≡ b → cond b (turn_of12 q.place) (group_of order q.number) ≤ 9 → InTable q
    go true e h = subst⁻¹ (λ (n : ℕ). is_in order n ≡ true) (eqb-true q.number 12 e) refl
    go false e h = group_in order q.number (omega (arith, h))

-- ---- one after another

-- p comes before all that has turn t from place k on
abbrev pub Ahead : ℕ → ℕ → Check → Type 0
Ahead t k p = (turn p < t) ⊎ ((turn p ≡ t) × (p.place < k))

pub ahead_most : {t k : ℕ} (p : Check) → Ahead t k p → turn p ≤ t
ahead_most p (inl h) = omega (arith, h)
ahead_most p (inr h) = omega (arith, h.0)

pub ahead_first : {t k : ℕ} (p : Check) (n : ℕ) → Ahead t k p → turn (check_that ⊥ n k) ≡ t → Precedes p (check_that ⊥ n k)
ahead_first p n (inl h) e = inl (omega (arith, h, e))
ahead_first p n (inr h) e = inr (h.0 ∙ sym e, inl h.1)

-- each of these has at most turn t
abbrev pub TurnsBy : ℕ → List Check → Type 0
TurnsBy t [] = Unit {0}
TurnsBy t (q ∷ qs) = (turn q ≤ t) × TurnsBy t qs

pub then_turn : (t : ℕ) (ps qs : List Check) → TurnsBy t ps → TurnsBy t qs → TurnsBy t (ps ++ qs)
then_turn t [] qs a b = b
then_turn t (p ∷ ps) qs a b = (a.0, then_turn t ps qs a.1 b)

pub turn_more : (t u : ℕ) (ps : List Check) → t ≤ u → TurnsBy t ps → TurnsBy u ps
turn_more t u [] l a = tt
turn_more t u (p ∷ ps) l a = (omega (arith, l, a.0), turn_more t u ps l a.1)

-- what comes after every check of at most turn t
abbrev pub ComesAfter : ℕ → List Check → Type 1
ComesAfter t qs = InTableOrder qs × ((q : Check) → turn q ≤ t → InTableOrder (q ∷ qs))

-- the first of these has a later turn than t
abbrev pub Later : ℕ → List Check → Type 0
Later t [] = Unit {0}
Later t (p ∷ qs) = t < turn p

pub later-follows : (t : ℕ) (qs : List Check) → t ≤ 9 → Later t qs → InTableOrder qs → ComesAfter t qs
later-follows t [] m l o = (tt, λ q h. in_table q (omega (arith, h, m)))
later-follows t (p ∷ qs) m l o = (o, λ q h. (in_table q (omega (arith, h, m)), inl (omega (arith, h, l)), o))

-- one list after another
pub then_ordered : (t : ℕ) (ps qs : List Check) → InTableOrder ps → TurnsBy t ps → ComesAfter t qs → InTableOrder (ps ++ qs)
then_ordered t [] qs o b f = f.0
then_ordered t (p ∷ []) qs o b f = f.1 p b.0
then_ordered t (p ∷ q ∷ ps) qs o b f = (o.0, o.1, then_ordered t (q ∷ ps) qs o.2 b.1 f)

pub then_follows : (t u : ℕ) (ps qs : List Check) → ComesAfter u ps → TurnsBy t ps → u ≤ t → ComesAfter t qs → ComesAfter u (ps ++ qs)
then_follows t u ps qs o b l f =
    (then_ordered t ps qs o.0 b f, λ q h. then_ordered t (q ∷ ps) qs (o.1 q h) (omega (arith, h, l), b) f)

-- ---- the first that fails

-- its turn is at most that of each
pub first-turn : (t : ℕ) (qs : List Check) (n k : ℕ) → TurnsBy t qs → FirstFails qs n k → turn (check_that ⊥ n k) ≤ t
first-turn t (q ∷ qs) n k b (inl f) =
    subst (λ (place : ℕ). turn (check_that ⊥ n place) ≤ t) f.2
    (subst (λ (number : ℕ). turn (check_that ⊥ number q.place) ≤ t) f.1 b.0)
first-turn t (q ∷ qs) n k b (inr f) = first-turn t qs n k b.1 f.1
first-turn t [] n k b x'' = elim x'' [ ]

precedes_trans : (p q r : Check) → Precedes p q → Precedes q r → Precedes p r
precedes_trans p q r (inl a) (inl b) = inl (omega (arith, a, b))
precedes_trans p q r (inl a) (inr b) = inl (omega (arith, a, b.0))
precedes_trans p q r (inr a) (inl b) = inl (omega (arith, a.0, b))
precedes_trans p q r (inr (e, inl a)) (inr (f, inl b)) = inr (e ∙ f, inl (omega (arith, a, b)))
precedes_trans p q r (inr (e, inl a)) (inr (f, inr b)) = inr (e ∙ f, inl (omega (arith, a, b.0)))
precedes_trans p q r (inr (e, inr a)) (inr (f, inl b)) = inr (e ∙ f, inl (omega (arith, a.0, b)))
precedes_trans p q r (inr (e, inr a)) (inr (f, inr b)) = inr (e ∙ f, inr (a.0 ∙ b.0, omega (arith, a.1, b.1)))

-- it comes after what the list comes after
pub first-after : (p : Check) (qs : List Check) (n k : ℕ) → InTableOrder (p ∷ qs) → FirstFails qs n k → Precedes p (check_that ⊥ n k)
first-after p (q ∷ qs) n k o (inl f) =
    subst (λ (place : ℕ). Precedes p (check_that ⊥ n place)) f.2
    (subst (λ (number : ℕ). Precedes p (check_that ⊥ number q.place)) f.1 o.1)
first-after p (q ∷ qs) n k o (inr f) = precedes_trans p q (check_that ⊥ n k) o.1 (first-after q qs n k o.2 f.1)
first-after p [] n k o x'' = elim x'' [ ]

-- ---- the steps of a list

-- the turn of a step's refusals
abbrev step_turn : ℕ
step_turn = 6

-- after p come the steps from k on, and then the rest, where the rest comes after any step
steps_ordered : (task : Task) (c : Case) (rest : List Check) → ((q : Check) → turn q ≤ step_turn → InTableOrder (q ∷ rest))
    → (k s : ℕ) (xs : List Step) (p : Check) → Ahead step_turn k p → InTableOrder (p ∷ (checks_from task c k s xs ++ rest))
steps_ordered task c rest later k s [] p before = later p (ahead_most p before)
steps_ordered Replay c rest later k s (x ∷ xs) p before = (
  in_table p (omega (arith, ahead_most p before)),
  ahead_first p 7 before refl,
  (
    refl,
    inr (refl, inr (refl, lit< tt)),
    (
      refl,
      inr (refl, inr (refl, lit< tt)),
      steps_ordered Replay c rest later (suc k) (add s x.bus) xs
          (check_that (Holds (grid_of c) s x.bus x.reason) 9 k) (inr (refl, omega arith)),
    ),
  ),
)
steps_ordered Weave c rest later k s (x ∷ xs) p before = (
  in_table p (omega (arith, ahead_most p before)),
  ahead_first p 7 before refl,
  (
    refl,
    inr (refl, inr (refl, lit< tt)),
    steps_ordered Weave c rest later (suc k) (add s x.bus) xs
        (check_that (Out s x.bus → Holds (grid_of c) s x.bus x.reason) 9 k) (inr (refl, omega arith)),
  ),
)

pub replay_ordered : (c : Case) (xs : List Step) → InTableOrder (replay_checks c xs)
replay_ordered c xs = (
  refl,
  inl (lit< tt),
  subst (λ (qs : List Check). InTableOrder (check_that (length xs ≤ most_steps) 12 0 ∷ qs)) (append-nil (checks_from Replay c 1 empty xs))
      (steps_ordered Replay c [] (λ q h. in_table q (omega (arith, h))) 1 empty xs (check_that (length xs ≤ most_steps) 12 0)
      (inl (lit< tt))),
)

pub weave_ordered : (c : Case) (xs : List Step) (room : ℕ) → InTableOrder (weave_checks c xs room)
weave_ordered c xs room =
    let last = check_that (length (woven xs) ≤ room) 6 0 ∷ [] in (
      refl,
      inl (lit< tt),
      steps_ordered Weave c last (later-follows step_turn last (lit≤ tt) (lit< tt) refl).1 1 empty xs
          (check_that (length xs ≤ most_steps) 12 0) (inl (lit< tt)),
    )

steps-turn : (c : Case) (k s : ℕ) (xs : List Step) → TurnsBy step_turn (checks_from Replay c k s xs)
steps-turn c k s [] = tt
steps-turn c k s (x ∷ xs) = (lit≤ tt, (lit≤ tt, (lit≤ tt, steps-turn c (suc k) (add s x.bus) xs)))

pub replay-turn : (c : Case) (xs : List Step) → TurnsBy step_turn (replay_checks c xs)
replay-turn c xs = (lit≤ tt, (lit≤ tt, steps-turn c 1 empty xs))

-- replay's come after a text that is read
pub replay-follows : (c : Case) (xs : List Step) → ComesAfter 3 (replay_checks c xs)
replay-follows c xs = later-follows 3 (replay_checks c xs) (lit≤ tt) (lit< tt) (replay_ordered c xs)
