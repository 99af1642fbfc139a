-- Demand 3: weaving any shuffle of lists that are each accepted alone.
-- No reason is named here: that one goes on holding is all that is used.
use mathlib.Core.Path.{◌≡◌, refl, subst, subst⁻¹}
use mathlib.Core.List.{List, [], ◌∷◌}
use mathlib.Core.Logic.{◌⊎◌, inl, inr, ⊎_elim}
use Prim.Native.Nat.{ℕ, zero, suc}
use native.Mathlib.Omega.{arith}
use lib.ListN.{length}
use Rattle.busset.specs.Sets.{bit, In, Out, Sub, empty, add, size}
use Rattle.busset.proofs.Digits.{bit-zero}
use Rattle.busset.proofs.Members.{sub_of, sub_antisym, add-of, add-here, add-grows, add-both, add_again}
use Rattle.step.specs.declared.Step.{Step}
use Rattle.rules.specs.Grids.{Grid}
use Rattle.rules.specs.Observation.{ObservedSet}
use Rattle.rules.specs.Steps.{Holds, reached_from, AcceptedFrom, reached, Accepted, Finished}
use Rattle.basics.specs.Lists.{Each, Some}
use Rattle.rules.specs.Weaving.{unless_seen, woven_from, WeavableFrom, woven, Weavable, TakenFromOne, here, there, Shuffle, none, next}
use Rattle.rules.proofs.Reasons.{holds_more}
use Rattle.rules.proofs.Lists.{reached-grows, accepted-inside, accepted_length, finished-least}

-- ---- no bad step

-- a list with no bad step has none in a larger set
pub weavable-more : (g : Grid) (s t : ℕ) (xs : List Step) → Sub s t → WeavableFrom g s xs → WeavableFrom g t xs
weavable-more g s t [] sub w = tt
weavable-more g s t (x ∷ xs) sub w = (
  λ o. holds_more g s t x.bus sub x.reason (w.0 (omega (arith, sub x.bus))),
  weavable-more g (add s x.bus) (add t x.bus) xs (add-both s t x.bus sub) w.1,
)

pub accepted-weavable : (g : Grid) (s : ℕ) (xs : List Step) → AcceptedFrom g s xs → WeavableFrom g s xs
accepted-weavable g s [] p = tt
accepted-weavable g s (x ∷ xs) p = (λ o. p.0.holds, accepted-weavable g (add s x.bus) xs p.1)

-- the step that is taken holds, and after it every list that is left has no bad step
each_more : (g : Grid) (s t : ℕ) (xss : List (List Step)) → Sub s t → Each (WeavableFrom g s) xss → Each (WeavableFrom g t) xss
each_more g s t [] sub w = tt
each_more g s t (xs ∷ xss) sub w = (weavable-more g s t xs sub w.0, each_more g s t xss sub w.1)

abbrev First : Grid → ℕ → Step → List (List Step) → Type 0
First g s x yss = (Out s x.bus → Holds g s x.bus x.reason) × Each (WeavableFrom g (add s x.bus)) yss

taken-first : (g : Grid) (s : ℕ) {x : Step} {xss yss : List (List Step)} → TakenFromOne x xss yss → Each (WeavableFrom g s) xss
    → First g s x yss
taken-first g s (here {x = x} {xss = xss}) w = (w.0.0, (w.0.1, each_more g s (add s x.bus) xss (add-grows s x.bus) w.1))
taken-first g s (there {x = x} {xs = xs} k) w =
    let f = taken-first g s k w.1 in
    (f.0, (weavable-more g s (add s x.bus) xs (add-grows s x.bus) w.0, f.1))

shuffle-weavable : (g : Grid) (s : ℕ) {xss : List (List Step)} {zs : List Step} → Shuffle xss zs → Each (WeavableFrom g s) xss
    → WeavableFrom g s zs
shuffle-weavable g s (none e) w = tt
shuffle-weavable g s (next {x = x} k r) w =
    let f = taken-first g s k w in
    (f.0, shuffle-weavable g (add s x.bus) r f.1)

-- ---- what is written

-- what is written is accepted, and reaches what the received list names
written : (g : Grid) (s : ℕ) (xs : List Step) → WeavableFrom g s xs
    → AcceptedFrom g s (woven_from s xs) × (reached_from s (woven_from s xs) ≡ reached_from s xs)
written g s [] w = (tt, refl)
written g s (x ∷ xs) w = go (bit s x.bus) refl (written g (add s x.bus) xs w.1)
  where
    go : (d : ℕ) → bit s x.bus ≡ d
        → AcceptedFrom g (add s x.bus) (woven_from (add s x.bus) xs)
        × (reached_from (add s x.bus) (woven_from (add s x.bus) xs) ≡ reached_from (add s x.bus) xs)
        → AcceptedFrom g s (unless_seen d x (woven_from (add s x.bus) xs))
        × (reached_from s (unless_seen d x (woven_from (add s x.bus) xs)) ≡ reached_from (add s x.bus) xs)
    go zero e ih = ((record { new = e; holds = w.0 e }, ih.0), ih.1)
    go (suc d) e ih =
        subst (λ (t : ℕ). AcceptedFrom g t (woven_from (add s x.bus) xs)
        × (reached_from t (woven_from (add s x.bus) xs) ≡ reached_from (add s x.bus) xs))
        (add_again s x.bus (omega arith)) ih

-- ---- the buses that a list names are those that it reaches

abbrev For : ℕ → Step → Type 0
For b x = x.bus ≡ b

reached_for : (s b : ℕ) (xs : List Step) → In (reached_from s xs) b → In s b ⊎ Some (For b) xs
reached_for s b [] h = inl h
reached_for s b (x ∷ xs) h =
    ⊎_elim
    (λ (p : In (add s x.bus) b). add-of {P = λ a. In s a ⊎ ((x.bus ≡ a) ⊎ Some (For b) xs)} s x.bus
    (inr (inl refl)) (λ a m. inl m) b p)
    (λ (p : Some (For b) xs). inr (inr p))
    (reached_for (add s x.bus) b xs h)

for_reached : (s b : ℕ) (xs : List Step) → Some (For b) xs → In (reached_from s xs) b
for_reached s b (x ∷ xs) (inl e) =
    let p : In (add s x.bus) b = subst (In (add s x.bus)) e (add-here s x.bus) in
    omega (arith, reached-grows (add s x.bus) xs b)
for_reached s b (x ∷ xs) (inr p) = for_reached (add s x.bus) b xs p
for_reached s b [] x' = elim x' [ ]

-- ---- a shuffle has the steps of its lists

module _ (P : Step → Type 0) where
  taken_to : {x : Step} {xss yss : List (List Step)} → TakenFromOne x xss yss → P x ⊎ Some (Some P) yss → Some (Some P) xss
  taken_to here (inl p) = inl (inl p)
  taken_to here (inr (inl q)) = inl (inr q)
  taken_to here (inr (inr q)) = inr q
  taken_to (there k) (inl p) = inr (taken_to k (inl p))
  taken_to (there k) (inr (inl q)) = inl q
  taken_to (there k) (inr (inr q)) = inr (taken_to k (inr q))

  taken_from : {x : Step} {xss yss : List (List Step)} → TakenFromOne x xss yss → Some (Some P) xss → P x ⊎ Some (Some P) yss
  taken_from here (inl (inl p)) = inl p
  taken_from here (inl (inr q)) = inr (inl q)
  taken_from here (inr q) = inr (inr q)
  taken_from (there k) (inl q) = inr (inl q)
  taken_from (there k) (inr q) = ⊎_elim (λ p. inl p) (λ r. inr (inr r)) (taken_from k q)

  shuffle_to : {xss : List (List Step)} {zs : List Step} → Shuffle xss zs → Some P zs → Some (Some P) xss
  shuffle_to (next k r) (inl p) = taken_to k (inl p)
  shuffle_to (next k r) (inr q) = taken_to k (inr (shuffle_to r q))
  shuffle_to (none {xss = xss} _) x5 = elim x5 [ ]

  none_left : (xss : List (List Step)) → Each (λ xs. xs ≡ []) xss → Some (Some P) xss → ⊥
  none_left (xs ∷ xss) e (inl p) = subst (Some P) e.0 p
  none_left (xs ∷ xss) e (inr q) = none_left xss e.1 q
  none_left [] e x'' = elim x'' [ ]

  shuffle_from : {xss : List (List Step)} {zs : List Step} → Shuffle xss zs → Some (Some P) xss → Some P zs
  shuffle_from (none {xss = xss} e) q = absurd (none_left xss e q)
  shuffle_from (next k r) q = ⊎_elim (λ p. inl p) (λ t. inr (shuffle_from r t)) (taken_from k q)

  taken_each : {x : Step} {xss yss : List (List Step)} → TakenFromOne x xss yss → Each (Each P) xss → P x × Each (Each P) yss
  taken_each here e = (e.0.0, (e.0.1, e.1))
  taken_each (there k) e = let r = taken_each k e.1 in (r.0, (e.0, r.1))

  pub shuffle_each : {xss : List (List Step)} {zs : List Step} → Shuffle xss zs → Each (Each P) xss → Each P zs
  shuffle_each (none e) q = tt
  shuffle_each (next k r) q = let t = taken_each k q in (t.0, shuffle_each r t.1)

-- ---- several desks

some_to : {P Q : List Step → Type 0} (xss : List (List Step)) → ((xs : List Step) → P xs → Q xs) → Some P xss → Some Q xss
some_to (xs ∷ xss) f (inl p) = inl (f xs p)
some_to (xs ∷ xss) f (inr p) = inr (some_to xss f p)
some_to {P = P} {Q = Q} [] f x'' = elim x'' [ ]

each_to : {P Q : List Step → Type 0} (xss : List (List Step)) → ((xs : List Step) → P xs → Q xs) → Each P xss → Each Q xss
each_to [] f p = tt
each_to (xs ∷ xss) f p = (f xs p.0, each_to xss f p.1)

-- a set that has what each desk reached holds each of those sets
each-inside : (r : ℕ) (xss : List (List Step)) → ((b : ℕ) → Some (λ xs. In (reached xs) b) xss → In r b)
    → Each (λ xs. Sub (reached xs) r) xss
each-inside r [] h = tt
each-inside r (xs ∷ xss) h = (sub_of (reached xs) r (λ b p. h b (inl p)), each-inside r xss (λ b q. h b (inr q)))

-- what follows for any desk follows where something holds of one of them
meets : {P Q R : List Step → Type 0} {S : Type 0} (xss : List (List Step)) → Each P xss → Each Q xss
    → ((xs : List Step) → P xs → Q xs → R xs → S) → Some R xss → S
meets (xs ∷ xss) p q f (inl r) = f xs p.0 q.0 r
meets (xs ∷ xss) p q f (inr r) = meets xss p.1 q.1 f r
meets {P = P} {Q = Q} {R = R} {S = S} [] p q f x4 = elim x4 [ ]

-- on the way: what weaving a shuffle of the desks' lists comes to
pub record Woven (g : Grid) (desks : List (List Step)) (received : List Step) : Type 0 where
  -- it never refuses
  pub weavable : Weavable g received
  -- it writes a list that is itself accepted
  pub accepted : Accepted g (woven received)
  -- which reaches what the received list names
  pub reaches : reached (woven received) ≡ reached received
  -- it ends with exactly the buses at least one desk observed
  pub all : (b : ℕ) → Some (λ xs. In (reached xs) b) desks → In (reached (woven received)) b
  pub only : (b : ℕ) → In (reached (woven received)) b → Some (λ xs. In (reached xs) b) desks
  -- with one step for each
  pub each_once : length (woven received) ≡ size (reached (woven received))
  -- if any desk had finished, that is the observed set
  pub least : Some (λ xs. Finished g (reached xs)) desks → ObservedSet g (reached (woven received))

-- demand 3, for any number of desks
pub weaving_shuffles : (g : Grid) (desks : List (List Step)) (received : List Step) → Each (Accepted g) desks → Shuffle desks received
    → Woven g desks received
weaving_shuffles g desks received ok sh = record {
  weavable = fine;
  accepted = out.0;
  reaches = out.1;
  all = all;
  only = only;
  each_once = accepted_length g (woven received) out.0;
  least = λ f. meets desks ok (each-inside (reached (woven received)) desks all) finished f;
}
  where
    fine : Weavable g received
    fine = shuffle-weavable g empty sh (each_to desks (λ xs p. accepted-weavable g empty xs p) ok)

    out : Accepted g (woven received) × (reached (woven received) ≡ reached received)
    out = written g empty received fine

    all : (b : ℕ) → Some (λ xs. In (reached xs) b) desks → In (reached (woven received)) b
    all b h =
        subst⁻¹ (λ (t : ℕ). In t b) out.1
        (for_reached empty b received
        (shuffle_from (For b) sh
        (some_to desks (λ xs p. ⊎_elim (λ (q : In empty b). absurd (omega (arith, bit-zero b))) (λ (q : Some (For b) xs). q)
        (reached_for empty b xs p)) h)))

    only : (b : ℕ) → In (reached (woven received)) b → Some (λ xs. In (reached xs) b) desks
    only b h =
        ⊎_elim
        (λ (q : In empty b). absurd (omega (arith, bit-zero b)))
        (λ (q : Some (For b) received). some_to desks (λ xs p. for_reached empty b xs p) (shuffle_to (For b) sh q))
        (reached_for empty b received (subst (λ (t : ℕ). In t b) out.1 h))

    -- all stay inside what the finished desk reached
    finished : (xs : List Step) → Accepted g xs → Sub (reached xs) (reached (woven received)) → Finished g (reached xs)
        → ObservedSet g (reached (woven received))
    finished xs p sub f =
        let l = finished-least g xs p f in
        subst (ObservedSet g)
        (sub_antisym (reached xs) (reached (woven received)) sub (accepted-inside g (reached xs) (woven received) l.closed out.0)) l
