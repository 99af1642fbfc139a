-- The first check that fails: it is one, it is the refusal that a promise names, and a reply that follows it is by the table.
use Rattle.std.specs.Prelude.{Result, Ok, Err}
use mathlib.Core.Path.{◌≡◌, refl, sym, ◌∙◌, subst}
use mathlib.Core.List.{List, [], ◌∷◌, ◌++◌}
use mathlib.Core.Logic.{◌⊎◌, inl, inr}
use Prim.Native.Nat.{ℕ}
use Rattle.refusals.specs.Refusals.{number_of, place_of, Check, Passed, Failed}
use Rattle.refusals.specs.Calls.{Refuses}
use Rattle.refusals.specs.declared.Refusal.{Refusal}
use Rattle.refusals.proofs.Orders.{itself, passed_then}
use Rattle.demands.specs.Order.{InTableOrder, FirstFails}
use Rattle.demands.specs.ByTable.{ByTable}

-- ---- the first check that fails

-- it has one number and one place
pub first-unique : (qs : List Check) (n p m o : ℕ) → FirstFails qs n p → FirstFails qs m o → (n ≡ m) × (p ≡ o)
first-unique (q ∷ qs) n p m o (inl a) (inl b) = (sym a.1 ∙ b.1, sym a.2 ∙ b.2)
first-unique (q ∷ qs) n p m o (inl a) (inr b) = absurd (a.0 b.0)
first-unique (q ∷ qs) n p m o (inr a) (inl b) = absurd (b.0 a.0)
first-unique (q ∷ qs) n p m o (inr a) (inr b) = first-unique qs n p m o a.1 b.1
first-unique [] n p m o x'' _ = elim x'' [ ]

-- there is none where all pass
pub first_or_passed : (qs : List Check) (n p : ℕ) → FirstFails qs n p → Passed qs → ⊥
first_or_passed (q ∷ qs) n p (inl a) h = a.0 h.0
first_or_passed (q ∷ qs) n p (inr a) h = first_or_passed qs n p a.1 h.1
first_or_passed [] n p x'' h = elim x'' [ ]

-- it is the refusal that a promise names
pub failed-first : (qs : List Check) (r : Refusal) → Failed qs r → FirstFails qs (number_of r) (place_of r)
failed-first (q ∷ qs) r (inl a) = inl (a.0, sym a.1.numbered, sym a.1.placed)
failed-first (q ∷ qs) r (inr a) = inr (a.0, failed-first qs r a.1)
failed-first [] r x' = elim x' [ ]

-- ---- by the table

-- how a call's checks end: all pass and the reply is no refusal, or the reply is that of the first that fails, and of no other
abbrev pub Ends : List Check → (ℕ → ℕ → Type 0) → Type 0
Ends checks Refused =
    (Passed checks × ((n p : ℕ) → Refused n p → ⊥))
    ⊎ ((n : ℕ) × (p : ℕ) × FirstFails checks n p × Refused n p × ((m o : ℕ) → Refused m o → (n ≡ m) × (p ≡ o)))

-- where the checks end so, are in order and a refusal leaves what is lent, the reply is by the table
pub met : {M : Type 0} {before after : M} (checks : List Check) (Refused : ℕ → ℕ → Type 0) → InTableOrder checks
    → ((n p : ℕ) → Refused n p → after ≡ before) → Ends checks Refused
    → ByTable checks Refused before after
met checks Refused order kept (inl a) = record {
  order = order;
  replies = inl a.0;
  given = λ n p h. absurd (a.1 n p h);
  due = λ n p f. absurd (first_or_passed checks n p f a.0);
  kept = kept;
}
met checks Refused order kept (inr (n, p, f, h, one)) = record {
  order = order;
  replies = inr (n, p, f);
  given = λ m o k. let e = one m o k in subst (λ (y : ℕ). FirstFails checks m y) e.1 (subst (λ (x : ℕ). FirstFails checks x p) e.0 f);
  due = λ m o g. let e = first-unique checks n p m o f g in subst (λ (y : ℕ). Refused m y) e.1 (subst (λ (x : ℕ). Refused x p) e.0 h);
  kept = kept;
}

-- ---- a call whose reply is an answer or a refusal

-- a refusal's promise is that the first check that fails gives it, and that what is lent stays; an answer's, that all pass
pub reply-meets : {A M : Type 0} {before after : M} (P : Result A Refusal → Type 0) (checks : List Check) → InTableOrder checks
    → ((q : Refusal) → P (Err q) → Failed checks q × (after ≡ before)) → ((x : A) → P (Ok x) → Passed checks)
    → (r : Result A Refusal) → P r → ByTable checks (Refuses Err r) before after
reply-meets {A = A} {before = before} {after = after} P checks order fails passes r h =
    met checks (Refuses Err r) order (λ n p k. (first r h n p k).1) (ends r h)
  where
    first : (r : Result A Refusal) → P r → (n p : ℕ) → Refuses Err r n p → FirstFails checks n p × (after ≡ before)
    first r h n p (q, e, i) =
        let f = fails q (subst P e h) in (
          subst (λ (y : ℕ). FirstFails checks n y) i.placed
              (subst (λ (x : ℕ). FirstFails checks x (place_of q)) i.numbered (failed-first checks q f.0)),
          f.1,
        )

    ends : (r : Result A Refusal) → P r → Ends checks (Refuses Err r)
    ends (Ok x) h = let a = passes x h in inl (a, λ n p k. first_or_passed checks n p (first (Ok x) h n p k).0 a)
    ends (Err q) h =
        let k : Refuses {R = Result A Refusal} Err (Err q) (number_of q) (place_of q) = (q, refl, itself q) in
        let f = (first (Err q) h (number_of q) (place_of q) k).0 in
        inr (number_of q, place_of q, f, k, λ m o j. first-unique checks (number_of q) (place_of q) m o f (first (Err q) h m o j).0)

-- ---- one list of checks after another

first-later : (ps qs : List Check) (n k : ℕ) → Passed ps → FirstFails qs n k → FirstFails (ps ++ qs) n k
first-later [] qs n k a f = f
first-later (p ∷ ps) qs n k a f = inr (a.0, first-later ps qs n k a.1 f)

first_sooner : (ps qs : List Check) (n k : ℕ) → FirstFails ps n k → FirstFails (ps ++ qs) n k
first_sooner (p ∷ ps) qs n k (inl f) = inl f
first_sooner (p ∷ ps) qs n k (inr f) = inr (f.0, first_sooner ps qs n k f.1)
first_sooner [] qs n k x' = elim x' [ ]

-- the first list passes, and the second ends so
pub ends-later : (ps qs : List Check) (Refused : ℕ → ℕ → Type 0) → Passed ps → Ends qs Refused → Ends (ps ++ qs) Refused
ends-later ps qs Refused a (inl b) = inl (passed_then ps qs a b.0, b.1)
ends-later ps qs Refused a (inr (n, k, f, h, one)) = inr (n, k, first-later ps qs n k a f, h, one)

-- the first list ends with a refusal
pub ends_sooner : (ps qs : List Check) (Refused : ℕ → ℕ → Type 0) (n k : ℕ) → FirstFails ps n k → Refused n k
    → ((m o : ℕ) → Refused m o → (n ≡ m) × (k ≡ o)) → Ends (ps ++ qs) Refused
ends_sooner ps qs Refused n k f h one = inr (n, k, first_sooner ps qs n k f, h, one)

-- the first that fails is in the first list, or the first list passes
pub first_in : (ps qs : List Check) (n k : ℕ) → FirstFails (ps ++ qs) n k → FirstFails ps n k ⊎ (Passed ps × FirstFails qs n k)
first_in [] qs n k f = inr (tt, f)
first_in (p ∷ ps) qs n k (inl f) = inl (inl f)
first_in (p ∷ ps) qs n k (inr f) = go (first_in ps qs n k f.1)
  where
    go : FirstFails ps n k ⊎ (Passed ps × FirstFails qs n k) → FirstFails (p ∷ ps) n k ⊎ (Passed (p ∷ ps) × FirstFails qs n k)
    go (inl g) = inl (inr (f.0, g))
    go (inr g) = inr ((f.0, g.0), g.1)
