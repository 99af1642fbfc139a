-- The search for the next step: what the buses and reasons passed say, and which reason is taken first.
-- No law here names a reason: each is about one that has a turn alone (`Alone`), or about those of a turn that name a bus (`Naming`).
use Rattle.std.specs.Prelude.{Option, Some, None}
use mathlib.Core.Path.{◌≡◌, sym, ◌∙◌, subst, subst⁻¹}
use mathlib.Core.Logic.{inl, inr, ⊎_elim}
use Prim.Native.Nat.{ℕ, suc, ◌+◌, ◌≤◌, ◌<◌}
use native.Mathlib.Omega.{arith}
use lib.ListN.{length}
use Rattle.busset.specs.Sets.{Bus}
use Rattle.basics.proofs.Tests.{same_or, below_or}
use Rattle.basics.proofs.Lacking.{Lacks}
use Rattle.step.specs.declared.Reason.{Reason}
use Rattle.step.specs.declared.Step.{Step}
use Rattle.step.specs.Reasons.{named_by, letters, turn_of}
use Rattle.step.proofs.Reasons.{turn-most, Alone, Naming}
use Rattle.rules.specs.Grids.{Grid, Proper}
use Rattle.rules.specs.Steps.{Holds, Allowed, BusIfNamed}
use Rattle.rules.specs.Derivation.{NamesAtMost, TakenFirst}
use Rattle.rules.proofs.Reasons.{holds-names}

-- ---- numbers below k that lack something

lacks-first : {P : ℕ → Type 0} {k : ℕ} → Lacks P k → (q : ℕ) → P q → k ≤ q
lacks-first {P} {k} h q u = ⊎_elim (λ (l : q < k). absurd (h.below q l u)) (λ (l : k ≤ q). l) (below_or q k)

-- a bus that a reason names is a bus of the grid, and 0 is none
named-bus : {f : ℕ → Reason} → Naming f → (g : Grid) (s b p : ℕ) → Proper g → Holds g s b (f p) → Bus g.n p
named-bus {f} k g s b p v h = subst (BusIfNamed g.n) (k.names p) (holds-names g s b v (f p) h)

-- ---- the reasons that fail

-- every reason of a turn before t fails for b
pub record FailsBefore (g : Grid) (s b t : ℕ) : Type 0 where
  pub low : (r : Reason) → Holds g s b r → t ≤ turn_of r

pub fails-none : (g : Grid) (s b : ℕ) → FailsBefore g s b 0
fails-none g s b = record { low = λ r h. omega arith }

-- so does every reason of the turn t
fails_more : {g : Grid} {s b t : ℕ} → FailsBefore g s b t → ((r : Reason) → turn_of r ≡ t → Holds g s b r → ⊥) → FailsBefore g s b (suc t)
fails_more {t = t} p n = record {
  low =
      λ r h. ⊎_elim (λ (e : turn_of r ≡ t). absurd (n r e h)) (λ (ne : turn_of r ≡ t → ⊥). omega (arith, p.low r h))
      (same_or (turn_of r) t);
}

pub fails-alone : {g : Grid} {s b : ℕ} {q : Reason} → Alone q → FailsBefore g s b (turn_of q) → (Holds g s b q → ⊥)
    → FailsBefore g s b (suc (turn_of q))
fails-alone {g} {s} {b} k p n = fails_more p (λ r e h. n (subst (Holds g s b) (k.only r e) h))

pub fails-named : {f : ℕ → Reason} {g : Grid} {s b p : ℕ} → Naming f → Proper g → FailsBefore g s b (turn_of (f 0)) → g.n + 1 ≤ p
    → Lacks (λ a. Holds g s b (f a)) p
    → FailsBefore g s b (suc (turn_of (f 0)))
fails-named {f} {g} {s} {b} {p} k v before l lacks = fails_more before fails
  where
    fails : (r : Reason) → turn_of r ≡ turn_of (f 0) → Holds g s b r → ⊥
    fails r e h =
        let o = k.only r e in
        let held = subst (Holds g s b) o.is h in
        let most = (named-bus k g s b o.bus v held).most in
        lacks.below o.bus (omega arith) held

-- no turn is left
pub none-holds : {g : Grid} {s b : ℕ} → FailsBefore g s b (length letters) → (r : Reason) → Holds g s b r → ⊥
none-holds p r h = omega (arith, p.low r h, turn-most r)

-- ---- the buses passed

-- no step is allowed for a bus below b
pub record Clear (g : Grid) (s b : ℕ) : Type 0 where
  pub low : (y : Step) → Allowed g s y → b ≤ y.bus

-- ---- the first reason that holds

-- r is taken first if every reason of an earlier turn fails, and of its own turn none that holds names a lower bus
first_by : {g : Grid} {s b : ℕ} (r : Reason) → FailsBefore g s b (turn_of r)
    → ((q : Reason) → turn_of q ≡ turn_of r → Holds g s b q → NamesAtMost (named_by r) (named_by q))
    → (q : Reason) → Holds g s b q → TakenFirst r q
first_by r p own q h =
    ⊎_elim (λ (e : turn_of q ≡ turn_of r). inr (sym e, own q e h)) (λ (ne : turn_of q ≡ turn_of r → ⊥). inl (omega (arith, p.low q h)))
    (same_or (turn_of q) (turn_of r))

names_same : (x : Option ℕ) → NamesAtMost x x
names_same None = tt
names_same (Some p) = omega arith

pub first_alone : {g : Grid} {s b : ℕ} {r : Reason} → Alone r → FailsBefore g s b (turn_of r) → (q : Reason) → Holds g s b q
    → TakenFirst r q
first_alone {r = r} k p =
    first_by r p (λ q e h. subst⁻¹ (λ (x : Reason). NamesAtMost (named_by r) (named_by x)) (k.only q e) (names_same (named_by r)))

pub first-named : {f : ℕ → Reason} {g : Grid} {s b p : ℕ} → Naming f → FailsBefore g s b (turn_of (f 0)) → Lacks (λ a. Holds g s b (f a)) p
    → (q : Reason) → Holds g s b q → TakenFirst (f p) q
first-named {f} {g} {s} {b} {p} k before lacks = first_by (f p) (subst⁻¹ (FailsBefore g s b) (k.turn p) before) own
  where
    own : (q : Reason) → turn_of q ≡ turn_of (f p) → Holds g s b q → NamesAtMost (named_by (f p)) (named_by q)
    own q e h =
        let o = k.only q (e ∙ k.turn p) in
        let least = lacks-first lacks o.bus (subst (Holds g s b) o.is h) in
        rw (o.is, k.names p, k.names o.bus) least
