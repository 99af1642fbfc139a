-- The derivation: there is one at most, it is accepted and finished; so it reaches the observed set, with one step for each bus of it.
use Rattle.std.specs.Prelude.{Option, Some, None}
use mathlib.Core.Path.{◌≡◌, refl, sym, ap, ap₂, subst}
use mathlib.Core.List.{List, [], ◌∷◌}
use mathlib.Core.Logic.{inl, inr}
use Prim.Native.Nat.{ℕ}
use native.Mathlib.Nat.{le_antisymm}
use native.Mathlib.Omega.{arith}
use lib.ListN.{length}
use Rattle.busset.specs.Sets.{add, size}
use Rattle.step.specs.declared.Reason.{Reason}
use Rattle.step.specs.declared.Step.{Step}
use Rattle.step.specs.Reasons.{named_by}
use Rattle.step.proofs.Reasons.{reason-unique, same-letter}
use Rattle.rules.specs.Grids.{Grid}
use Rattle.rules.specs.Observation.{ObservedSet}
use Rattle.rules.specs.Steps.{Holds, Allowed, reached_from, AcceptedFrom, reached, Finished}
use Rattle.rules.specs.Derivation.{NamesAtMost, TakenFirst, NextIs, DerivedFrom, finished, next, Derivation}
use Rattle.rules.proofs.Lists.{finished-least, accepted_length}

names_antisym : (x y : Option ℕ) → NamesAtMost x y → NamesAtMost y x → x ≡ y
names_antisym None None a b = refl
names_antisym None (Some q) a b = absurd b
names_antisym (Some p) None a b = absurd a
names_antisym (Some p) (Some q) a b = ap Some (le_antisymm a b)

-- neither comes in an earlier turn: so they have one letter and name one bus, by which a reason is known
before_antisym : (q r : Reason) → TakenFirst q r → TakenFirst r q → q ≡ r
before_antisym q r (inl a) (inl b) = absurd (omega arith)
before_antisym q r (inl a) (inr b) = let e = b.0 in absurd (omega arith)
before_antisym q r (inr a) (inl b) = let e = a.0 in absurd (omega arith)
before_antisym q r (inr a) (inr b) = reason-unique q r (same-letter q r a.0) (names_antisym (named_by q) (named_by r) a.1 b.1)

pub next-unique : {g : Grid} {s : ℕ} (x y : Step) → NextIs g s x → NextIs g s y → x ≡ y
next-unique x y hx hy =
    let e : x.bus ≡ y.bus = le_antisymm (hx.lowest y hy.allowed) (hy.lowest x hx.allowed) in
    let r = before_antisym x.reason y.reason (hx.first y hy.allowed (sym e)) (hy.first x hx.allowed e) in
    λ i. record { bus = e i; reason = r i }

none_after : {g : Grid} {s : ℕ} {ys : List Step} → Finished g s → DerivedFrom g s ys → [] ≡ ys
none_after f (finished h) = refl
none_after f (next {x = x} n d) = absurd (f x n.allowed)

same_after : {g : Grid} {s : ℕ} {ys : List Step} (x : Step) (xs : List Step) → NextIs g s x
    → ((zs : List Step) → DerivedFrom g (add s x.bus) zs → xs ≡ zs)
    → DerivedFrom g s ys → x ∷ xs ≡ ys
same_after x xs n ih (finished f) = absurd (f x n.allowed)
same_after {g} x xs n ih (next {s = s} {x = y} {xs = zs} m d) =
    let e = next-unique x y n m in
    ap₂ (λ (a : Step) (l : List Step). a ∷ l) e (ih zs (subst (λ (z : Step). DerivedFrom g (add s z.bus) zs) (sym e) d))

pub derived-unique : {g : Grid} {s : ℕ} {xs : List Step} → DerivedFrom g s xs → (ys : List Step) → DerivedFrom g s ys → xs ≡ ys
derived-unique (finished f) ys e = none_after f e
derived-unique (next {x = x} {xs = xs} n d) ys e = same_after x xs n (λ zs h. derived-unique d zs h) e

pub derived-accepted : {g : Grid} {s : ℕ} {xs : List Step} → DerivedFrom g s xs → AcceptedFrom g s xs × Finished g (reached_from s xs)
derived-accepted (finished f) = (tt, f)
derived-accepted (next n d) = let r = derived-accepted d in ((n.allowed, r.0), r.1)

-- demand 2 of the derivation
pub derivation-least : (g : Grid) (xs : List Step) → Derivation g xs → ObservedSet g (reached xs)
derivation-least g xs d = let r = derived-accepted d in finished-least g xs r.0 r.1

pub derivation_length : (g : Grid) (xs : List Step) → Derivation g xs → length xs ≡ size (reached xs)
derivation_length g xs d = accepted_length g xs (derived-accepted d).0

-- ---- two grids in which the same reasons hold

pub record SameReasons (g h : Grid) : Type 0 where
  pub to : (s b : ℕ) (r : Reason) → Holds g s b r → Holds h s b r
  pub from : (s b : ℕ) (r : Reason) → Holds h s b r → Holds g s b r

allowed-from : {g h : Grid} {s : ℕ} {x : Step} → SameReasons g h → Allowed h s x → Allowed g s x
allowed-from {s = s} {x = x} k a = record { new = a.new; holds = k.from s x.bus x.reason a.holds }

pub finished-to : {g h : Grid} {s : ℕ} → SameReasons g h → Finished g s → Finished h s
finished-to k f x a = f x (allowed-from k a)

pub next-to : {g h : Grid} {s : ℕ} {x : Step} → SameReasons g h → NextIs g s x → NextIs h s x
next-to {s = s} {x = x} k n = record {
  allowed = record { new = n.allowed.new; holds = k.to s x.bus x.reason n.allowed.holds };
  lowest = λ y a. n.lowest y (allowed-from k a);
  first = λ y a e. n.first y (allowed-from k a) e;
}

pub derived-to : {g h : Grid} {s : ℕ} {xs : List Step} → SameReasons g h → DerivedFrom g s xs → DerivedFrom h s xs
derived-to k (finished f) = finished (finished-to k f)
derived-to k (next n d) = next (next-to k n) (derived-to k d)
