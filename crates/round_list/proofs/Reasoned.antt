-- Whether some reason holds for a bus: O, or one that names a bus. A later reason has its own case in `reason-names`,
-- and one that names a bus in `named-reason` too.
use mathlib.Core.Path.{◌≡◌, subst, subst⁻¹}
use mathlib.Core.Bool.{Bool, true, false}
use mathlib.Core.Logic.{◌⊎◌, inl, inr}
use Prim.Native.Nat.{ℕ, ◌+◌, ◌-◌, ◌<◌}
use native.Mathlib.Omega.{arith}
use lib.ListN.{length}
use Rattle.std.specs.Bool.{MatchBool}
use Rattle.std.specs.List.{range_with_len, HoldsAt, AllWithin}
use Rattle.std.proofs.lemmas.List.FromFn.{length-range_with_len, get_or-range_with_len}
use Rattle.basics.specs.Deciding.{Decides}
use Rattle.basics.proofs.Tests.{decides-by, decides-yes, decides-no}
use Rattle.busset.specs.Sets.{Bus}
use Rattle.step.specs.declared.Reason.{Reason}
use Rattle.step.specs.declared.Reason.TheVariants.{OwnUnit, NeighbourOf, ZeroInjection}
use Rattle.rules.specs.Grids.{Grid, Proper}
use Rattle.rules.specs.Steps.{Holds}
use Rattle.rules.proofs.Reasons.{holds-names}
use Rattle.round_list.specs.Rounds.{SomeReason}

-- P holds of one of the buses 1 to n
pub record OfSomeBus (n : ℕ) (P : ℕ → Type 0) : Type 0 where
  pub bus : ℕ
  pub is : Bus n bus
  pub holds : P bus

-- what `any` over these buses answers
pub decides-any : {P : ℕ → Type 0} (n : ℕ) (r : Bool)
    → MatchBool r ((k : ℕ) × (k < length (range_with_len 1 n)) × HoldsAt P (range_with_len 1 n) k)
    (AllWithin (λ p. P p → ⊥) (range_with_len 1 n) 0 (length (range_with_len 1 n)))
    → Decides (OfSomeBus n P) r
decides-any {P} n true (k, l, h) =
    let few : k < n = omega (arith, l, length-range_with_len 1 n) in
    decides-yes (record {
      bus = 1 + k;
      is = record { some = omega arith; most = omega arith };
      holds = subst P (get_or-range_with_len 1 n k 0 few) (h 0);
    })
decides-any {P} n false none =
    decides-no (λ s.
    let few : s.bus - 1 < n = omega (arith, s.is.some, s.is.most) in
    none (s.bus - 1) 0 (omega arith) (omega (arith, length-range_with_len 1 n))
    (subst⁻¹ P (get_or-range_with_len 1 n (s.bus - 1) 0 few)
    (let e : 1 + (s.bus - 1) ≡ s.bus = omega (arith, s.is.some) in subst⁻¹ P e s.holds)))

-- a reason that names p holds for b where s is observed
abbrev pub NamedHolds : Grid → ℕ → ℕ → ℕ → Type 0
NamedHolds g s b p = Holds g s b (NeighbourOf p) ⊎ Holds g s b (ZeroInjection p)

named-reason : {g : Grid} {s b p : ℕ} → NamedHolds g s b p → SomeReason g s b
named-reason {p = p} (inl h) = record { reason = NeighbourOf p; holds = h }
named-reason {p = p} (inr h) = record { reason = ZeroInjection p; holds = h }

reason-names : {g : Grid} {s b : ℕ} → Proper g → (Holds g s b OwnUnit → ⊥) → (r : Reason) → Holds g s b r
    → OfSomeBus g.n (NamedHolds g s b)
reason-names v own OwnUnit h = absurd (own h)
reason-names {g} {s} {b} v own (NeighbourOf q) h = record { bus = q; is = holds-names g s b v (NeighbourOf q) h; holds = inl h }
reason-names {g} {s} {b} v own (ZeroInjection w) h = record { bus = w; is = holds-names g s b v (ZeroInjection w) h; holds = inr h }

-- where O does not hold, some reason holds exactly if one that names a bus does
pub some-reason : {g : Grid} {s b : ℕ} {r : Bool} → Proper g → (Holds g s b OwnUnit → ⊥)
    → Decides (OfSomeBus g.n (NamedHolds g s b)) r → Decides (SomeReason g s b) r
some-reason v own d = decides-by (λ n. named-reason n.holds) (λ h. reason-names v own h.reason h.holds) d
