-- One Z bus fires: of its neighbours m exactly one is not in s.
use mathlib.Core.Path.{◌≡◌, ap}
use mathlib.Core.Logic.{⊎_elim}
use Prim.Native.Nat.{ℕ}
use native.Mathlib.Omega.{arith}
use native.Mathlib.Nat.{le_refl}
use Rattle.busset.specs.Sets.{bit, In, Out, lack, size, Union}
use Rattle.busset.proofs.Members.{in_or}
use Rattle.rules.proofs.Firing.{fired-by, others_in}
use Rattle.observe.specs.Passes.{Fires}

pub fires-one : {m s r : ℕ} → size (lack m s) ≡ 1 → Union s m r → Fires m s r
fires-one {m} {s} {r} one u = record {
  grows = λ b. omega (arith, u.at b);
  sound = λ t sub full b. ⊎_elim
      (λ (p : In s b). omega (arith, sub b))
      (λ (p : Out s b). ⊎_elim
      (λ (q : In m b). omega (arith, full b q (others_in m s t b one sub q p)))
      (λ (q : Out m b). omega (arith, u.at b))
      (in_or m b))
      (in_or s b);
  settled = λ e b h others. omega (arith, u.at b, ap (λ (x : ℕ). bit x b) e);
}

pub fires_not : (m s : ℕ) → (size (lack m s) ≡ 1 → ⊥) → Fires m s s
fires_not m s none = record { grows = λ b. le_refl (bit s b); sound = λ t sub full. sub; settled = λ e. fired-by m s none }
