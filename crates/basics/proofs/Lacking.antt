-- Numbers below k of which nothing holds: as a loop passes them, one after another.
use mathlib.Core.Path.{◌≡◌, subst}
use mathlib.Core.Logic.{⊎_elim}
use Prim.Native.Nat.{ℕ, ◌+◌, ◌≤◌, ◌<◌}
use native.Mathlib.Omega.{arith}
use Rattle.basics.proofs.Tests.{below_or}

-- P holds of no number below k
pub record Lacks (P : ℕ → Type 0) (k : ℕ) : Type 0 where
  pub below : (q : ℕ) → q < k → P q → ⊥

pub lacks-more : {P : ℕ → Type 0} {k : ℕ} → Lacks P k → (P k → ⊥) → Lacks P (k + 1)
lacks-more {P} {k} h n = record {
  below = λ q l u. ⊎_elim (λ (m : q < k). h.below q m u) (λ (m : k ≤ q). let e : q ≡ k = omega arith in n (subst P e u)) (below_or q k);
}
