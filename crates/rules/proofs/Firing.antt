-- O2 at one Z bus with the neighbours m, by how many of them s lacks.
use mathlib.Core.Path.{◌≡◌}
use mathlib.Core.Logic.{⊎_elim}
use Prim.Native.Nat.{ℕ}
use native.Mathlib.Omega.{arith}
use Rattle.busset.specs.Sets.{In, Out, Sub, lack, size}
use Rattle.busset.proofs.Members.{in_or, lack-at}
use Rattle.busset.proofs.Sizes.{size-single, size-one}
use Rattle.rules.specs.Observation.{AllBut, Fired}

-- a neighbour that is not in s, with all others there, is the only one that s lacks
only-lack : (m s b : ℕ) → In m b → AllBut m b s → Out s b → size (lack m s) ≡ 1
only-lack m s b h others o =
    size-single (lack m s) b (omega (arith, lack-at m s b))
    (λ a ne. ⊎_elim (λ (p : In m a). omega (arith, lack-at m s a, others a p ne)) (λ (p : Out m a). omega (arith, lack-at m s a))
    (in_or m a))

-- where s does not lack exactly one, there is nothing to give
pub fired-by : (m s : ℕ) → (size (lack m s) ≡ 1 → ⊥) → Fired m s
fired-by m s none b h others = ⊎_elim (λ (p : In s b). p) (λ (p : Out s b). absurd (none (only-lack m s b h others p))) (in_or s b)

-- where s lacks one, all others are in any set that holds s
pub others_in : (m s t b : ℕ) → size (lack m s) ≡ 1 → Sub s t → In m b → Out s b → AllBut m b t
others_in m s t b one sub h o a p ne =
    ⊎_elim
    (λ (q : In s a). omega (arith, sub a))
    (λ (q : Out s a). absurd (ne (size-one (lack m s) a b one (omega (arith, lack-at m s a)) (omega (arith, lack-at m s b)))))
    (in_or s a)
