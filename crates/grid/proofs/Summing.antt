-- The count of the lines, bus after bus.
use mathlib.Core.Path.{◌≡◌, refl, ap, ◌∙◌}
use Prim.Native.Nat.{ℕ, zero, suc, ◌+◌, ◌-◌, ◌*◌, ◌≤◌}
use native.Mathlib.Omega.{arith}
use Rattle.busset.specs.Sets.{size, up_to, width}
use Rattle.rules.specs.Grids.{total, line_count}

total-step : (b : ℕ) (f : ℕ → ℕ) → 1 ≤ b → total b f ≡ total (b - 1) f + f b
unfolding total
total-step zero f l = absurd (omega arith)
total-step (suc b) f l = let e : b ≡ suc b - 1 = omega arith in ap (λ (k : ℕ). total k f + f (suc b)) e

-- sum is the count of the lines whose higher bus is below b
pub record Summed (nbr : ℕ → ℕ) (b sum : ℕ) : Type 0 where
  pub low : 1 ≤ b
  pub is : sum ≡ line_count (b - 1) nbr
  pub most : sum ≤ width * b

pub summed-none : (nbr : ℕ → ℕ) → Summed nbr 1 0
unfolding total
summed-none nbr = record { low = omega arith; is = refl; most = omega arith }

pub summed-more : {nbr : ℕ → ℕ} {b sum r u m : ℕ} → Summed nbr b sum → m ≡ nbr b → u ≡ up_to b m → r ≡ size u → r ≤ width
    → Summed nbr (b + 1) (sum + r)
summed-more {nbr} {b} {sum} {r} {u} {m} s em eu er l = record {
  low = omega arith;
  is =
      let here : r ≡ size (up_to b (nbr b)) = er ∙ ap size eu ∙ ap (λ (x : ℕ). size (up_to b x)) em in
      let step = total-step b (λ a. size (up_to a (nbr a))) s.low in
      let next : line_count (b + 1 - 1) nbr ≡ line_count b nbr = let e : b + 1 - 1 ≡ b = omega arith in ap (λ (k : ℕ). line_count k nbr) e
      in
      omega (arith, s.is, here, step, next);
  most = omega (arith, s.most);
}
