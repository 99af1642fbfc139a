-- What is lit from a bus, and what the set so made is for a grid.
use mathlib.Core.Path.{◌≡◌, ap, subst⁻¹}
use Prim.Native.Nat.{ℕ, ◌≤◌}
use native.Mathlib.Omega.{arith}
use Rattle.busset.specs.Sets.{bit, In, Out, Sub, Union, With, add}
use Rattle.busset.proofs.Members.{add-of, add_sub, add-here, add-grows, with-add}
use Rattle.rules.specs.Grids.{Grid}
use Rattle.rules.specs.Observation.{ObservedSet}
use Rattle.rules.specs.Placing.{with_units}
use Rattle.rules.proofs.Covering.{closed-fewer}
use Rattle.observe.specs.Passes.{Spread}
use Rattle.place_light.specs.Lights.{Lit}
use Rattle.place_light.specs.Ways.{direct}
use Rattle.place_light.proofs.Covers.{closed-larger, closed-more}

-- ---- a unit at x

pub lit-by : {nbr : ℕ → ℕ} {zeros s x m here t r : ℕ} → m ≡ nbr x → With m x here → Union s here t → Spread nbr zeros t r
    → Lit nbr zeros s x r
lit-by {nbr} {zeros} {s} {x} {m} {here} {t} {r} e w j sp = record {
  grows = λ b. omega (arith, j.at b, sp.grows b);
  own = omega (arith, w.here, j.at x, sp.grows x);
  near = λ b. omega (arith, next b, j.at b, sp.grows b);
  fired = sp.fired;
  least = λ v sub own near full. sp.least v (λ b. omega (arith, j.at b, sub b, held v own near b)) full;
}
  where
    next : (b : ℕ) → bit (nbr x) b ≤ bit here b
    next b = omega (arith, ap (λ (y : ℕ). bit y b) e, add-grows m x b, ap (λ (y : ℕ). bit y b) (with-add w))

    held : (v : ℕ) → In v x → Sub (nbr x) v → Sub here v
    held v own near =
        subst⁻¹ (λ (y : ℕ). Sub y v) (with-add w) (add_sub m v x (λ b. omega (arith, near b, ap (λ (y : ℕ). bit y b) e)) own)

-- where s is observed, what is lit is observed with the new unit
pub lit-least : {g : Grid} {s x r : ℕ} → ObservedSet g s → Lit g.neighbours g.zeros s x r
    → ObservedSet (with_units g (add g.units x)) r
lit-least {g} {s} {x} {r} l li = record {
  closed = closed-more g (add g.units x) (closed-larger r l.closed li.grows li.fired) new;
  least = λ t cl. li.least t (l.least t (closed-fewer g (add-grows g.units x) cl))
      (cl.direct.own x (add-here g.units x)) (cl.direct.near x (add-here g.units x)) cl.zeros;
}
  where
    new : (b : ℕ) → In (add g.units x) b → Out g.units b → Sub (direct g.neighbours b) r
    new = add-of {P = λ b. Out g.units b → Sub (direct g.neighbours b) r} g.units x
        (λ o. add_sub (g.neighbours x) r x li.near li.own) (λ b h o. absurd (omega arith))
