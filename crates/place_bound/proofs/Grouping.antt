-- Trial units, and the group of a set.
use mathlib.Core.Logic.{⊎_elim}
use Prim.Native.Nat.{ℕ}
use native.Mathlib.Omega.{arith}
use Rattle.busset.specs.Sets.{Bus, In, Out, Sub, Within, All, Union, Minus, Both}
use Rattle.busset.proofs.Members.{in_or, sub_of, add_sub}
use Rattle.rules.specs.Grids.{Grid}
use Rattle.rules.specs.Observation.{Closed}
use Rattle.rules.specs.Placing.{Full}
use Rattle.grid.specs.Cases.{Lines}
use Rattle.grid.specs.Near.{WithNeighbours}
use Rattle.observe.specs.Passes.{Spread}
use Rattle.place_light.specs.Ways.{Group, direct}
use Rattle.place_light.proofs.Covers.{closed-larger, closed-group}
use Rattle.place_bound.specs.Shrinking.{Shrunk, Outside, Beside}

-- ---- trial units

pub shrunk-more : {n : ℕ} {nbr : ℕ → ℕ} {zeros c r d : ℕ} → Shrunk n nbr zeros c r → Shrunk n nbr zeros r d → Shrunk n nbr zeros c d
shrunk-more p q = record {
  grows = λ b. omega (arith, p.grows b, q.grows b);
  fired = λ f. q.fired (p.fired f);
  misses = λ l. q.misses (p.misses l);
}

shrunk-closed : {g : Grid} {c r : ℕ} → Closed g c → Shrunk g.n g.neighbours g.zeros c r → Closed g r
shrunk-closed {r = r} cl sh = closed-larger r cl sh.grows (sh.fired cl.zeros)

pub closed-spread : {g : Grid} {c h t d : ℕ} → Closed g c → Union c h t → Spread g.neighbours g.zeros t d → Closed g d
closed-spread {d = d} cl u sp = closed-larger d cl (λ b. omega (arith, u.at b, sp.grows b)) sp.fired

-- ---- the group of a set: a unit at a site that is not on or next to a bus that c misses observes nothing outside c

pub group-by : {n : ℕ} {nbr : ℕ → ℕ} {a sites c dark near r : ℕ} → Lines n nbr → All n a → Minus a c dark → WithNeighbours nbr dark near
    → Both sites near r
    → Within n sites → Outside nbr sites c r
group-by {n} {nbr} {a} {sites} {c} {dark} {near} {r} lines al m st h bus = record {
  rest = λ x i o. add_sub (nbr x) c x
      (sub_of (nbr x) c (λ b j. seen b (lines x b j).to (λ d. omega (arith, st.near b d x, (lines x b j).back, h.at x))))
      (seen x (bus x i) (λ d. omega (arith, st.own x, h.at x)));
}
  where
    seen : (b : ℕ) → Bus n b → (In dark b → ⊥) → In c b
    seen b q no-dark = ⊎_elim (λ (p : In c b). p) (λ (p : Out c b). absurd (no-dark (omega (arith, m.at b, al.has b q)))) (in_or c b)

-- where s satisfies the rules and misses a bus, what is found beside it is a group of the sites
pub beside-group : {g : Grid} {free s r : ℕ} (sites : ℕ) → Closed g s → (Full g.n s → ⊥) → Sub sites free
    → Beside g.n g.neighbours g.zeros free s r
    → Group g (direct g.neighbours) sites r
beside-group {r = r} sites cl misses sub b =
    closed-group r (shrunk-closed cl b.shrunk) (b.shrunk.misses misses) (λ x h. b.outside.rest x (omega (arith, sub x)))
