-- Covers: as the units change, and against the observed set. Rising lists of sites, and the units with them.
use mathlib.Core.Path.{◌≡◌, ap}
use mathlib.Core.Logic.{⊎_elim}
use mathlib.Core.List.{List, [], ◌∷◌}
use Prim.Native.Nat.{ℕ, suc, ◌+◌, ◌≤◌, ◌<◌, ◌^◌, max}
use native.Mathlib.Omega.{arith}
use lib.ListN.{length}
use Rattle.busset.specs.Sets.{bit, In, Out, Sub, empty, add, size}
use Rattle.busset.proofs.Digits.{bit-or, bit-zero, ext}
use Rattle.busset.proofs.Members.{in_or, add-of, add_again}
use Rattle.busset.proofs.Sizes.{size-add}
use Rattle.rules.specs.Grids.{Grid}
use Rattle.rules.specs.Observation.{Closed, ObservedSet}
use Rattle.rules.specs.Placing.{with_units, Full, Covers, Rising, placed}

-- ---- more units

-- a set that satisfies the rules for more units satisfies them for fewer
pub closed-fewer : (g : Grid) {u v s : ℕ} → Sub u v → Closed (with_units g v) s → Closed (with_units g u) s
closed-fewer g {u} {v} {s} sub cl = record {
  direct = record { own = λ b h. cl.direct.own b (omega (arith, sub b)); near = λ b h. cl.direct.near b (omega (arith, sub b)) };
  zeros = cl.zeros;
}

-- units cover exactly when the observed set has all buses
pub covers-full : (g : Grid) {u s : ℕ} → ObservedSet (with_units g u) s → Covers g u → Full g.n s
covers-full g {u} {s} l c = c s l.closed

pub full-covers : (g : Grid) {u s : ℕ} → ObservedSet (with_units g u) s → Full g.n s → Covers g u
full-covers g l full t cl b bus = omega (arith, l.least t cl b, full b bus)

-- ---- rising lists

-- another condition, and a lower start
pub rising-to : {P Q : ℕ → Type 0} (low from : ℕ) (xs : List ℕ) → from ≤ low → ((x : ℕ) → low < x → P x → Q x) → Rising P low xs
    → Rising Q from xs
rising-to low from [] l h r = tt
rising-to low from (x ∷ xs) l h r =
    (omega (arith, r.0), h x r.0 r.1, rising-to x x xs (omega arith) (λ y m. h y (omega (arith, r.0))) r.2)

-- a higher start, where P says so
pub rising-above : {P : ℕ → Type 0} (low : ℕ) (xs : List ℕ) → ((x : ℕ) → P x → low < x) → Rising P 0 xs → Rising P low xs
rising-above low [] h r = tt
rising-above low (x ∷ xs) h r = (h x r.1, r.1, r.2)

-- ---- the units with a list of sites

-- what holds of u and of the numbers of a list holds of u with them
pub placed_of : {P : ℕ → Type 0} (low : ℕ) (xs : List ℕ) (u : ℕ) → Rising P low xs → ((x : ℕ) → In u x → P x) → (x : ℕ) → In (placed u xs) x
    → P x
placed_of low [] u r h = h
placed_of low (x ∷ xs) u r h = placed_of x xs (add u x) r.2 (add-of u x r.1 h)

-- the numbers of a list come beside what is there
pub placed_max : (xs : List ℕ) (u b : ℕ) → bit (placed u xs) b ≡ max (bit u b) (bit (placed empty xs) b)
unfolding add
placed_max [] u b = omega (arith, bit-zero b)
placed_max (x ∷ xs) u b =
    omega (arith, placed_max xs (add u x) b, placed_max xs (add 0 x) b, bit-or u (2 ^ x) b, bit-or 0 (2 ^ x) b, bit-zero b)

-- the first number of a list may come last
pub placed-last : (x : ℕ) (xs : List ℕ) → placed empty (x ∷ xs) ≡ add (placed empty xs) x
unfolding add
placed-last x xs =
    ext (placed (add 0 x) xs) (add (placed 0 xs) x)
    (λ b. omega (arith, placed_max xs (add 0 x) b, bit-or 0 (2 ^ x) b, bit-or (placed 0 xs) (2 ^ x) b, bit-zero b))

-- one bus more is at most one more
pub size-add-most : (u x : ℕ) → size (add u x) ≤ suc (size u)
size-add-most u x =
    ⊎_elim (λ (h : In u x). omega (arith, ap size (add_again u x h))) (λ (h : Out u x). omega (arith, size-add u x h)) (in_or u x)

-- and the numbers of a list are at most as many more as it has
pub size-placed : (xs : List ℕ) (u : ℕ) → size (placed u xs) ≤ size u + length xs
size-placed [] u = omega arith
size-placed (x ∷ xs) u = omega (arith, size-placed xs (add u x), size-add-most u x)
