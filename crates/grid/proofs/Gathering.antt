-- The neighbours of a set of buses, gathered bus after bus.
use mathlib.Core.Path.{◌≡◌, ap, ◌∙◌}
use Prim.Native.Nat.{ℕ}
use native.Mathlib.Omega.{arith}
use native.Mathlib.Nat.{le_refl}
use Rattle.busset.specs.Sets.{bit, In, Out, Sub, empty, Union, Without}
use Rattle.busset.proofs.Digits.{bit-zero}
use Rattle.busset.proofs.Members.{without-of, without_sub}
use Rattle.grid.specs.Near.{WithNeighbours}

-- near has the neighbours of those of the buses that are not left, and no bus that is next to none of them
pub record Gathered (nbr : ℕ → ℕ) (buses near left : ℕ) : Type 0 where
  pub of : Sub left buses
  pub has : (b : ℕ) → Out left b → In buses b → Sub (nbr b) near
  pub least : (t : ℕ) → ((b : ℕ) → In buses b → Sub (nbr b) t) → Sub near t

pub gathered_none : (nbr : ℕ → ℕ) (buses : ℕ) {near : ℕ} → near ≡ empty → Gathered nbr buses near buses
gathered_none nbr buses {near} e = record {
  of = λ b. le_refl (bit buses b);
  has = λ b o h. absurd (omega arith);
  least = λ t all a. omega (arith, ap (λ (x : ℕ). bit x a) e, bit-zero a);
}

pub gathered-more : {nbr : ℕ → ℕ} {buses near left b m more rest : ℕ} → Gathered nbr buses near left
    → In left b → m ≡ nbr b → Union near m more → Without left b rest → Gathered nbr buses more rest
gathered-more {nbr} {buses} {near} {left} {b} {m} {more} {rest} g here e u w = record {
  of = λ a. omega (arith, without_sub w a, g.of a);
  has = without-of {P = λ c. In buses c → Sub (nbr c) more} w
      (λ h a. omega (arith, u.at a, ap (λ (x : ℕ). bit x a) e)) (λ c o h a. omega (arith, u.at a, g.has c o h a));
  least = λ t all a. omega (arith, u.at a, g.least t all a, ap (λ (x : ℕ). bit x a) e, all b (omega (arith, g.of b)) a);
}

pub gathered-all : {nbr : ℕ → ℕ} {buses near left r : ℕ} → Gathered nbr buses near left → left ≡ empty → Union buses near r
    → WithNeighbours nbr buses r
gathered-all g e u = record {
  own = λ b. omega (arith, u.at b);
  near = λ b h a. omega (arith, u.at a, g.has b (ap (λ (x : ℕ). bit x b) e ∙ bit-zero b) h a);
  least = λ t own all a. omega (arith, u.at a, own a, g.least t all a);
}
