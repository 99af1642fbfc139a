-- The observed set: there is one at most, it lies within the grid and has at most n buses, and with no units it is empty.
use mathlib.Core.Path.{◌≡◌, ap}
use Prim.Native.Nat.{ℕ, ◌≤◌}
use native.Mathlib.Omega.{arith}
use Rattle.busset.specs.Sets.{Bus, bit, In, All, empty, size}
use Rattle.busset.proofs.Digits.{bit-zero}
use Rattle.busset.proofs.Members.{sub_of, sub_antisym, empty_sub}
use Rattle.busset.proofs.Sizes.{size-most}
use Rattle.busset.proofs.Words.{all_law}
use Rattle.rules.specs.Grids.{Grid, Proper}
use Rattle.rules.specs.Observation.{Closed, ObservedSet}

pub least-unique : (g : Grid) (s t : ℕ) → ObservedSet g s → ObservedSet g t → s ≡ t
least-unique g s t p q = sub_antisym s t (p.least t q.closed) (q.least s p.closed)

-- with no units the observed set is empty
pub least-empty : (g : Grid) → g.units ≡ empty → ObservedSet g empty
least-empty g e = record {
  closed = record {
    direct = record { own = λ b h. absurd (bare b h); near = λ b h. absurd (bare b h) };
    zeros = record { o2 = λ w z o. absurd (omega (arith, bit-zero w)) };
  };
  least = λ t cl. empty_sub t;
}
  where
    bare : (b : ℕ) → In g.units b → ⊥
    bare b h = omega (arith, ap (λ (u : ℕ). bit u b) e, bit-zero b)

-- the buses of the grid satisfy both rules
pub all_closed : {g : Grid} {a : ℕ} → Proper g → All g.n a → Closed g a
all_closed {g} {a} v all = record {
  direct = record {
    own = λ b h. all.has b (v.units b h);
    near = λ b h. sub_of (g.neighbours b) a (λ c j. all.has c
        (v.lines b c j).to);
  };
  zeros = record { o2 = λ w z o b j rest. all.has b (v.lines w b j).to };
}

-- so the observed set has buses of the grid alone
pub least-bus : {g : Grid} {a s : ℕ} → Proper g → All g.n a → ObservedSet g s → (b : ℕ) → In s b → Bus g.n b
least-bus {g} {a} v all l b h = all.only b (omega (arith, l.least a (all_closed v all) b))

pub observed-few : {g : Grid} {s : ℕ} → Proper g → ObservedSet g s → size s ≤ g.n
observed-few {g} {s} v l = size-most g.n s (least-bus v (all_law g.n) l)
