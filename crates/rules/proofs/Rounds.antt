-- Rounds: those of a grid are one list, which ends at the observed set, and there are no more of them than buses.
-- No law here names a reason.
use mathlib.Core.Path.{◌≡◌, refl, ap₂, subst, subst⁻¹}
use mathlib.Core.List.{List, [], ◌∷◌}
use Prim.Native.Nat.{ℕ, ◌+◌, ◌≤◌}
use native.Mathlib.Omega.{arith}
use lib.ListN.{length}
use Rattle.basics.specs.Lists.{Each}
use Rattle.busset.specs.Sets.{Sub, empty, size}
use Rattle.busset.proofs.Members.{sub_of, empty_sub}
use Rattle.busset.proofs.Sizes.{size-empty}
use Rattle.rules.specs.Grids.{Grid, Proper}
use Rattle.rules.specs.Observation.{Closed, ObservedSet}
use Rattle.rules.specs.Steps.{Finished}
use Rattle.rules.specs.Placing.{placed}
use Rattle.rules.specs.Rounds.{Round, AddsBus, RoundsFrom, RoundsOf, after_rounds}
use Rattle.rules.proofs.Reasons.{holds_more, closed_reasoned}
use Rattle.rules.proofs.Leasts.{observed-few}
use Rattle.rules.proofs.Lists.{finished-closed}
use Rattle.rules.proofs.Covering.{rising-to, placed_of}
use Rattle.rules.proofs.Rising.{rising-unique, size-rising}

-- ---- one round

-- a round adds buses that are not in s, each once
pub round-size : {g : Grid} (s : ℕ) (r : List ℕ) → Round g s r → size (placed s r) ≡ size s + length r
round-size s r p = size-rising 0 r s (rising-to 0 0 r (omega arith) (λ b l h. h.allowed.new) p.rising)

pub adds-some : (r : List ℕ) → AddsBus r → 1 ≤ length r
adds-some [] a = absurd a
adds-some (b ∷ r) a = omega arith

-- a round stays inside every closed set that holds s
round-inside : (g : Grid) (s t : ℕ) (r : List ℕ) → Closed g t → Sub s t → Round g s r → Sub (placed s r) t
round-inside g s t r cl sub p =
    sub_of (placed s r) t
    (placed_of 0 r s
    (rising-to 0 0 r (omega arith)
    (λ b l h. closed_reasoned g t cl b h.reason (holds_more g s t b sub h.reason h.allowed.holds))
    p.rising)
    (λ b h. omega (arith, sub b)))

-- ---- the rounds

pub rounds-unique : (g : Grid) (s : ℕ) (ps qs : List (List ℕ)) → RoundsFrom g s ps → RoundsFrom g s qs → ps ≡ qs
rounds-unique g s [] [] p q = refl
rounds-unique g s [] (r ∷ qs) p q = absurd (subst⁻¹ AddsBus (rising-unique [] r p q.0) q.1)
rounds-unique g s (r ∷ ps) [] p q = absurd (subst AddsBus (rising-unique r [] p.0 q) p.1)
rounds-unique g s (r ∷ ps) (t ∷ qs) p q =
    let e = rising-unique r t p.0 q.0 in
    ap₂ (λ (x : List ℕ) (xs : List (List ℕ)). x ∷ xs) e
    (rounds-unique g (placed s r) ps qs p.2 (subst⁻¹ (λ (x : List ℕ). RoundsFrom g (placed s x) qs) e q.2))

rounds-inside : (g : Grid) (s t : ℕ) (rounds : List (List ℕ)) → Closed g t → Sub s t → RoundsFrom g s rounds → Sub (after_rounds s rounds) t
rounds-inside g s t [] cl sub p = sub
rounds-inside g s t (r ∷ rounds) cl sub p =
    rounds-inside g (placed s r) t rounds cl (round-inside g s t r cl sub p.0) p.2

rounds-finished : (g : Grid) (s : ℕ) (rounds : List (List ℕ)) → RoundsFrom g s rounds → Finished g (after_rounds s rounds)
rounds-finished g s [] p = λ x a. p.all x.bus (record { reason = x.reason; allowed = a })
rounds-finished g s (r ∷ rounds) p = rounds-finished g (placed s r) rounds p.2

-- the last set is the observed set
pub rounds-least : (g : Grid) (rounds : List (List ℕ)) → RoundsOf g rounds → ObservedSet g (after_rounds empty rounds)
rounds-least g rounds p = record {
  closed = finished-closed g (after_rounds empty rounds) (rounds-finished g empty rounds p);
  least = λ t cl. rounds-inside g empty t rounds cl (empty_sub t) p;
}

-- every round adds a bus
pub rounds-add : (g : Grid) (s : ℕ) (rounds : List (List ℕ)) → RoundsFrom g s rounds → Each AddsBus rounds
rounds-add g s [] p = tt
rounds-add g s (r ∷ rounds) p = (p.1, rounds-add g (placed s r) rounds p.2)

rounds_grow : (g : Grid) (s : ℕ) (rounds : List (List ℕ)) → RoundsFrom g s rounds → size s + length rounds ≤ size (after_rounds s rounds)
rounds_grow g s [] p = omega arith
rounds_grow g s (r ∷ rounds) p = omega (arith, round-size s r p.0, adds-some r p.1, rounds_grow g (placed s r) rounds p.2)

-- so there are no more rounds than buses
pub rounds-few : {g : Grid} → Proper g → (rounds : List (List ℕ)) → RoundsOf g rounds → length rounds ≤ g.n
rounds-few {g} v rounds p = omega (arith, rounds_grow g empty rounds p, observed-few v (rounds-least g rounds p), size-empty)
