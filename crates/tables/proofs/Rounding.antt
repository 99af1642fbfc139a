-- Tests of rounds, which the checker computes: 0 where they pass. A round is written as its steps, a bus with a reason for it.
use mathlib.Core.Path.{◌≡◌, refl}
use mathlib.Core.List.{List, [], ◌∷◌, map}
use mathlib.Core.Logic.{inl, inr}
use Prim.Native.Nat.{ℕ, zero, suc, ◌+◌, ◌-◌}
use native.Mathlib.Omega.{arith}
use Rattle.std.specs.Int.{abs_diff}
use Rattle.basics.specs.Lists.{Some}
use Rattle.step.specs.declared.Step.{Step}
use Rattle.rules.specs.Grids.{Grid, Proper, total}
use Rattle.rules.specs.Placing.{Rising, placed}
use Rattle.rules.specs.Rounds.{Gives, RoundsFrom}
use Rattle.rules.proofs.Reasons.{allowed-bus}
use Rattle.tables.proofs.Tests.{total-none, pick, given}
use Rattle.tables.proofs.Deriving.{allowed_test, allowed_passes, no_reason, no-reason}

-- the buses of steps
abbrev pub buses_of : List Step → List ℕ
buses_of xs = map (λ x. x.bus) xs

-- the buses rise, and each step is allowed where s is observed
unfoldable pub rising_test : Grid → ℕ → ℕ → List Step → ℕ
rising_test g s low [] = 0
rising_test g s low (x ∷ xs) = (suc low - x.bus) + allowed_test g s x + rising_test g s x.bus xs

rising_passes : (g : Grid) (s low : ℕ) (xs : List Step) → rising_test g s low xs ≡ 0 → Rising (Gives g s) low (buses_of xs)
unfolding rising_test
rising_passes g s low [] e = tt
rising_passes g s low (x ∷ xs) e = (
  omega arith,
  record { reason = x.reason; allowed = allowed_passes g s x (omega arith) },
  rising_passes g s x.bus xs (omega arith),
)

-- b is one of a list
unfoldable pub among_test : ℕ → List ℕ → ℕ
among_test b [] = 1
among_test b (x ∷ xs) = given (abs_diff x b) (among_test b xs)

among_passes : (b : ℕ) (xs : List ℕ) → among_test b xs ≡ 0 → Some (λ x. x ≡ b) xs
unfolding among_test pick
among_passes b [] e = absurd (omega arith)
among_passes b (x ∷ xs) e = go (abs_diff x b) refl (λ h. among_passes b xs h) e
  where
    go : (d : ℕ) → abs_diff x b ≡ d → (among_test b xs ≡ 0 → Some (λ x. x ≡ b) xs) → given d (among_test b xs) ≡ 0
        → Some (λ x. x ≡ b) (x ∷ xs)
    go zero q later h = inl (omega arith)
    go (suc d) q later h = inr (later h)

-- no reason holds for a bus that is not one of these
unfoldable pub others_test : Grid → ℕ → List ℕ → ℕ
others_test g s xs = total g.n (λ b. given (among_test b xs) (no_reason g s b))

others_pass : (g : Grid) (s : ℕ) (xs : List ℕ) → Proper g → others_test g s xs ≡ 0 → (b : ℕ) → Gives g s b → Some (λ x. x ≡ b) xs
unfolding others_test pick
others_pass g s xs v e b h =
    go (among_test b xs) refl (total-none g.n (λ b. given (among_test b xs) (no_reason g s b)) e b (allowed-bus v h.allowed))
  where
    go : (d : ℕ) → among_test b xs ≡ d → given d (no_reason g s b) ≡ 0 → Some (λ x. x ≡ b) xs
    go zero q z = among_passes b xs q
    go (suc d) q z = absurd (no-reason g v s b h.reason z h.allowed.new h.allowed.holds)

-- the rounds from s on: each adds a bus, and a round after the last adds none
unfoldable pub rounds_test : Grid → ℕ → List (List Step) → ℕ
rounds_test g s [] = others_test g s []
rounds_test g s ([] ∷ rounds) = 1
rounds_test g s ((x ∷ xs) ∷ rounds) =
    rising_test g s 0 (x ∷ xs) + others_test g s (buses_of (x ∷ xs)) + rounds_test g (placed s (buses_of (x ∷ xs))) rounds

pub rounds_pass : (g : Grid) (s : ℕ) (rounds : List (List Step)) → Proper g → rounds_test g s rounds ≡ 0
    → RoundsFrom g s (map buses_of rounds)
unfolding rounds_test
rounds_pass g s [] v e = record { rising = tt; all = others_pass g s [] v e }
rounds_pass g s ([] ∷ rounds) v e = absurd (omega arith)
rounds_pass g s ((x ∷ xs) ∷ rounds) v e = (
  record { rising = rising_passes g s 0 (x ∷ xs) (omega arith); all = others_pass g s (buses_of (x ∷ xs)) v (omega arith) },
  tt,
  rounds_pass g (placed s (buses_of (x ∷ xs))) rounds v (omega arith),
)
