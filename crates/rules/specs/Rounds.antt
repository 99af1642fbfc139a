-- Observation in rounds: each round looks at all buses against the set as it stood when the round began,
-- and adds everything that the rules give.
use Rattle.std.specs.Prelude.{◌≡◌, List, [], ◌∷◌, ℕ}
use Rattle.basics.specs.Lists.{Some}
use Rattle.busset.specs.Sets.{empty}
use Rattle.step.specs.declared.Reason.{Reason}
use Rattle.rules.specs.Grids.{Grid}
use Rattle.rules.specs.Steps.{Allowed}
use Rattle.rules.specs.Placing.{Rising, placed}

-- ---- one round

-- the rules give bus b where s is observed: some step for it is allowed
pub record Gives (g : Grid) (s b : ℕ) : Type 0 where
  pub reason : Reason
  pub allowed : Allowed g s (record { bus = b; reason = reason })

-- all the numbers of which P holds, rising
pub record AllRising (P : ℕ → Type 0) (xs : List ℕ) : Type 0 where
  pub rising : Rising P 0 xs
  pub all : (b : ℕ) → P b → Some (λ x. x ≡ b) xs

-- the round that begins with s adds these buses, rising: everything that the rules give there
abbrev pub Round : Grid → ℕ → List ℕ → Type 0
Round g s buses = AllRising (Gives g s) buses

-- ---- the rounds

-- a round adds a bus
abbrev pub AddsBus : List ℕ → Type 0
AddsBus [] = ⊥
AddsBus (b ∷ buses) = Unit {0}

-- the rounds that add a bus, in order, from s on: a round after the last adds none
abbrev pub RoundsFrom : Grid → ℕ → List (List ℕ) → Type 0
RoundsFrom g s [] = Round g s []
RoundsFrom g s (r ∷ rounds) = Round g s r × AddsBus r × RoundsFrom g (placed s r) rounds

-- the rounds of the grid, which begin with no bus observed
abbrev pub RoundsOf : Grid → List (List ℕ) → Type 0
RoundsOf g rounds = RoundsFrom g empty rounds

-- the set as it stands after these rounds from s on
abbrev pub after_rounds : ℕ → List (List ℕ) → ℕ
after_rounds s [] = s
after_rounds s (r ∷ rounds) = after_rounds (placed s r) rounds
