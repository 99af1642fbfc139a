-- Steps: when a reason holds, when a step is allowed, and lists of steps.
use Rattle.std.specs.Prelude.{List, [], ◌∷◌, ℕ, Option, Some, None}
use Rattle.busset.specs.Sets.{Bus, In, Out, empty, add}
use Rattle.step.specs.declared.Reason.{Reason}
use Rattle.step.specs.declared.Reason.TheVariants.{OwnUnit, NeighbourOf, ZeroInjection}
use Rattle.step.specs.declared.Step.{Step}
use Rattle.step.specs.Reasons.{named_by}
use Rattle.rules.specs.Grids.{Grid}
use Rattle.rules.specs.Observation.{AllBut}

-- ---- one step

-- N p: a unit stands at p, joined to b
pub record ByUnit (neighbours : ℕ → ℕ) (units b p : ℕ) : Type 0 where
  pub unit : In units p
  pub joined : In (neighbours p) b

-- Z w: w is Z, observed, joined to b, and every other neighbour of w is observed
pub record ByZero (neighbours : ℕ → ℕ) (zeros s b w : ℕ) : Type 0 where
  pub class : In zeros w
  pub observed : In s w
  pub joined : In (neighbours w) b
  pub others : AllBut (neighbours w) b s

-- the reason holds for bus b where s is observed
abbrev pub Holds : Grid → ℕ → ℕ → Reason → Type 0
Holds g s b OwnUnit = In g.units b
Holds g s b (NeighbourOf p) = ByUnit g.neighbours g.units b p
Holds g s b (ZeroInjection w) = ByZero g.neighbours g.zeros s b w

-- the step is allowed where s is observed: its bus is not yet observed, and the reason holds
pub record Allowed (g : Grid) (s : ℕ) (x : Step) : Type 0 where
  pub new : Out s x.bus
  pub holds : Holds g s x.bus x.reason

-- the bus that is named, if one is, is 1 to n
abbrev pub BusIfNamed : ℕ → Option ℕ → Type 0
BusIfNamed n None = Unit {0}
BusIfNamed n (Some b) = Bus n b

-- the bus that a reason names, if it names one, is 1 to n
abbrev pub ReasonNames : ℕ → Reason → Type 0
ReasonNames n r = BusIfNamed n (named_by r)

-- the step, in its bus and its reason, names buses 1 to n
pub record Names (n : ℕ) (x : Step) : Type 0 where
  pub bus : Bus n x.bus
  pub reason : ReasonNames n x.reason

-- ---- lists

-- the set that a list reaches from s
abbrev pub reached_from : ℕ → List Step → ℕ
reached_from s [] = s
reached_from s (x ∷ xs) = reached_from (add s x.bus) xs

-- each step is allowed where it stands, from s on
abbrev pub AcceptedFrom : Grid → ℕ → List Step → Type 0
AcceptedFrom g s [] = Unit {0}
AcceptedFrom g s (x ∷ xs) = Allowed g s x × AcceptedFrom g (add s x.bus) xs

-- the set that a list reaches
abbrev pub reached : List Step → ℕ
reached xs = reached_from empty xs

-- the list is accepted
abbrev pub Accepted : Grid → List Step → Type 0
Accepted g xs = AcceptedFrom g empty xs

-- no step is allowed where s is observed
abbrev pub Finished : Grid → ℕ → Type 0
Finished g s = (x : Step) → Allowed g s x → ⊥
