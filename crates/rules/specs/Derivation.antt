-- The derivation: the one fixed finished list.
use Rattle.std.specs.Prelude.{◌≡◌, List, [], ◌∷◌, ◌⊎◌, ℕ, ◌≤◌, ◌<◌, Option, Some, None}
use Rattle.busset.specs.Sets.{empty, add}
use Rattle.step.specs.declared.Reason.{Reason}
use Rattle.step.specs.declared.Step.{Step}
use Rattle.step.specs.Reasons.{named_by, turn_of}
use Rattle.rules.specs.Grids.{Grid}
use Rattle.rules.specs.Steps.{Allowed, Finished}

-- of what two reasons name, the first is no bus, or a bus at most the second
abbrev pub NamesAtMost : Option ℕ → Option ℕ → Type 0
NamesAtMost None y = Unit {0}
NamesAtMost (Some p) None = ⊥
NamesAtMost (Some p) (Some q) = p ≤ q

-- the reason q is taken before r, or is r: O, else N with the lowest p, else Z with the lowest w
abbrev pub TakenFirst : Reason → Reason → Type 0
TakenFirst q r = (turn_of q < turn_of r) ⊎ ((turn_of q ≡ turn_of r) × NamesAtMost (named_by q) (named_by r))

-- x is the next step where s is observed: for the lowest-numbered bus that any rule reaches, with the reason that is taken first
pub record NextIs (g : Grid) (s : ℕ) (x : Step) : Type 0 where
  pub allowed : Allowed g s x
  pub lowest : (y : Step) → Allowed g s y → x.bus ≤ y.bus
  pub first : (y : Step) → Allowed g s y → y.bus ≡ x.bus → TakenFirst x.reason y.reason

-- the list that goes on so from s, until no step is allowed
pub data DerivedFrom (g : Grid) : ℕ → List Step → Type 0 where
  finished : {s : ℕ} → Finished g s → DerivedFrom g s []
  next : {s : ℕ} {x : Step} {xs : List Step} → NextIs g s x → DerivedFrom g (add s x.bus) xs → DerivedFrom g s (x ∷ xs)

-- xs is the derivation
abbrev pub Derivation : Grid → List Step → Type 0
Derivation g xs = DerivedFrom g empty xs
