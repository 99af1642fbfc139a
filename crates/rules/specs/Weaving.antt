-- Weaving a received list, and shuffles of the desks' lists.
use Rattle.std.specs.Prelude.{◌≡◌, List, [], ◌∷◌, ℕ, zero, suc}
use Rattle.basics.specs.Lists.{Each}
use Rattle.busset.specs.Sets.{bit, Out, empty, add}
use Rattle.step.specs.declared.Step.{Step}
use Rattle.rules.specs.Grids.{Grid}
use Rattle.rules.specs.Steps.{Holds}

-- ---- weaving

-- a step is written where the digit of its bus is 0, and passed over where it is 1
abbrev pub unless_seen : ℕ → Step → List Step → List Step
unless_seen zero x xs = x ∷ xs
unless_seen (suc d) x xs = xs

-- what weaving writes from s on: in order, each step whose bus is not yet observed
abbrev pub woven_from : ℕ → List Step → List Step
woven_from s [] = []
woven_from s (x ∷ xs) = unless_seen (bit s x.bus) x (woven_from (add s x.bus) xs)

-- no step is bad from s on: the reason of each step holds, where its bus is not yet observed
abbrev pub WeavableFrom : Grid → ℕ → List Step → Type 0
WeavableFrom g s [] = Unit {0}
WeavableFrom g s (x ∷ xs) = (Out s x.bus → Holds g s x.bus x.reason) × WeavableFrom g (add s x.bus) xs

-- what weaving writes
abbrev pub woven : List Step → List Step
woven xs = woven_from empty xs

-- weaving meets no bad step
abbrev pub Weavable : Grid → List Step → Type 0
Weavable g xs = WeavableFrom g empty xs

-- ---- shuffles

-- x is the first step of one of the lists, and the lists after it are those without it
pub data TakenFromOne : Step → List (List Step) → List (List Step) → Type 0 where
  here : {x : Step} {xs : List Step} {xss : List (List Step)} → TakenFromOne x ((x ∷ xs) ∷ xss) (xs ∷ xss)
  there : {x : Step} {xs : List Step} {xss yss : List (List Step)} → TakenFromOne x xss yss → TakenFromOne x (xs ∷ xss) (xs ∷ yss)

-- zs has the steps of all the lists, and those of each list in that list's order
pub data Shuffle : List (List Step) → List Step → Type 0 where
  none : {xss : List (List Step)} → Each (λ xs. xs ≡ []) xss → Shuffle xss []
  next : {x : Step} {xss yss : List (List Step)} {zs : List Step} → TakenFromOne x xss yss → Shuffle yss zs → Shuffle xss (x ∷ zs)
