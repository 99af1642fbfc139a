-- Greedy placement: the site that greedy adds, and the list of those that it adds one after another.
use Rattle.std.specs.Prelude.{List, [], ◌∷◌, ℕ, zero, suc, ◌≤◌, ◌<◌}
use Rattle.busset.specs.Sets.{size, add}
use Rattle.rules.specs.Grids.{Grid}
use Rattle.rules.specs.Observation.{ObservedSet}
use Rattle.rules.specs.Placing.{with_units, Free}

-- a new unit may go on x, and t is observed with it
pub record WithSite (g : Grid) (x t : ℕ) : Type 0 where
  pub free : Free g x
  pub observed : ObservedSet (with_units g (add g.units x)) t

-- a new unit on x makes the observed set largest, and x has the lowest number on a tie; it adds a bus
pub record Best (g : Grid) (x : ℕ) : Type 0 where
  pub before : ℕ
  pub after : ℕ
  pub observed : ObservedSet g before
  pub with : WithSite g x after
  pub adds : size before < size after
  pub largest : (y t : ℕ) → WithSite g y t → size t ≤ size after
  pub lowest : (y t : ℕ) → WithSite g y t → y < x → size t < size after

-- no site adds a bus
abbrev pub NoneAdds : Grid → Type 0
NoneAdds g = (y s t : ℕ) → ObservedSet g s → WithSite g y t → size t ≤ size s

-- xs is what greedy adds, in order: it stops when the budget is spent or no site adds a bus
abbrev pub GreedyList : Grid → ℕ → List ℕ → Type 0
GreedyList g zero [] = Unit {0}
GreedyList g zero (x ∷ xs) = ⊥
GreedyList g (suc budget) [] = NoneAdds g
GreedyList g (suc budget) (x ∷ xs) = Best g x × GreedyList (with_units g (add g.units x)) budget xs
