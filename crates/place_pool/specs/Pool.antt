-- Groups that are kept.
use Rattle.std.specs.Prelude.{◌≡◌, List, ℕ}
use Rattle.std.specs.List.{All}
use Rattle.busset.specs.Sets.{empty, set_of}
use Rattle.busset.specs.Held.{SetWord}
use Rattle.rules.specs.Grids.{Grid}
use Rattle.place_light.specs.Ways.{Group}

-- each that is not empty is a group
pub record KeptGroups (g : Grid) (gives : ℕ → ℕ) (items : ℕ) (pool : List SetWord) : Type 0 where
  pub groups : All (λ w. (set_of w ≡ empty → ⊥) → Group g gives items (set_of w)) pool

-- those kept are groups if those of the pool are and w is one, or is empty
pub record KeptWith (pool : List SetWord) (w : ℕ) (kept : List SetWord) : Type 0 where
  pub keeps : (g : Grid) (gives : ℕ → ℕ) (items : ℕ) → KeptGroups g gives items pool → ((w ≡ empty → ⊥) → Group g gives items w)
      → KeptGroups g gives items kept
