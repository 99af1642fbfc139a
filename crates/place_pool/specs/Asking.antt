-- What the kept groups say of a cover: of a set v of items, whatever an item is.
use Rattle.std.specs.Prelude.{◌≡◌, List, ℕ, ◌+◌, ◌≤◌, ◌<◌}
use Rattle.std.specs.List.{All}
use Rattle.busset.specs.Sets.{Sub, empty, meet, size, set_of}
use Rattle.busset.specs.Held.{SetWord}
use Rattle.place_light.specs.Ways.{Meets}
use Rattle.place_pool.specs.declared.Hints.{Hints}

-- v has an item of each group that the units do not meet
pub record MeetsKept (pool : List SetWord) (units v : ℕ) : Type 0 where
  pub met : All (λ w. (set_of w ≡ empty → ⊥) → meet (set_of w) units ≡ empty → Meets (set_of w) v) pool

-- what the groups that were asked say of v
pub record Says (a : Hints) (v : ℕ) : Type 0 where
  -- its items are some of those left
  pub within : Sub v (set_of a.left)
  -- it has one of each group that was found apart from the others
  pub apart : a.apart ≤ size (meet (set_of a.used) v)
  -- it has one of those to try, once a group was asked
  pub meets : 0 < a.apart → Meets (set_of a.tries) v

-- r says what a does where v has one of w, and v has one of those to try
pub record Smaller (a : Hints) (w : ℕ) (r : Hints) : Type 0 where
  pub apart : r.apart ≡ a.apart
  pub says : (v : ℕ) → Says a v → Meets w v → Says r v
  pub meets : (v : ℕ) → Says a v → Meets w v → Meets (set_of r.tries) v

-- what a says goes on in r, of at most k items that have one of w, and one of those to try
pub record SaysBeside (k : ℕ) (a : Hints) (w : ℕ) (r : Hints) : Type 0 where
  pub most : r.apart ≤ k + 1
  pub says : (v : ℕ) → size v ≤ k → Says a v → Meets (set_of a.tries) v → Meets w v → Says r v

-- what a says goes on in r, of at most k items that have one of w
pub record SaysMore (k : ℕ) (a : Hints) (w : ℕ) (r : Hints) : Type 0 where
  pub most : r.apart ≤ k + 1
  pub says : (v : ℕ) → size v ≤ k → Says a v → Meets w v → Says r v

-- and of those that have one of w only if the units do not meet it
pub record SaysUnmet (k : ℕ) (a : Hints) (w units : ℕ) (r : Hints) : Type 0 where
  pub most : r.apart ≤ k + 1
  pub says : (v : ℕ) → size v ≤ k → Says a v → (meet w units ≡ empty → Meets w v) → Says r v
