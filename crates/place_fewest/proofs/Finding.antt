-- One turn of the search: what the call with the lowest site x, and the sites above it, says of all the sites.
use Rattle.std.specs.Prelude.{Option, Some, None}
use mathlib.Core.Path.{◌≡◌, subst, subst⁻¹}
use Prim.Native.Nat.{ℕ, ◌-◌, ◌<◌}
use Rattle.busset.specs.Sets.{Lowest, With, Without, add, set_of}
use Rattle.busset.specs.Held.{SetWord}
use Rattle.busset.proofs.Members.{with-add}
use Rattle.rules.specs.Grids.{Grid}
use Rattle.rules.specs.Placing.{with_units}
use Rattle.place_light.specs.Ways.{FirstWay}
use Rattle.place_light.proofs.Searching.{KeepsWays, first_take, passed_lowest}
use Rattle.place_fewest.specs.Answers.{FoundIs}

module _ (g : Grid) {n sites x rest k units : ℕ} (some : 0 < k) (low : Lowest n sites x) (w : Without sites x rest)
    (u : With g.units x units) (r : Option ℕ) (f : FoundIs (with_units g units) rest (k - 1) r) where
  found : (r' : Option ℕ) → r ≡ r' → FoundIs (with_units g (add g.units x)) rest (k - 1) r'
  found r' q =
      subst (FoundIs (with_units g (add g.units x)) rest (k - 1)) q
      (subst (λ (v : ℕ). FoundIs (with_units g v) rest (k - 1) r) (with-add u) f)

  pub found_take : (m : SetWord) {more : ℕ} → r ≡ Some m → With (set_of m) x more → FirstWay g sites k more
  found_take m q more = subst⁻¹ (FirstWay g sites k) (with-add more) (first_take low w some (found (Some m) q))

  pub found_pass : r ≡ None → KeepsWays g sites k rest
  found_pass q = passed_lowest low w some (found None q)
