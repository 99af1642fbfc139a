-- What groups say of a set that has one of each: as many items as there are groups apart, and no others where it has no more.
use mathlib.Core.Path.{◌≡◌, ap, ◌∙◌, subst, subst⁻¹}
use mathlib.Core.List.{List}
use Prim.Native.Nat.{ℕ, ◌+◌, ◌≤◌, ◌<◌}
use lib.ListN.{length, get_or}
use native.Mathlib.Omega.{arith}
use Rattle.busset.specs.Sets.{bit, Sub, empty, meet, size, set_of, Union, Both}
use Rattle.busset.specs.Held.{SetWord}
use Rattle.busset.proofs.Digits.{bit-zero}
use Rattle.busset.proofs.Members.{meet-at}
use Rattle.busset.proofs.Sizes.{size-parts}
use Rattle.place_light.specs.Ways.{Meets}
use Rattle.place_light.proofs.Covers.{meets-to, meets-all}
use Rattle.place_pool.specs.Asking.{MeetsKept}

-- a group that has none of those used: one item more
pub apart_more : {used w r v : ℕ} (m : ℕ) → Union used w r → meet w used ≡ empty → Meets w v → m ≤ size (meet used v)
    → m + 1 ≤ size (meet r v)
apart_more {used} {w} {r} {v} m u none met most = omega (arith, met.some, size-parts (meet r v) (meet used v) (meet w v) parts)
  where
    parts : (b : ℕ) → bit (meet r v) b ≡ bit (meet used v) b + bit (meet w v) b
    parts b =
        omega (arith, meet-at r v b, meet-at used v b, meet-at w v b, u.at b, meet-at w used b, ap (λ (s : ℕ). bit s b) none, bit-zero b)

-- of a single item
pub meets-one : (w v : ℕ) → size v ≤ 1 → Meets w v → Sub v w
meets-one w v few met = meets-all w v (omega (arith, met.some))

-- what v has of w, among those left
pub meets-left : {w left r v : ℕ} → Both w left r → Sub v left → Meets w v → Meets r v
meets-left {w} {left} {r} {v} h sub = meets-to r v (λ b i j. (omega (arith, h.at b, sub b), j))

-- the group that is kept at i
pub kept-meets : {pool xs : List SetWord} {units v : ℕ} {w : SetWord} (i : ℕ) → xs ≡ pool → i < length xs → w ≡ get_or xs i w
    → (set_of w ≡ empty → ⊥) → MeetsKept pool units v → meet (set_of w) units ≡ empty → Meets (set_of w) v
kept-meets {pool} {xs} {units} {v} {w} i e l is some kept =
    subst⁻¹ (λ (x : SetWord). (set_of x ≡ empty → ⊥) → meet (set_of x) units ≡ empty → Meets (set_of x) v)
    (is ∙ ap (λ (ys : List SetWord). get_or ys i w) e)
    (kept.met i w (subst (λ (ys : List SetWord). i < length ys) e l)) some
