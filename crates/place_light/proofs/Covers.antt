-- Covers and groups: ways are covers; a set that satisfies the rules and misses a bus gives a group; one unit more, in a cover or not.
use mathlib.Core.Path.{◌≡◌, ap, ◌∙◌, subst⁻¹}
use mathlib.Core.Logic.{⊎_elim}
use mathlib.Core.List.{List}
use Prim.Native.Nat.{ℕ, ◌-◌, ◌≤◌, ◌<◌}
use native.Mathlib.Omega.{arith}
use Rattle.busset.specs.Sets.{bit, In, Out, Sub, empty, add, less, meet, size, Without}
use Rattle.basics.proofs.Tests.{below_or, same_or}
use Rattle.busset.proofs.Digits.{bit-zero}
use Rattle.busset.proofs.Members.{in_or, out_of, sub_of, less-here, less-there, meet-at, add-here, add-grows, add_sub}
use Rattle.busset.proofs.Sizes.{size-empty, size-le, size_same, size_less, size-some}
use Rattle.rules.specs.Grids.{Grid}
use Rattle.rules.specs.Observation.{ZeroRules, Closed}
use Rattle.rules.specs.Placing.{with_units, Full, placed}
use Rattle.rules.proofs.Covering.{closed-fewer, placed_of, placed_max, size-placed}
use Rattle.place_light.specs.Ways.{Way, NoWay, Meets, Group, direct, Cover, Uncoverable}

-- ---- what units give directly

-- a set that satisfies the rules has what the units that are there give
pub closed-direct : {g : Grid} {c : ℕ} (x : ℕ) → Closed g c → In g.units x → Sub (direct g.neighbours x) c
closed-direct {g} {c} x cl h = add_sub (g.neighbours x) c x (cl.direct.near x h) (cl.direct.own x h)

-- a larger set that has all that Z buses give satisfies the rules too
pub closed-larger : {g : Grid} {c : ℕ} (r : ℕ) → Closed g c → Sub c r → ZeroRules g.neighbours g.zeros r → Closed g r
closed-larger r cl grows fired = record {
  direct = record {
    own = λ b h. omega (arith, cl.direct.own b h, grows b);
    near = λ b h a. omega (arith, cl.direct.near b h a, grows a);
  };
  zeros = fired;
}

-- with more units: what the new ones give is in it too
pub closed-more : (g : Grid) (u : ℕ) {c : ℕ} → Closed g c → ((x : ℕ) → In u x → Out g.units x → Sub (direct g.neighbours x) c)
    → Closed (with_units g u) c
closed-more g u {c} cl gives = record {
  direct = record {
    own = λ b h. omega (arith, all b h b, add-here (g.neighbours b) b);
    near = λ b h a. omega (arith, all b h a, add-grows (g.neighbours b) b a);
  };
  zeros = cl.zeros;
}
  where
    all : (b : ℕ) → In u b → Sub (direct g.neighbours b) c
    all b h = ⊎_elim (λ (p : In g.units b). closed-direct b cl p) (λ (p : Out g.units b). gives b h p) (in_or g.units b)

-- ---- ways are covers

way_cover : {g : Grid} {sites k : ℕ} {xs : List ℕ} → Way g sites k xs → Cover g sites k (placed empty xs)
way_cover {g} {sites} {k} {xs} w = record {
  of = sub_of (placed empty xs) sites (placed_of {P = In sites} 0 xs empty w.rising (λ x h. absurd (omega (arith, bit-zero x))));
  few = omega (arith, size-placed xs empty, size-empty, w.many);
  full = λ s cl gives. w.covers s (closed-more g _ cl (λ x h o. gives x (omega (arith, placed_max xs g.units x))));
}

pub no_cover-way : {g : Grid} {sites k : ℕ} → Uncoverable g sites k → NoWay g sites k
no_cover-way n xs w = n (placed empty xs) (way_cover w)

-- ---- having one of a group

-- what v has of w is none only where every item of v is outside w
pub meets_or : (w v : ℕ) → (((x : ℕ) → In v x → Out w x) → ⊥) → Meets w v
meets_or w v some =
    ⊎_elim (λ (p : size (meet w v) < 1). absurd (some (λ x h. out_of w x (λ i. out p x h i))))
    (λ (p : 1 ≤ size (meet w v)). record { some = omega arith })
    (below_or (size (meet w v)) 1)
  where
    out : size (meet w v) < 1 → (x : ℕ) → In v x → In w x → ⊥
    out p x h i = omega (arith, size-some (meet w v) x (omega (arith, meet-at w v x)))

-- where every item that v has of w is one that u has of r
pub meets-to : {w v : ℕ} (r u : ℕ) → ((b : ℕ) → In w b → In v b → In r b × In u b) → Meets w v → Meets r u
meets-to {w} {v} r u to m = record { some = omega (arith, m.some, size-le (meet w v) (meet r u) (sub_of (meet w v) (meet r u) same)) }
  where
    same : (b : ℕ) → In (meet w v) b → In (meet r u) b
    same b h =
        let both = to b (omega (arith, meet-at w v b)) (omega (arith, meet-at w v b)) in
        omega (arith, meet-at r u b, both.0, both.1)

pub meets-none : {w v : ℕ} → w ≡ empty → Meets w v → ⊥
meets-none {w} {v} e m = omega (arith, m.some, size-empty, size-le (meet w v) empty none)
  where
    none : Sub (meet w v) empty
    none b = omega (arith, meet-at w v b, ap (λ (s : ℕ). bit s b) e, bit-zero b)

-- v has as many items as it has of w, at least
pub meets-few : {w v : ℕ} → Meets w v → 0 < size v
meets-few {w} {v} m = omega (arith, m.some, size-le (meet w v) v (λ b. omega (arith, meet-at w v b)))

-- where v has no more items than it has of q, it has no others
pub meets-all : (q v : ℕ) → size v ≤ size (meet q v) → Sub v q
meets-all q v many b = omega (arith, meet-at q v b, ap (λ (s : ℕ). bit s b) same)
  where
    same : meet q v ≡ v
    same = size_same (meet q v) v (λ b. omega (arith, meet-at q v b)) many

-- ---- groups

-- a set that satisfies the rules and misses a bus: the items that give something outside it are a group
pub closed-group : {g : Grid} {gives : ℕ → ℕ} {items c : ℕ} (w : ℕ) → Closed g c → (Full g.n c → ⊥)
    → ((x : ℕ) → In items x → Out w x → Sub (gives x) c)
    → Group g gives items w
closed-group {g} {gives} {items} {c} w cl misses rest = record {
  met = λ k v cover. meets_or w v
      (λ out. misses (cover.full c cl (λ x h. rest x (let of = cover.of x in omega arith) (out x h))));
}

-- ---- one site, in a cover or not

-- at most the buses of sites, less x or without it, are those left without x
module _ {sites x rest : ℕ} (w : Without sites x rest) where
  pub without-less : (v : ℕ) → Sub v sites → Sub (less v x) rest
  without-less v of c =
      ⊎_elim
      (λ (e : c ≡ x). subst⁻¹ (λ (z : ℕ). bit (less v x) z ≤ bit rest z) e (omega (arith, less-here v x)))
      (λ (ne : c ≡ x → ⊥). omega (arith, less-there v x c ne, w.there c ne, of c))
      (same_or c x)

  pub without_out : (v : ℕ) → Sub v sites → Out v x → Sub v rest
  without_out v of o c =
      ⊎_elim
      (λ (e : c ≡ x). subst⁻¹ (λ (z : ℕ). bit v z ≤ bit rest z) e (omega arith))
      (λ (ne : c ≡ x → ⊥). omega (arith, w.there c ne, of c))
      (same_or c x)

-- a cover that has x is, without it, a cover of what is left to place once x has a unit
pub cover_less : {g : Grid} {sites rest k v : ℕ} (x : ℕ) → Cover g sites k v → In v x → Sub (less v x) rest → 0 < k
    → Cover (with_units g (add g.units x)) rest (k - 1) (less v x)
cover_less {g} {sites} {rest} {k} {v} x w h sub p = record {
  of = sub;
  few = omega (arith, size_less v x h, w.few);
  full = λ s cl gives. w.full s (closed-fewer g (add-grows g.units x) cl)
      (λ y i. ⊎_elim
      (λ (e : y ≡ x). subst⁻¹ (λ (z : ℕ). Sub (direct g.neighbours z) s) e (closed-direct x cl (add-here g.units x)))
      (λ (ne : y ≡ x → ⊥). gives y (less-there v x y ne ∙ i))
      (same_or y x));
}
