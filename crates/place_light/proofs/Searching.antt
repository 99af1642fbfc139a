-- The search for the fewest: ways with the lowest of the sites and ways without it, and size after size.
use mathlib.Core.Path.{◌≡◌, refl, sym, ap, ◌∙◌, subst, subst⁻¹}
use mathlib.Core.Logic.{inl, inr, ⊎_elim}
use mathlib.Core.List.{List, [], ◌∷◌}
use Prim.Native.Nat.{ℕ, ◌+◌, ◌-◌, ◌≤◌, ◌<◌}
use native.Mathlib.Omega.{arith}
use native.Mathlib.Nat.{le_refl}
use lib.ListN.{length}
use Rattle.busset.specs.Sets.{bit, In, Sub, empty, add, Lowest, Without, Minus}
use Rattle.basics.proofs.Tests.{same_or, below_or}
use Rattle.busset.proofs.Digits.{bit-zero}
use Rattle.busset.proofs.Members.{without_sub}
use Rattle.rules.specs.Grids.{Grid}
use Rattle.rules.specs.Placing.{with_units, Covers, Rising, Addition, Before, Earlier, FewestSites, SomeAddition}
use Rattle.rules.proofs.Covering.{rising-to, rising-above, placed-last}
use Rattle.place_light.specs.Ways.{Way, NoWay, FirstWay}

-- ---- no more to place

pub way-none : {g : Grid} {sites k m : ℕ} → k ≡ 0 → m ≡ empty → Covers g g.units → FirstWay g sites k m
way-none z e c = record { list = []; set = e; way = record { rising = tt; many = sym z; covers = c }; first = λ ys w. tt }

pub no-way-none : {g : Grid} {sites k : ℕ} → k ≡ 0 → (Covers g g.units → ⊥) → NoWay g sites k
no-way-none z n [] w = n w.covers
no-way-none z n (x ∷ xs) w = omega (arith, w.many)

-- ---- no site left

pub no-way-left : {g : Grid} {sites k : ℕ} → sites ≡ empty → 0 < k → NoWay g sites k
no-way-left e p [] w = omega (arith, w.many)
no-way-left e p (x ∷ xs) w = omega (arith, w.rising.1, ap (λ (s : ℕ). bit s x) e, bit-zero x)

-- ---- fewer sites

-- rest has every way of the sites, and is some of them
pub record KeepsWays (g : Grid) (sites k rest : ℕ) : Type 0 where
  pub of : Sub rest sites
  pub ways : (xs : List ℕ) → Way g sites k xs → Way g rest k xs

pub passed_none : (g : Grid) (sites k : ℕ) → KeepsWays g sites k sites
passed_none g sites k = record { of = λ b. le_refl (bit sites b); ways = λ xs w. w }

pub passed-more : {g : Grid} {sites k rest less : ℕ} → KeepsWays g sites k rest → KeepsWays g rest k less → KeepsWays g sites k less
passed-more p q = record { of = λ b. omega (arith, p.of b, q.of b); ways = λ xs w. q.ways xs (p.ways xs w) }

pub passed-no : {g : Grid} {sites k rest : ℕ} → KeepsWays g sites k rest → NoWay g rest k → NoWay g sites k
passed-no p n xs w = n xs (p.ways xs w)

pub passed_first : {g : Grid} {sites k rest m : ℕ} → KeepsWays g sites k rest → FirstWay g rest k m → FirstWay g sites k m
passed_first p f = record {
  list = f.list;
  set = f.set;
  way = record {
    rising = rising-to 0 0 f.list (omega arith) (λ x l h. omega (arith, p.of x)) f.way.rising;
    many = f.way.many;
    covers = f.way.covers;
  };
  first = λ ys w. f.first ys (p.ways ys w);
}

-- ---- the lowest site x, and the sites above it

module _ {n sites x rest : ℕ} (low : Lowest n sites x) (w : Without sites x rest) where
  above : (y : ℕ) → In rest y → x < y
  above y h =
      ⊎_elim (λ (l : x < y). l)
      (λ (l : y ≤ x). ⊎_elim
      (λ (m : y < x). absurd (omega (arith, without_sub w y, low.below y m)))
      (λ (m : x ≤ y). let e : y ≡ x = omega arith in absurd (omega (arith, ap (bit rest) e, w.here)))
      (below_or y x))
      (below_or x y)

  stays : (y : ℕ) → x < y → In sites y → In rest y
  stays y l h = w.there y (λ e. omega arith) ∙ h

  -- of a list of the sites, only the first can be x
  later : (xs : List ℕ) → Rising (In sites) x xs → Rising (In rest) 0 xs
  later xs r = rising-to x 0 xs (omega arith) stays r

  earlier : (xs : List ℕ) → Rising (In rest) 0 xs → Rising (In sites) x xs
  earlier xs r = rising-to x x xs (omega arith) (λ y l h. omega (arith, without_sub w y)) (rising-above x xs above r)

  module _ {g : Grid} {k : ℕ} where
    -- a way that begins with x is a way of the sites above it once x has a unit, and the other way round
    way_rest : {xs : List ℕ} → Way g sites k (x ∷ xs) → Way (with_units g (add g.units x)) rest (k - 1) xs
    way_rest {xs} v = record { rising = later xs v.rising.2; many = omega (arith, v.many); covers = v.covers }

    way_with : {xs : List ℕ} → 0 < k → Way (with_units g (add g.units x)) rest (k - 1) xs → Way g sites k (x ∷ xs)
    way_with {xs} p v = record {
      rising = (low.bus.some, low.has, earlier xs v.rising);
      many = omega (arith, v.many);
      covers = v.covers;
    }

    -- the first way with x is the first of all
    pub first_take : {m : ℕ} → 0 < k → FirstWay (with_units g (add g.units x)) rest (k - 1) m → FirstWay g sites k (add m x)
    first_take {m} p f = record {
      list = x ∷ f.list;
      set = ap (λ (s : ℕ). add s x) f.set ∙ sym (placed-last x f.list);
      way = way_with p f.way;
      first = before;
    }
      where
        before : (ys : List ℕ) → Way g sites k ys → Before (x ∷ f.list) ys
        before [] v = absurd (omega (arith, v.many))
        before (y ∷ ys) v =
            ⊎_elim
            (λ (e : y ≡ x). inr (sym e, f.first ys (way_rest (subst (λ (z : ℕ). Way g sites k (z ∷ ys)) e v))))
            (λ (ne : y ≡ x → ⊥). inl (above y (w.there y ne ∙ v.rising.1)))
            (same_or y x)

    -- where no way begins with x, the ways are those of the sites above it
    pub passed_lowest : 0 < k → NoWay (with_units g (add g.units x)) rest (k - 1) → KeepsWays g sites k rest
    passed_lowest p n = record { of = without_sub w; ways = past p n }
      where
        past : 0 < k → NoWay (with_units g (add g.units x)) rest (k - 1) → (ys : List ℕ) → Way g sites k ys → Way g rest k ys
        past p n [] v = absurd (omega (arith, v.many))
        past p n (y ∷ ys) v =
            ⊎_elim
            (λ (e : y ≡ x). absurd (n ys (way_rest (subst (λ (z : ℕ). Way g sites k (z ∷ ys)) e v))))
            (λ (ne : y ≡ x → ⊥).
            let l = above y (w.there y ne ∙ v.rising.1) in
            record {
              rising = (
                v.rising.0,
                stays y l v.rising.1,
                rising-to y y ys (omega arith) (λ z m h. stays z (omega arith) h) v.rising.2,
              );
              many = v.many;
              covers = v.covers;
            })
            (same_or y x)

-- ---- size after size, over the sites where a new unit may go

-- there is no way of fewer than k of them
pub record NoFewer (g : Grid) (free k : ℕ) : Type 0 where
  pub low : (j : ℕ) → j < k → NoWay g free j

pub no-fewer-none : (g : Grid) (free : ℕ) → NoFewer g free 0
no-fewer-none g free = record { low = λ j l. absurd (omega arith) }

pub no-fewer-more : {g : Grid} {free k : ℕ} → NoFewer g free k → NoWay g free k → NoFewer g free (k + 1)
no-fewer-more {g} {free} {k} h n = record {
  low = λ j l. ⊎_elim (λ (m : j < k). h.low j m) (λ (m : k ≤ j). let e : j ≡ k = omega arith in subst⁻¹ (NoWay g free) e n) (below_or j k);
}

module _ {g : Grid} {free : ℕ} (m : Minus g.sites g.units free) where
  -- an addition is a way of as many sites as it has
  addition_way : {budget : ℕ} {xs : List ℕ} → Addition g budget xs → Way g free (length xs) xs
  addition_way {xs = xs} p = record {
    rising = rising-to 0 0 xs (omega arith) (λ x l f. omega (arith, m.at x, f.site, f.bare)) p.rising;
    many = refl;
    covers = p.covers;
  }

  way_addition : {budget k : ℕ} {xs : List ℕ} → k ≤ budget → Way g free k xs → Addition g budget xs
  way_addition {xs = xs} l w = record {
    within = omega (arith, w.many);
    rising = rising-to 0 0 xs (omega arith) (λ x l h. record { site = omega (arith, m.at x); bare = omega (arith, m.at x) }) w.rising;
    covers = w.covers;
  }

  -- the first way of the smallest size is the fewest
  pub first_fewest : {budget k s : ℕ} → k ≤ budget → NoFewer g free k → FirstWay g free k s → FewestSites g budget s
  first_fewest {budget} {k} l none f = record { list = f.list; set = f.set; addition = way_addition l f.way; first = first }
    where
      first : (ys : List ℕ) → Addition g budget ys → Earlier f.list ys
      first ys p =
          ⊎_elim
          (λ (q : length ys < k). absurd (none.low (length ys) q ys (addition_way p)))
          (λ (q : k ≤ length ys). ⊎_elim
          (λ (s : k < length ys). inl (omega (arith, f.way.many)))
          (λ (s : length ys ≤ k).
          let e : length ys ≡ k = omega arith in
          inr (f.way.many ∙ sym e, f.first ys (subst (λ (j : ℕ). Way g free j ys) e (addition_way p))))
          (below_or k (length ys)))
          (below_or (length ys) k)

  -- where no size within the budget has a way, there is no addition
  pub no_addition : {budget k : ℕ} → budget < k → NoFewer g free k → SomeAddition g budget → ⊥
  no_addition l none p = none.low (length p.list) (omega (arith, p.addition.within)) p.list (addition_way p.addition)
