-- Placing on a grid that is written out, which the checker computes: each test is a number that is 0 where it passes.
use mathlib.Core.Path.{◌≡◌, refl, sym, ap, ◌∙◌, subst, subst⁻¹}
use mathlib.Core.List.{List, [], ◌∷◌}
use mathlib.Core.Logic.{⊎_elim}
use Prim.Native.Nat.{ℕ, zero, suc, ◌+◌, ◌-◌, ◌≤◌, ◌<◌}
use native.Mathlib.Omega.{arith}
use Rattle.std.specs.Int.{abs_diff}
use Rattle.busset.specs.Sets.{Bus, bit, In, Out, Sub, Within, empty, add, meet, size, Lowest, Without, Minus}
use Rattle.basics.proofs.Tests.{below_or}
use Rattle.busset.proofs.Digits.{ext}
use Rattle.busset.proofs.Members.{out_of, empty_of, add-of, meet-at}
use Rattle.busset.proofs.Sizes.{size-empty, size-some, one_more}
use Rattle.rules.specs.Grids.{Grid, Proper, total}
use Rattle.rules.specs.Observation.{ObservedSet}
use Rattle.rules.specs.Steps.{reached}
use Rattle.rules.specs.Confirming.{Confirm, joined, share, Unconfirmed, UnconfirmedSet}
use Rattle.rules.specs.Placing.{with_units, Full, Free, SomeAddition, FewestSites}
use Rattle.rules.specs.Choosing as choosing
use Rattle.rules.specs.Choosing.{GreedyList}
use Rattle.tables.proofs.Tests.{total-none, total_pass, above, after_in, after-out, pick, given, given_passes}
use Rattle.rules.proofs.Leasts.{least-unique}
use Rattle.rules.proofs.Covering.{covers-full, full-covers}
use Rattle.place_light.specs.Ways.{NoWay, FirstWay}
use Rattle.place_light.proofs.Searching.{way-none, no-way-none, no-way-left, first_take, passed_lowest, passed-no}
use Rattle.place_light.proofs.Searching.{passed_first, NoFewer, no-fewer-none, no-fewer-more, first_fewest, no_addition}
use Rattle.tables.proofs.Deriving.{least_test, least_passes, derived}

-- ---- what helps to compute

given-none : (d x : ℕ) → (0 < d → x ≡ 0) → given d x ≡ 0
unfolding pick
given-none zero x h = refl
given-none (suc d) x h = h (omega arith)

-- ---- the observed set

-- the set that the derived list reaches, and the test that this is the observed set
abbrev pub seen : Grid → ℕ
seen g = reached (derived g)

abbrev pub seen_test : Grid → ℕ
seen_test g = least_test g (derived g) (seen g)

seen-least : (g : Grid) → Proper g → seen_test g ≡ 0 → ObservedSet g (seen g)
seen-least g v e = least_passes g (derived g) (seen g) v e

proper-with : {g : Grid} (x : ℕ) → Proper g → In g.sites x → Proper (with_units g (add g.units x))
proper-with {g} x v h = record {
  lines = v.lines;
  zeros = v.zeros;
  sites = v.sites;
  units = add-of {P = Bus g.n} g.units x (v.sites x h) v.units;
}

-- ---- cross-validation

-- whether a unit at a, which is not b, confirms one at b
unfoldable pub confirm_test : Grid → ℕ → ℕ → ℕ
confirm_test g b a = given (bit g.units a) (given (abs_diff a b) (bit (g.neighbours a) b + size (meet (g.neighbours a) (g.neighbours b))))

-- 1 where no other unit confirms the one at b
unfoldable pub alone_test : Grid → ℕ → ℕ
alone_test g b = given (bit g.units b) (1 - total g.n (confirm_test g b))

unfoldable pub unconfirmed_test : Grid → ℕ → ℕ
unconfirmed_test g s = total g.n (λ b. abs_diff (bit s b) (alone_test g b))

module _ (g : Grid) (v : Proper g) where
  alone_none : (b : ℕ) → total g.n (confirm_test g b) ≡ 0 → (a : ℕ) → In g.units a → (a ≡ b → ⊥) → Confirm g.neighbours a b → ⊥
  unfolding confirm_test
  alone_none b e a u ne c =
      let x = bit (g.neighbours a) b + size (meet (g.neighbours a) (g.neighbours b)) in
      go c (given_passes (abs_diff a b) x (omega arith)
      (given_passes (bit g.units a) (given (abs_diff a b) x) (omega arith) (total-none g.n (confirm_test g b) e a (v.units a u))))
    where
      go : Confirm g.neighbours a b → bit (g.neighbours a) b + size (meet (g.neighbours a) (g.neighbours b)) ≡ 0 → ⊥
      go (joined j) z = omega arith
      go (share x j k) z =
          omega (
            arith,
            size-some (meet (g.neighbours a) (g.neighbours b)) x
                (let m = meet-at (g.neighbours a) (g.neighbours b) x in omega arith),
          )

  alone_all : (b : ℕ) → Unconfirmed g.neighbours g.units b → total g.n (confirm_test g b) ≡ 0
  unfolding confirm_test
  alone_all b u = total_pass g.n (confirm_test g b)
      (λ a. let x = bit (g.neighbours a) b + size (meet (g.neighbours a) (g.neighbours b)) in
      given-none (bit g.units a) (given (abs_diff a b) x)
      (λ h. given-none (abs_diff a b) x (λ d. none a (omega arith) (λ e. omega arith))))
    where
      none : (a : ℕ) → In g.units a → (a ≡ b → ⊥) → bit (g.neighbours a) b + size (meet (g.neighbours a) (g.neighbours b)) ≡ 0
      none a h ne =
          let far = out_of (g.neighbours a) b (λ j. u.none a h ne (joined j)) in
          let nothing = empty_of (meet (g.neighbours a) (g.neighbours b))
          (λ x. out_of (meet (g.neighbours a) (g.neighbours b)) x
          (λ m. u.none a h ne (share x (let e = meet-at (g.neighbours a) (g.neighbours b) x in omega arith)
          (let e = meet-at (g.neighbours a) (g.neighbours b) x in omega arith)))) in
          omega (arith, ap size nothing, size-empty)

  pub unconfirmed_passes : (s : ℕ) → Within g.n s → unconfirmed_test g s ≡ 0 → UnconfirmedSet g.neighbours g.units s
  unfolding unconfirmed_test alone_test pick
  unconfirmed_passes s w e = record { all = all; only = only }
    where
      at_bus : (b : ℕ) → Bus g.n b → bit s b ≡ alone_test g b
      at_bus b h = omega (arith, total-none g.n (λ b. abs_diff (bit s b) (alone_test g b)) e b h)

      all : (b : ℕ) → Unconfirmed g.neighbours g.units b → In s b
      all b u = at_bus b (v.units b u.unit) ∙ go (bit g.units b) refl
        where
          go : (d : ℕ) → bit g.units b ≡ d → given d (1 - total g.n (confirm_test g b)) ≡ 1
          go zero q = absurd (omega (arith, u.unit))
          go (suc d) q = omega (arith, alone_all b u)

      only : (b : ℕ) → In s b → Unconfirmed g.neighbours g.units b
      only b h = go (bit g.units b) refl (sym (at_bus b (w b h)) ∙ h)
        where
          go : (d : ℕ) → bit g.units b ≡ d → given d (1 - total g.n (confirm_test g b)) ≡ 1 → Unconfirmed g.neighbours g.units b
          go zero q r = absurd (omega arith)
          go (suc d) q r = record { unit = omega arith; none = alone_none b (omega arith) }

-- ---- greedy

-- how far from allowed, observed and no better than `most` a unit at y is: 0 where y is not free, or with it at most `most` buses are
-- observed
unfoldable pub no_better : Grid → ℕ → ℕ → ℕ
no_better g most y =
    given (bit g.sites y - bit g.units y)
    (seen_test (with_units g (add g.units y)) + (size (seen (with_units g (add g.units y))) - most))

-- x is the best site
unfoldable pub best_test : Grid → ℕ → ℕ
best_test g x =
    let most = size (seen (with_units g (add g.units x))) in
    seen_test g + (1 - (bit g.sites x - bit g.units x)) + seen_test (with_units g (add g.units x)) + (suc (size (seen g)) - most)
    + total g.n (no_better g most) + total (x - 1) (no_better g (most - 1))

-- no site adds a bus
unfoldable pub none_test : Grid → ℕ
none_test g = seen_test g + total g.n (no_better g (size (seen g)))

unfoldable pub greedy_test : Grid → ℕ → List ℕ → ℕ
greedy_test g zero [] = 0
greedy_test g zero (x ∷ xs) = 1
greedy_test g (suc k) [] = none_test g
greedy_test g (suc k) (x ∷ xs) = best_test g x + greedy_test (with_units g (add g.units x)) k xs

-- a site that is no better than most makes at most so many buses observed
no-better : (g : Grid) (most y t : ℕ) → Proper g → no_better g most y ≡ 0 → choosing.WithSite g y t → size t ≤ most
unfolding no_better
no-better g most y t v e w =
    let f = given_passes (bit g.sites y - bit g.units y)
    (seen_test (with_units g (add g.units y)) + (size (seen (with_units g (add g.units y))) - most))
    (let a = w.free.site in let b = w.free.bare in omega arith) e in
    let l = seen-least (with_units g (add g.units y)) (proper-with y v w.free.site) (omega arith) in
    omega (arith, ap size (least-unique (with_units g (add g.units y)) t (seen (with_units g (add g.units y))) w.observed l))

pub greedy_passes : (g : Grid) (k : ℕ) (xs : List ℕ) → Proper g → greedy_test g k xs ≡ 0 → GreedyList g k xs
unfolding greedy_test best_test none_test
greedy_passes g zero [] v e = tt
greedy_passes g zero (x ∷ xs) v e = absurd (omega arith)
greedy_passes g (suc k) [] v e = λ y s t l w.
    let base = seen-least g v (omega arith) in
    omega (
      arith,
      no-better g (size (seen g)) y t v (total-none g.n (no_better g (size (seen g))) (omega arith) y (v.sites y w.free.site)) w,
      ap size (least-unique g s (seen g) l base),
    )
greedy_passes g (suc k) (x ∷ xs) v e =
    let most = size (seen (with_units g (add g.units x))) in
    let free : Free g x = record { site = omega arith; bare = omega arith } in (
      record {
        before = seen g;
        after = seen (with_units g (add g.units x));
        observed = seen-least g v (omega arith);
        with = record { free = free; observed = seen-least (with_units g (add g.units x)) (proper-with x v free.site) (omega arith) };
        adds = omega arith;
        largest = λ y t w. no-better g most y t v (total-none g.n (no_better g most) (omega arith) y (v.sites y w.free.site)) w;
        lowest =
            λ y t w b. omega (
              arith,
              no-better g (most - 1) y t v (total-none (x - 1) (no_better g (most - 1)) (omega arith) y
                  (record { some = (v.sites y w.free.site).some; most = omega arith })) w,
            );
      },
      greedy_passes (with_units g (add g.units x)) k xs (proper-with x v free.site) (omega arith),
    )

-- ---- the fewest

after-skip : (x s : ℕ) → Out s (suc x) → above x s ≡ above (suc x) s
after-skip x s o = ext (above x s) (above (suc x) s) (λ b. ⊎_elim
    (λ (l : b < suc x). after-out x s b (omega arith) ∙ sym (after-out (suc x) s b (omega arith)))
    (λ (l : suc x ≤ b). ⊎_elim
    (λ (m : suc x < b). after_in x s b (omega arith) ∙ sym (after_in (suc x) s b m))
    (λ (m : b ≤ suc x). let e : b ≡ suc x = omega arith in
    subst⁻¹ (λ (c : ℕ). bit (above x s) c ≡ bit (above (suc x) s) c) e
    (after_in x s (suc x) (omega arith) ∙ o ∙ sym (after-out (suc x) s (suc x) (omega arith))))
    (below_or (suc x) b))
    (below_or b (suc x)))

module _ (x s : ℕ) (h : In s (suc x)) where
  after_lowest : Lowest (suc x) (above x s) (suc x)
  after_lowest = record {
    has = after_in x s (suc x) (omega arith) ∙ h;
    below = λ a l. after-out x s a (omega arith);
    bus = record { some = omega arith; most = omega arith };
  }

  after_without : Without (above x s) (suc x) (above (suc x) s)
  after_without = record {
    here = after-out (suc x) s (suc x) (omega arith);
    there = there;
    fewer =
        λ i. one_more (above (suc x) s) (above x s) (suc x) after_lowest.has (after-out (suc x) s (suc x) (omega arith))
        (λ a ne. sym (there a ne));
  }
    where
      there : (a : ℕ) → (a ≡ suc x → ⊥) → bit (above (suc x) s) a ≡ bit (above x s) a
      there a ne = ⊎_elim
          (λ (l : a < suc x). after-out (suc x) s a (omega arith) ∙ sym (after-out x s a (omega arith)))
          (λ (l : suc x ≤ a). ⊎_elim (λ (m : suc x < a). after_in (suc x) s a m ∙ sym (after_in x s a (omega arith)))
          (λ (m : a ≤ suc x). absurd (ne (omega arith))) (below_or (suc x) a))
          (below_or a (suc x))

pub data Sought : Type 0 where
  none : Sought
  some : ℕ → Sought
  unsure : Sought

abbrev pub SoughtIs : Grid → ℕ → ℕ → Sought → Type 0
SoughtIs g sites k none = NoWay g sites k
SoughtIs g sites k (some m) = FirstWay g sites k m
SoughtIs g sites k unsure = Unit {0}

-- the answer of the units as they are, from the buses that are missing and from whether the set is sure
unfoldable pub sought_from : ℕ → ℕ → Sought
sought_from zero zero = some empty
sought_from (suc l) zero = none
sought_from l (suc b) = unsure

unfoldable pub judge : Grid → Sought
judge g = sought_from (total g.n (λ b. 1 - bit (seen g) b)) (seen_test g)

-- the answer with x, or else the one without it
unfoldable pub or_else : ℕ → Sought → Sought → Sought
or_else x none b = b
or_else x (some m) b = some (add m x)
or_else x unsure b = unsure

unfoldable pub choose : ℕ → ℕ → Sought → Sought → Sought
choose x zero a b = b
choose x (suc d) a b = or_else x a b

-- by the buses left above x, and the size
unfoldable pub seek : Grid → ℕ → ℕ → ℕ → ℕ → Sought
seek g free f x zero = judge g
seek g free zero x (suc k) = none
seek g free (suc f) x (suc k) =
    choose (suc x) (bit free (suc x)) (seek (with_units g (add g.units (suc x))) free f (suc x) k) (seek g free f (suc x) (suc k))

lacks-none : (n s : ℕ) → Full n s → total n (λ b. 1 - bit s b) ≡ 0
unfolding total
lacks-none zero s full = refl
lacks-none (suc n) s full =
    omega (
      arith,
      lacks-none n s (λ b h. full b (record { some = h.some; most = let m = h.most in omega arith })),
      full (suc n) (record { some = omega arith; most = omega arith }),
    )

judge-right : (g : Grid) (sites : ℕ) → Proper g → SoughtIs g sites 0 (judge g)
unfolding judge sought_from
judge-right g sites v = go (total g.n (λ b. 1 - bit (seen g) b)) (seen_test g) refl refl
  where
    go : (l b : ℕ) → total g.n (λ b. 1 - bit (seen g) b) ≡ l → seen_test g ≡ b → SoughtIs g sites 0 (sought_from l b)
    go zero zero e d =
        way-none refl refl (full-covers g (seen-least g v d) (λ b h. omega (arith, total-none g.n (λ b. 1 - bit (seen g) b) e b h)))
    go (suc l) zero e d =
        no-way-none refl (λ c. let full = covers-full g (seen-least g v d) c in omega (arith, lacks-none g.n (seen g) full))
    go zero (suc b) e d = tt
    go (suc l) (suc b) e d = tt

less_one : (k : ℕ) → suc k - 1 ≡ k
less_one k = omega arith

-- one site: the answers with it and without it
seek-turn : (g : Grid) (free x k d : ℕ) (a b : Sought) → bit free (suc x) ≡ d
    → (In free (suc x) → SoughtIs (with_units g (add g.units (suc x))) (above (suc x) free) k a)
    → SoughtIs g (above (suc x) free) (suc k) b → SoughtIs g (above x free) (suc k) (choose (suc x) d a b)
unfolding choose or_else
seek-turn g free x k zero a b e ha hb = subst⁻¹ (λ (s : ℕ). SoughtIs g s (suc k) b) (after-skip x free e) hb
seek-turn g free x k (suc d) none none e ha hb =
    passed-no (passed_lowest (after_lowest x free (omega arith)) (after_without x free (omega arith)) (omega arith)
    (subst⁻¹ (NoWay (with_units g (add g.units (suc x))) (above (suc x) free)) (less_one k) (ha (omega arith)))) hb
seek-turn g free x k (suc d) none (some m) e ha hb =
    passed_first (passed_lowest (after_lowest x free (omega arith)) (after_without x free (omega arith)) (omega arith)
    (subst⁻¹ (NoWay (with_units g (add g.units (suc x))) (above (suc x) free)) (less_one k) (ha (omega arith)))) hb
seek-turn g free x k (suc d) none unsure e ha hb = tt
seek-turn g free x k (suc d) (some m) b e ha hb =
    first_take (after_lowest x free (omega arith)) (after_without x free (omega arith)) (omega arith)
    (subst⁻¹ (λ (j : ℕ). FirstWay (with_units g (add g.units (suc x))) (above (suc x) free) j m) (less_one k) (ha (omega arith)))
seek-turn g free x k (suc d) unsure b e ha hb = tt

seek-right : (g : Grid) (free f x k : ℕ) → Proper g → Within g.n free → Sub free g.sites → g.n ≤ x + f
    → SoughtIs g (above x free) k (seek g free f x k)
unfolding seek
seek-right g free f x zero v w s l = judge-right g (above x free) v
seek-right g free zero x (suc k) v w s l = no-way-left (empty_of (above x free) gone) (omega arith)
  where
    gone : (b : ℕ) → Out (above x free) b
    gone b =
        ⊎_elim (λ (m : x < b). out_of (above x free) b (λ h. let bus = (w b (sym (after_in x free b m) ∙ h)).most in omega arith))
        (λ (m : b ≤ x). after-out x free b m) (below_or x b)
seek-right g free (suc f) x (suc k) v w s l =
    seek-turn g free x k (bit free (suc x)) (seek (with_units g (add g.units (suc x))) free f (suc x) k)
    (seek g free f (suc x) (suc k)) refl
    (λ h. seek-right (with_units g (add g.units (suc x))) free f (suc x) k (proper-with (suc x) v (omega (arith, s (suc x)))) w s
    (omega arith))
    (seek-right g free f (suc x) (suc k) v w s (omega arith))

-- ---- size after size

abbrev pub PlanIs : Grid → ℕ → Sought → Type 0
PlanIs g budget none = SomeAddition g budget → ⊥
PlanIs g budget (some m) = FewestSites g budget m
PlanIs g budget unsure = Unit {0}

unfoldable pub first_of : Sought → Sought → Sought
first_of none b = b
first_of (some m) b = some m
first_of unsure b = unsure

-- j sizes are left from k on
unfoldable pub smallest : Grid → ℕ → ℕ → ℕ → Sought
smallest g free zero k = none
smallest g free (suc j) k = first_of (seek g free g.n 0 k) (smallest g free j (k + 1))

module _ (g : Grid) (v : Proper g) (free : ℕ) (m : Minus g.sites g.units free) where
  whole : above 0 free ≡ free
  whole =
      ext (above 0 free) free (λ b. ⊎_elim (λ (l : 0 < b). after_in 0 free b l) (λ (l : b ≤ 0). let e : b ≡ 0 = omega arith in
      after-out 0 free b l ∙ sym (out_of free b (λ h. let bus = (v.sites b (omega (arith, m.at b))).some in omega arith)))
      (below_or 0 b))

  sized : (k : ℕ) → SoughtIs g free k (seek g free g.n 0 k)
  sized k = subst (λ (s : ℕ). SoughtIs g s k (seek g free g.n 0 k)) whole
      (seek-right g free g.n 0 k v (λ b h. v.sites b (omega (arith, m.at b))) (λ b. omega (arith, m.at b)) (omega arith))

  chosen : (budget k : ℕ) (a b : Sought) → k ≤ budget → NoFewer g free k → SoughtIs g free k a → (NoWay g free k → PlanIs g budget b)
      → PlanIs g budget (first_of a b)
  unfolding first_of
  chosen budget k none b l h p q = q p
  chosen budget k (some s) b l h p q = first_fewest m l h p
  chosen budget k unsure b l h p q = tt

  smallest_right : (budget j k : ℕ) → j + k ≡ budget + 1 → NoFewer g free k → PlanIs g budget (smallest g free j k)
  unfolding smallest
  smallest_right budget zero k e h = no_addition m (omega arith) h
  smallest_right budget (suc j) k e h =
      chosen budget k (seek g free g.n 0 k) (smallest g free j (k + 1)) (omega arith) h (sized k)
      (λ n. smallest_right budget j (k + 1) (omega arith) (no-fewer-more h n))

  pub fewest_passes : (budget : ℕ) (a : Sought) → smallest g free (budget + 1) 0 ≡ a → PlanIs g budget a
  fewest_passes budget a e = subst (PlanIs g budget) e (smallest_right budget (budget + 1) 0 (omega arith) (no-fewer-none g free))
