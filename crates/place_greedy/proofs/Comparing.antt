-- Greedy: the best site, site after site; and the list of those added, one after another.
use mathlib.Core.Path.{◌≡◌, sym, ap, ◌∙◌, subst, subst⁻¹}
use mathlib.Core.List.{List, [], ◌∷◌, ◌++◌, append_assoc, append-nil}
use Rattle.std.specs.Prelude.{Option, Some, None}
use Prim.Native.Nat.{ℕ, suc, ◌+◌, ◌-◌, ◌≤◌, ◌<◌}
use native.Mathlib.Omega.{arith}
use lib.ListN.{length, length-append}
use Rattle.busset.specs.Sets.{bit, In, Out, Minus, Lowest, Without, empty, add, size}
use Rattle.busset.proofs.Digits.{bit-zero}
use Rattle.busset.proofs.Members.{without-of, without_sub}
use Rattle.rules.specs.Grids.{Grid}
use Rattle.rules.specs.Observation.{ObservedSet}
use Rattle.rules.specs.Placing.{with_units, Free}
use Rattle.rules.specs.Choosing.{Best, NoneAdds, GreedyList}
use Rattle.rules.specs.Choosing as choosing
use Rattle.rules.proofs.Leasts.{least-unique}
use Rattle.rules.proofs.Choices.{greedy-unique}
use Rattle.place_greedy.specs.Choices.{ChosenIs}

-- ---- the best so far

-- x is the best of the sites passed, and adds a bus
pub record Chosen (g : Grid) (s most x : ℕ) : Type 0 where
  pub after : ℕ
  pub with : choosing.WithSite g x after
  pub is : most ≡ size after
  pub adds : size s < most
  pub lowest : (y t : ℕ) → choosing.WithSite g y t → y < x → size t < most

abbrev pub SoFar : Grid → ℕ → ℕ → Option ℕ → Type 0
SoFar g s most None = most ≡ size s
SoFar g s most (Some x) = Chosen g s most x

pub record Compared (g : Grid) (s left most : ℕ) (site : Option ℕ) : Type 0 where
  pub free : (y : ℕ) → In left y → Free g y
  pub base : size s ≤ most
  pub passed : (y t : ℕ) → Out left y → choosing.WithSite g y t → size t ≤ most
  pub best : SoFar g s most site

-- one site more: x, with which t is observed
module _ {g : Grid} {n s left most x rest t m : ℕ} {site : Option ℕ} (c : Compared g s left most site)
    (low : Lowest n left x) (w : Without left x rest) (l : ObservedSet (with_units g (add g.units x)) t) (e : m ≡ size t) where
  same : (v : ℕ) → choosing.WithSite g x v → size v ≡ m
  same v h = ap size (least-unique (with_units g (add g.units x)) v t h.observed l) ∙ sym e

  freed : (y : ℕ) → In rest y → Free g y
  freed y h = c.free y (omega (arith, without_sub w y))

  all : (b : ℕ) → most ≤ b → m ≤ b → (y v : ℕ) → Out rest y → choosing.WithSite g y v → size v ≤ b
  all b p q y v o =
      without-of {P = λ z. choosing.WithSite g z v → size v ≤ b} w (λ h. omega (arith, same v h))
      (λ z o h. omega (arith, c.passed z v o h))
      y o

  pub compared_no : m ≤ most → Compared g s rest most site
  compared_no k = record { free = freed; base = c.base; passed = all most (omega arith) k; best = c.best }

  pub compared_yes : most < m → Compared g s rest m (Some x)
  compared_yes k = record {
    free = freed;
    base = omega (arith, c.base);
    passed = all m (omega arith) (omega arith);
    best = record {
      after = t;
      with = record { free = c.free x low.has; observed = l };
      is = e;
      adds = omega (arith, c.base);
      lowest = λ y v h b. omega (arith, c.passed y v (low.below y (omega arith)) h);
    };
  }

module _ {g : Grid} {s left : ℕ} (e : left ≡ empty) (l : ObservedSet g s) where
  gone : (y : ℕ) → Out left y
  gone y = ap (λ (x : ℕ). bit x y) e ∙ bit-zero y

  pub compared-all : {most : ℕ} (site : Option ℕ) → Compared g s left most site → ChosenIs g site
  compared-all None c = λ y v t lv w. omega (arith, c.best, c.passed y t (gone y) w, ap size (least-unique g v s lv l))
  compared-all (Some x) c = record {
    before = s;
    after = c.best.after;
    observed = l;
    with = c.best.with;
    adds = omega (arith, c.best.adds, c.best.is);
    largest = λ y t w. omega (arith, c.passed y t (gone y) w, c.best.is);
    lowest = λ y t w b. omega (arith, c.best.lowest y t w b, c.best.is);
  }

-- the best site is one of the free sites
pub best-free : {g : Grid} {free x : ℕ} → Minus g.sites g.units free → Best g x → In free x
best-free {x = x} m b = omega (arith, m.at x, b.with.free.site, b.with.free.bare)

-- ---- the list

-- with the units u and what greedy adds to them within the rest of the budget, the list is what greedy adds in all
pub record Adding (g : Grid) (budget u s : ℕ) (sites : List ℕ) : Type 0 where
  pub least : ObservedSet (with_units g u) s
  pub rest : (ys : List ℕ) → GreedyList (with_units g u) (budget - length sites) ys → GreedyList g budget (sites ++ ys)

-- no site is added yet
pub adding-none : (g : Grid) (budget : ℕ) {s : ℕ} {sites : List ℕ} → sites ≡ [] → ObservedSet g s → Adding g budget g.units s sites
adding-none g budget {s} e l =
    subst⁻¹ (Adding g budget g.units s) e (record { least = l; rest = λ ys h. subst (λ (k : ℕ). GreedyList g k ys) (whole budget) h })
  where
    whole : (k : ℕ) → k - 0 ≡ k
    whole k = omega arith

pub adding-more : {g : Grid} {budget u s v t : ℕ} {sites more : List ℕ} {x : ℕ} → Adding g budget u s sites → length sites < budget
    → Best (with_units g u) x → more ≡ sites ++ (x ∷ []) → v ≡ add u x → ObservedSet (with_units g (add u x)) t
    → Adding g budget v t more
adding-more {g} {budget} {u} {s} {v} {t} {sites} {more} {x} a l b m e lt = record {
  least = subst⁻¹ (λ (w : ℕ). ObservedSet (with_units g w) t) e lt;
  rest = λ ys h. subst (GreedyList g budget) (moved ys)
      (a.rest (x ∷ ys) (subst⁻¹ (λ (k : ℕ). GreedyList (with_units g u) k (x ∷ ys)) left
      (b, subst (λ (w : ℕ). GreedyList (with_units g w) (budget - length more) ys) e h)));
}
  where
    left : budget - length sites ≡ suc (budget - length more)
    left = omega (arith, ap length m, length-append sites (x ∷ []))

    moved : (ys : List ℕ) → sites ++ (x ∷ ys) ≡ more ++ ys
    moved ys = sym (append_assoc sites (x ∷ []) ys) ∙ ap (λ (zs : List ℕ). zs ++ ys) (sym m)

-- it stops where no site adds a bus
pub adding-stop : {g : Grid} {budget u s : ℕ} {sites : List ℕ} → Adding g budget u s sites → length sites < budget
    → NoneAdds (with_units g u) → GreedyList g budget sites
adding-stop {g} {budget} {u} {s} {sites} a l none =
    subst (GreedyList g budget) (append-nil sites) (a.rest [] (subst⁻¹ (λ (k : ℕ). GreedyList (with_units g u) k []) left none))
  where
    left : budget - length sites ≡ suc (budget - (length sites + 1))
    left = omega arith

-- or the budget is spent
pub adding-all : {g : Grid} {budget u s : ℕ} {sites : List ℕ} → Adding g budget u s sites → budget ≤ length sites
    → GreedyList g budget sites
adding-all {g} {budget} {u} {s} {sites} a l =
    subst (GreedyList g budget) (append-nil sites) (a.rest [] (subst⁻¹ (λ (k : ℕ). GreedyList (with_units g u) k []) spent tt))
  where
    spent : budget - length sites ≡ 0
    spent = omega arith

-- every list that greedy adds is this one, so it fits where this one does
pub greedy-fits : (g : Grid) (budget : ℕ) (sites : List ℕ) {m : ℕ} → GreedyList g budget sites → length sites ≤ m
    → (xs : List ℕ) → GreedyList g budget xs → length xs ≤ m
greedy-fits g budget sites {m} h l xs k = subst (λ (ys : List ℕ). length ys ≤ m) (greedy-unique g budget sites xs h k) l
