-- The table of starred grids, proved: each row by a test that the checker computes.
use Rattle.std.specs.Bool.{Decides}
use Rattle.std.specs.Int.{abs_diff}
use Rattle.std.specs.Ordering.{int_eq}
use Rattle.std.proofs.lemmas.Bool.Decides.{Decides-int_eq}
use mathlib.Core.Path.{◌≡◌, refl, sym, ap, ◌∙◌}
use mathlib.Core.Bool.{Bool, true, false, cond}
use mathlib.Core.List.{List, [], ◌∷◌}
use mathlib.Core.Logic.{inl, inr}
use Prim.Native.Nat.{ℕ, zero, suc, ◌+◌, ◌-◌}
use native.Mathlib.Omega.{arith}
use lib.Dec.{lit≤}
use Rattle.busset.specs.Sets.{bit, empty}
use Rattle.busset.proofs.Holding.{word_own}
use Rattle.busset.proofs.Digits.{bit-zero}
use Rattle.rules.specs.Figures.{figure}
use Rattle.tables.proofs.Words.{search_words}
use Rattle.tables.proofs.Tests.{within_test, bus_test, bus_passes}
use Rattle.tables.proofs.Sought.{Sought, unconfirmed_test, greedy_test, none, some, unsure, smallest}
use Rattle.refusals.proofs.Orders.{itself}
use Rattle.grid.specs.Limits.{most_budget, most_greedy_budget}
use Rattle.grid.specs.Rows.{neighbours}
use Rattle.grid.specs.Cases.{Valid}
use Rattle.tables.proofs.Drawn.{valid_test, filled_passes}
use Rattle.observe_calls.specs.Replies.{stated}
use Rattle.tables.specs.Drawings.{set, drawn_grid}
use Rattle.tables.proofs.StarredSites.{free, verdict-right, greedy-right, fewest-right, uncovered-right}
use Rattle.tables.specs.Starred.{word_with, short_case, drawn_case, StarredRow, observes, figures, fails, unconfirmed}
use Rattle.tables.specs.Starred.{adds, fewest_is, uncovered, StarredRight, AllStarredRight, starred_table}
use Rattle.tables.proofs.Deriving.{holds_test, least_test, least_passes, holds_tests, names_test, names_pass, derived}

-- 0 where a test says yes
abbrev unless : Bool → ℕ
unless r = cond r 0 1

unless-none : {P : Type 0} (r : Bool) → Decides r P → unless r ≡ 0 → P
unless-none true d e = d.0 refl
unless-none false d e = absurd (omega arith)

-- the answer of a search as a number, and back
abbrev told : Sought → ℕ
told none = 0
told unsure = 1
told (some m) = suc (suc m)

abbrev meant : ℕ → Sought
meant zero = none
meant (suc zero) = unsure
meant (suc (suc m)) = some m

meant-told : (a : Sought) → meant (told a) ≡ a
meant-told none = refl
meant-told unsure = refl
meant-told (some m) = refl

-- how far two answers of a search are apart
unfoldable gap_sought : Sought → Sought → ℕ
gap_sought a b = abs_diff (told a) (told b)

gap_sought-none : (a b : Sought) → gap_sought a b ≡ 0 → a ≡ b
unfolding gap_sought
gap_sought-none a b e = sym (meant-told a) ∙ ap meant (omega arith) ∙ meant-told b

-- ---- a row

-- the test of a row
unfoldable wrong : StarredRow → ℕ
wrong (observes d bs) = valid_test (short_case d) + least_test (drawn_grid d) (derived (drawn_grid d)) (set bs)
wrong (figures d bs i j z) =
    valid_test (short_case d) + bus_test d.n i + bus_test d.n j + (1 - bit (neighbours (drawn_case d).nbr i) j)
    + unless (int_eq z (figure (neighbours (drawn_case d).nbr) (stated (drawn_case d) (word_with bs)) i j))
wrong (fails d x) = valid_test (short_case d) + names_test d.n x + (1 - holds_test (drawn_grid d) empty x.bus x.reason)
wrong (unconfirmed d bs) = valid_test (short_case d) + within_test d.n (set bs) + unconfirmed_test (drawn_grid d) (set bs)
wrong (adds d budget ss) = valid_test (short_case d) + (budget - most_greedy_budget) + greedy_test (drawn_grid d) budget ss
wrong (fewest_is d budget bs) =
    valid_test (short_case d) + (budget - most_budget d.n) + gap_sought (smallest (drawn_grid d) (free d) (budget + 1) 0) (some (set bs))
wrong (uncovered d budget) =
    valid_test (short_case d) + (budget - most_budget d.n) + gap_sought (smallest (drawn_grid d) (free d) (budget + 1) 0) none

row-right : (r : StarredRow) → wrong r ≡ 0 → StarredRight r
unfolding wrong
row-right (observes d bs) e =
    let v : Valid (drawn_case d) = filled_passes (short_case d) (omega arith) in
    ((v, tt), least_passes (drawn_grid d) (derived (drawn_grid d)) (set bs) v.proper (omega arith), word_own _)
row-right (figures d bs i j z) e =
    let n = d.n in (
      (filled_passes (short_case d) (omega arith), ((bus_passes n i (omega arith), bus_passes n j (omega arith)), (omega arith, tt))),
      unless-none _ (Decides-int_eq z (figure (neighbours (drawn_case d).nbr) (stated (drawn_case d) (word_with bs)) i j)) (omega arith),
    )
row-right (fails d x) e =
    let v : Valid (drawn_case d) = filled_passes (short_case d) (omega arith) in
    inr (
      v,
      inr (
        lit≤ tt,
        inr (
          names_pass d.n x (omega arith),
          inr (
            bit-zero x.bus,
            inl (
              λ h. omega (arith, holds_tests (drawn_grid d) empty x.bus v.proper x.reason h),
              itself _,
            ),
          ),
        ),
      ),
    )
row-right (unconfirmed d bs) e = verdict-right d bs e
row-right (adds d budget ss) e = greedy-right d budget ss e
row-right (fewest_is d budget bs) e =
    fewest-right d budget bs (omega arith)
    (gap_sought-none (smallest (drawn_grid d) (free d) (budget + 1) 0) (some (set bs)) (omega arith))
row-right (uncovered d budget) e =
    uncovered-right d budget (omega arith) (gap_sought-none (smallest (drawn_grid d) (free d) (budget + 1) 0) none (omega arith))

-- ---- the table

unfoldable all_wrong : List StarredRow → ℕ
all_wrong [] = 0
all_wrong (r ∷ rs) = wrong r + all_wrong rs

all_right : (rs : List StarredRow) → all_wrong rs ≡ 0 → AllStarredRight rs
unfolding all_wrong
all_right [] e = tt
all_right (r ∷ rs) e = (row-right r (omega arith), all_right rs (omega arith))

-- every row of the table is right
pub table_right : AllStarredRight starred_table
unfolding all_wrong wrong gap_sought search_words
table_right = all_right starred_table refl
