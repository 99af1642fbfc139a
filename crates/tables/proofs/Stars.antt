-- The case value of the most buses, of which 1 is joined to every other, and its figures: by laws, as its rows are many.
use mathlib.Core.Path.{◌≡◌, refl, ap, ap₂, ◌∙◌, subst⁻¹}
use mathlib.Core.Logic.{⊎_elim}
use mathlib.Core.List.{[], ◌∷◌}
use Prim.Native.Nat.{ℕ, zero, suc, ◌-◌, ◌*◌, ◌≤◌, ◌<◌, zero-le}
use native.Mathlib.Omega.{arith}
use lib.Dec.{lit≤}
use lib.IntN.{ℤ, pos, ◌+ℤ◌, ◌-ℤ◌}
use lib.ListN.{length, get_or-replicate, length-replicate}
use Rattle.busset.specs.Sets.{Bus, bit, In, empty, meet, less, up_to, size, set_of}
use Rattle.busset.specs.Held.{empty_word}
use Rattle.basics.proofs.Tests.{below_or, same_or}
use Rattle.busset.proofs.Digits.{bit-zero, ext}
use Rattle.busset.proofs.Members.{empty_of, less-here, less-there, less_sub, meet-at, up_to-out, up_to_sub}
use Rattle.busset.proofs.Sizes.{size-empty, size_less, size-most}
use Rattle.busset.proofs.Words.{set-zero, set-empty}
use Rattle.busset.proofs.Holding.{word_set, hold-here, hold-there}
use Rattle.rules.specs.Grids.{Line, total, line_count}
use Rattle.rules.specs.Figures.{figure}
use Rattle.grid.specs.Limits.{most_buses}
use Rattle.grid.specs.Rows.{bus_sets}
use Rattle.grid.specs.Cases.{grid_of, Lines, Valid}
use Rattle.tables.proofs.Listed.{all-buses, size-buses}
use Rattle.tables.proofs.Tests.{bus_passes}
use Rattle.tables.proofs.Drawn.{written_row, written-zero, written-past, written-bus, written_is, filled-valid}
use Rattle.tables.proofs.Rows.{◌&◌}
use Rattle.tables.specs.Tables.{AllRight}
use Rattle.tables.specs.Starred.{word_with, buses_to}
use Rattle.tables.specs.Drawings.{set}
use Rattle.tables.specs.Figures.{star_rows, short_star, star, figure_end_table}

-- ---- the rows of m + 1 buses

-- the buses 1 to m + 1
abbrev every : ℕ → ℕ
every m = set (buses_to (suc m))

-- the neighbours of each
abbrev near : ℕ → ℕ → ℕ
near m = written_row (star_rows m)

first-row : (m : ℕ) → near m 1 ≡ less (every m) 1
unfolding written_row
first-row m = word_set (less (every m) 1) (omega (arith, less_sub (every m) 1 0, set-zero (word_with (buses_to (suc m)))))

other_row : (m i : ℕ) → i < m → near m (suc (suc i)) ≡ set (1 ∷ [])
unfolding written_row
other_row m i l = ap set_of (get_or-replicate m i (word_with (1 ∷ [])) empty_word l)

past_row : (m i : ℕ) → m ≤ i → near m (suc (suc i)) ≡ empty
past_row m i l = written-past (star_rows m) (suc (suc i)) (omega (arith, length-replicate m (word_with (1 ∷ []))))

-- the set of bus 1 has no other
only_1 : (b : ℕ) → In (set (1 ∷ [])) b → b ≡ 1
only_1 b h =
    ⊎_elim (λ (e : b ≡ 1). e)
    (λ (ne : b ≡ 1 → ⊥). absurd (omega (
      arith,
      hold-there empty_word 1 b (omega arith) ne,
      ap (λ (s : ℕ). bit s b) set-empty,
      bit-zero b,
    )))
    (same_or b 1)

-- a bus other than 1 is joined to 1 alone
other_1 : (m i b : ℕ) → In (near m (suc (suc i))) b → b ≡ 1
other_1 m i b h =
    ⊎_elim (λ (l : i < m). only_1 b (omega (arith, ap (λ (s : ℕ). bit s b) (other_row m i l))))
    (λ (l : m ≤ i). absurd (omega (arith, ap (λ (s : ℕ). bit s b) (past_row m i l), bit-zero b)))
    (below_or i m)

-- ---- it is valid

-- bus 1 and bus i + 2 are joined by a line, seen from either
star-line : (m i : ℕ) → i < m → Line (suc m) (near m) 1 (suc (suc i)) × Line (suc m) (near m) (suc (suc i)) 1
star-line m i l =
    let to : Bus (suc m) (suc (suc i)) = record { some = omega arith; most = omega arith } in
    let one : Bus (suc m) 1 = record { some = omega arith; most = omega arith } in (
      record {
        from = one;
        to = to;
        differ = λ e. omega arith;
        back = ap (λ (s : ℕ). bit s 1) (other_row m i l) ∙ hold-here empty_word 1 (omega arith);
      },
      record {
        from = to;
        to = one;
        differ = λ e. omega arith;
        back =
            ap (λ (s : ℕ). bit s (suc (suc i))) (first-row m) ∙ less-there (every m) 1 (suc (suc i)) (λ e. omega arith)
            ∙ (all-buses (suc m)).has (suc (suc i)) to;
      },
    )

star-lines : (m : ℕ) → Lines (suc m) (near m)
star-lines m zero b h = absurd (omega (arith, ap (λ (s : ℕ). bit s b) (written-zero (star_rows m)), bit-zero b))
star-lines m (suc zero) zero h = absurd (omega (arith, written-bus (star_rows m) 1))
star-lines m (suc zero) (suc zero) h = absurd (omega (arith, ap (λ (s : ℕ). bit s 1) (first-row m), less-here (every m) 1))
star-lines m (suc zero) (suc (suc i)) h =
    let there = ap (λ (s : ℕ). bit s (suc (suc i))) (first-row m) in
    let bus = (all-buses (suc m)).only (suc (suc i)) (omega (arith, there, less_sub (every m) 1 (suc (suc i)))) in
    (star-line m i (let l = bus.most in omega arith)).0
star-lines m (suc (suc i)) b h =
    ⊎_elim
    (λ (l : i < m). subst⁻¹ (Line (suc m) (near m) (suc (suc i))) (other_1 m i b h) (star-line m i l).1)
    (λ (l : m ≤ i). absurd (omega (arith, ap (λ (s : ℕ). bit s b) (past_row m i l), bit-zero b)))
    (below_or i m)

-- each bus has at most one neighbour that is not higher
one_lower : (m b : ℕ) → size (up_to b (near m b)) ≤ 1
one_lower m b = size-most 1 (up_to b (near m b)) (λ c h. go b c (omega (arith, up_to_sub b (near m b) c)) h)
  where
    go : (b c : ℕ) → In (near m b) c → In (up_to b (near m b)) c → Bus 1 c
    go zero c j h = absurd (omega (arith, ap (λ (s : ℕ). bit s c) (written-zero (star_rows m)), bit-zero c))
    go (suc zero) zero j h = absurd (omega (arith, written-bus (star_rows m) 1))
    go (suc zero) (suc zero) j h = record { some = omega arith; most = omega arith }
    go (suc zero) (suc (suc c)) j h = absurd (omega (arith, up_to-out 1 (near m 1) (suc (suc c)) (omega arith)))
    go (suc (suc i)) c j h = let e = other_1 m i c j in record { some = omega arith; most = omega arith }

few-lines : (m n : ℕ) → line_count n (near m) ≤ n
unfolding total
few-lines m zero = zero-le
few-lines m (suc n) = omega (arith, few-lines m n, one_lower m (suc n))

no-buses : (n b : ℕ) → In (set []) b → Bus n b
no-buses n b h = absurd (omega (arith, ap (λ (s : ℕ). bit s b) set-empty, bit-zero b))

star-valid : Valid star
star-valid =
    filled-valid short_star (record { some = lit≤ tt; most = lit≤ tt }) (star-lines (most_buses - 1)) (no-buses most_buses)
    (no-buses most_buses) (no-buses most_buses) (omega (arith, few-lines (most_buses - 1) most_buses))

-- ---- its figures

-- bus 1 has m neighbours
first-size : (m : ℕ) → size (near m 1) ≡ m
first-size m =
    let one : Bus (suc m) 1 = record { some = omega arith; most = omega arith } in
    ap size (first-row m) ∙ omega (arith, size-buses (suc m), size_less (every m) 1 ((all-buses (suc m)).has 1 one))

-- of which none, or m - 1 other than 2, are observed
none-observed : (m : ℕ) → size (less (meet (near m 1) (set [])) 2) ≡ 0
none-observed m =
    ap size (empty_of (less (meet (near m 1) (set [])) 2) (λ b. omega (
      arith,
      less_sub (meet (near m 1) (set [])) 2 b,
      meet-at (near m 1) (set []) b,
      ap (λ (s : ℕ). bit s b) set-empty,
      bit-zero b,
    ))) ∙ size-empty

all-observed : (k : ℕ) → size (less (meet (near (suc k) 1) (every (suc k))) 2) ≡ k
all-observed k =
    let m = suc k in
    let same : meet (near m 1) (every m) ≡ near m 1 = ext (meet (near m 1) (every m)) (near m 1)
    (λ b. omega (arith, meet-at (near m 1) (every m) b, ap (λ (s : ℕ). bit s b) (first-row m), less_sub (every m) 1 b)) in
    ap (λ (s : ℕ). size (less s 2)) same
    ∙ omega (arith, first-size m, size_less (near m 1) 2 (star-line m 0 (omega arith)).1.back)

figure-from : (nbr : ℕ → ℕ) (s i j a d b : ℕ) → size (nbr i) ≡ a → bit s i ≡ d → size (less (meet (nbr i) s) j) ≡ b
    → figure nbr s i j ≡ pos 1 -ℤ pos a +ℤ pos d +ℤ pos b
unfolding figure
figure-from nbr s i j a d b p q r =
    ap₂ (λ (x y : ℕ). pos 1 -ℤ pos x +ℤ pos (bit s i) +ℤ pos y) p r ∙ ap (λ (x : ℕ). pos 1 -ℤ pos a +ℤ pos x +ℤ pos b) q

-- the neighbours that the case value has are those that are written
star-near : (grid_of star).neighbours ≡ near (most_buses - 1)
star-near = written_is (star_rows (most_buses - 1)) (bus_sets * (most_buses - length (star_rows (most_buses - 1))))

star-figure : (s : ℕ) (z : ℤ) → figure (near (most_buses - 1)) s 1 2 ≡ z → figure (grid_of star).neighbours s 1 2 ≡ z
star-figure s z e = ap (λ (nbr : ℕ → ℕ). figure nbr s 1 2) star-near ∙ e

pub ends-right : AllRight figure_end_table
ends-right =
    star-valid
    & star-figure _ _ (figure-from (near (most_buses - 1)) (set []) 1 2 (most_buses - 1) 0 0 (first-size (most_buses - 1))
    (ap (λ (s : ℕ). bit s 1) set-empty ∙ bit-zero 1) (none-observed (most_buses - 1)))
    & star-figure _ _ (figure-from (near (most_buses - 1)) (every (most_buses - 1)) 1 2 (most_buses - 1) 1 (most_buses - 2)
    (first-size (most_buses - 1)) ((all-buses most_buses).has 1 (bus_passes most_buses 1 refl)) (all-observed (most_buses - 2)))
    & tt
