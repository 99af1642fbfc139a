-- The sets of each bus, by bus number and place: what is read after a set is put.
use mathlib.Core.Path.{◌≡◌, refl, sym, ap, ◌∙◌}
use mathlib.Core.List.{◌++◌}
use Prim.Native.Nat.{ℕ, zero, suc, ◌+◌, ◌-◌, ◌*◌, ◌≤◌, ◌<◌}
use native.Mathlib.Omega.{arith}
use lib.ListN.{get_or, length, length-set, length-replicate, replicate, get_or-eq_default}
use lib.Seq.{get_or-set_same, get_or-set_other}
use Rattle.busset.specs.Sets.{bit, In, Out, empty, set_of}
use Rattle.busset.specs.Held.{SetWord, empty_word}
use Rattle.busset.proofs.Members.{out_of}
use Rattle.busset.proofs.Words.{set-empty, set-zero}
use Rattle.grid.specs.Rows.{bus_sets, rows_length, Rows, set_at, neighbours, with_set, no_rows}

-- ---- where a set stands

-- set i of bus b stands at bus_sets * (b - 1) + i
pub set-at : (rows : Rows) (b i : ℕ) → 1 ≤ b → set_of (get_or rows (bus_sets * (b - 1) + i) empty_word) ≡ set_at rows b i
unfolding set_at
set-at rows zero i l = absurd (omega arith)
set-at rows (suc b) i l =
    let e : bus_sets * suc b + i ≡ suc (suc (suc (suc (suc (bus_sets * (suc b - 1) + i))))) = omega arith in
    ap (λ (k : ℕ). set_of (get_or (replicate bus_sets empty_word ++ rows) k empty_word)) (sym e)

-- bus 0 and the buses past the rows have none
pub set-none : (rows : Rows) (i : ℕ) → i < bus_sets → set_at rows 0 i ≡ empty
unfolding set_at
set-none rows zero l = set-empty
set-none rows (suc zero) l = set-empty
set-none rows (suc (suc zero)) l = set-empty
set-none rows (suc (suc (suc zero))) l = set-empty
set-none rows (suc (suc (suc (suc zero)))) l = set-empty
set-none rows (suc (suc (suc (suc (suc i))))) l = absurd (omega arith)

pub set_past : (rows : Rows) (b i : ℕ) → length rows + bus_sets ≤ bus_sets * b → set_at rows b i ≡ empty
unfolding set_at
set_past rows b i l =
    ap set_of (get_or-eq_default (replicate bus_sets empty_word ++ rows) empty_word {n = bus_sets * b + i} (omega arith)) ∙ set-empty

-- no bus is joined to a bus 0
pub set-bus : (rows : Rows) (b i : ℕ) → Out (set_at rows b i) 0
unfolding set_at
set-bus rows b i = set-zero (get_or (replicate bus_sets empty_word ++ rows) (bus_sets * b + i) empty_word)

-- ---- the neighbours are the first set

pub row-set : (rows : Rows) (b : ℕ) → neighbours rows b ≡ set_at rows b 0
unfolding neighbours
row-set rows b = refl

pub row_zero : (rows : Rows) → neighbours rows 0 ≡ empty
row_zero rows = row-set rows 0 ∙ set-none rows 0 (omega arith)

pub row-past : (rows : Rows) (b : ℕ) → length rows + bus_sets ≤ bus_sets * b → neighbours rows b ≡ empty
row-past rows b l = row-set rows b ∙ set_past rows b 0 l

-- ---- after a set is put

module _ (rows : Rows) (x i : ℕ) (w : SetWord) (h : 1 ≤ x) (k : i < bus_sets) where
  pub set_put_same : bus_sets * x ≤ length rows → set_at (with_set rows x i w) x i ≡ set_of w
  set_put_same l =
      sym (set-at (with_set rows x i w) x i h) ∙ ap set_of (get_or-set_same rows (bus_sets * (x - 1) + i) w empty_word (omega arith))

  pub set_put_other : (y j : ℕ) → j < bus_sets → ((y ≡ x) → (j ≡ i) → ⊥) → set_at (with_set rows x i w) y j ≡ set_at rows y j
  set_put_other zero j m ne = set-none (with_set rows x i w) j m ∙ sym (set-none rows j m)
  set_put_other (suc y) j m ne =
      sym (set-at (with_set rows x i w) (suc y) j (omega arith))
      ∙ ap set_of (get_or-set_other rows (bus_sets * (x - 1) + i) (bus_sets * (suc y - 1) + j) w empty_word
      (λ e. ne (omega arith) (omega arith)))
      ∙ set-at rows (suc y) j (omega arith)

-- there are still as many sets
pub set-put_length : (rows : Rows) (x i : ℕ) (w : SetWord) → length (with_set rows x i w) ≡ length rows
set-put_length rows x i w = length-set rows (bus_sets * (x - 1) + i) w

-- rows of no line have no set
pub no_words : (m k i : ℕ) → get_or (replicate m empty_word ++ replicate k empty_word) i empty_word ≡ empty_word
no_words zero zero i = refl
no_words zero (suc k) zero = refl
no_words zero (suc k) (suc i) = no_words zero k i
no_words (suc m) k zero = refl
no_words (suc m) k (suc i) = no_words m k i

pub no-rows-set : (b i : ℕ) → set_at no_rows b i ≡ empty
unfolding set_at
no-rows-set b i = ap set_of (no_words bus_sets rows_length (bus_sets * b + i)) ∙ set-empty

pub no-rows_length : length no_rows ≡ rows_length
no-rows_length = length-replicate rows_length empty_word

-- ---- a digit: whether b is in a set
