-- A test, which the checker computes, that a case value that is written out is valid: 0 where it passes. It goes over the neighbours that
-- are written. Each is joined by one circuit, and the buses that fill a case value up have none.
use mathlib.Core.Path.{◌≡◌, refl, sym, ap, ◌∙◌, subst⁻¹, fun_ext}
use mathlib.Core.List.{List, [], ◌∷◌, ◌++◌}
use mathlib.Core.Logic.{⊎_elim}
use Prim.Native.Nat.{ℕ, zero, suc, ◌+◌, ◌-◌, ◌*◌, ◌≤◌, ◌<◌}
use native.Mathlib.Omega.{arith}
use lib.ListN.{length, get_or, replicate, get_or-eq_default}
use Rattle.busset.specs.Sets.{Bus, bit, In, Out, Within, empty, set_of}
use Rattle.busset.specs.Held.{SetWord, empty_word}
use Rattle.basics.proofs.Tests.{below_or}
use Rattle.busset.proofs.Digits.{bit-zero}
use Rattle.busset.proofs.Words.{set-zero, set-empty}
use Rattle.rules.specs.Grids.{Proper, total, line_count}
use Rattle.tables.proofs.Tests.{total-same, total-past, total-none, total_pass, within_test, within_passes, size-up_to}
use Rattle.grid.specs.declared.Case.{Case}
use Rattle.grid.specs.Limits.{most_buses, most_lines}
use Rattle.grid.specs.Rows.{Rows, bus_sets, set_at, neighbours, circuits}
use Rattle.grid.specs.Cases.{Lines, Valid}
use Rattle.grid.proofs.Rows.{set-at, set-none, row-set, no_words}
use Rattle.case_inverse.proofs.Counts.{both_ends}
use Rattle.tables.specs.Starred.{singles, filled}

-- ---- the neighbours of bus b, of which these are written

unfoldable pub written_row : List SetWord → ℕ → ℕ
written_row ws b = set_of (get_or (empty_word ∷ ws) b empty_word)

pub written-zero : (ws : List SetWord) → written_row ws 0 ≡ empty
unfolding written_row
written-zero ws = set-empty

pub written-past : (ws : List SetWord) (b : ℕ) → length ws < b → written_row ws b ≡ empty
unfolding written_row
written-past ws b l = ap set_of (get_or-eq_default (empty_word ∷ ws) empty_word {n = b} (omega arith)) ∙ set-empty

pub written-bus : (ws : List SetWord) (b : ℕ) → Out (written_row ws b) 0
unfolding written_row
written-bus ws b = set-zero (get_or (empty_word ∷ ws) b empty_word)

-- ---- the sets of a case value: the neighbours, and once more as the lowest digit

-- set i where these are the neighbours
abbrev set_in : SetWord → ℕ → SetWord
set_in w zero = w
set_in w (suc zero) = w
set_in w (suc (suc i)) = empty_word

none_in : (i : ℕ) → set_in empty_word i ≡ empty_word
none_in zero = refl
none_in (suc zero) = refl
none_in (suc (suc i)) = refl

word_in : (ws : List SetWord) (m k i : ℕ) → i < bus_sets
    → get_or (singles ws ++ replicate m empty_word) (bus_sets * k + i) empty_word ≡ set_in (get_or ws k empty_word) i
word_in [] m k i l = no_words 0 m (bus_sets * k + i) ∙ sym (none_in i)
word_in (w ∷ ws) m zero zero l = refl
word_in (w ∷ ws) m zero (suc zero) l = refl
word_in (w ∷ ws) m zero (suc (suc zero)) l = refl
word_in (w ∷ ws) m zero (suc (suc (suc zero))) l = refl
word_in (w ∷ ws) m zero (suc (suc (suc (suc zero)))) l = refl
word_in (w ∷ ws) m zero (suc (suc (suc (suc (suc i))))) l = absurd (omega arith)
word_in (w ∷ ws) m (suc k) i l =
    let e : bus_sets * suc k + i ≡ suc (suc (suc (suc (suc (bus_sets * k + i))))) = omega arith in
    ap (λ (x : ℕ). get_or (singles (w ∷ ws) ++ replicate m empty_word) x empty_word) e ∙ word_in ws m k i l

module _ (ws : List SetWord) (m : ℕ) where
  abbrev rows : Rows
  rows = singles ws ++ replicate m empty_word

  set-in : (b i : ℕ) → i < bus_sets → set_at rows b i ≡ set_of (set_in (get_or (empty_word ∷ ws) b empty_word) i)
  set-in zero i l = set-none rows i l ∙ sym set-empty ∙ ap set_of (sym (none_in i))
  set-in (suc b) i l =
      let e : bus_sets * (suc b - 1) + i ≡ bus_sets * b + i = omega arith in
      sym (set-at rows (suc b) i (omega arith)) ∙ ap (λ (x : ℕ). set_of (get_or rows x empty_word)) e ∙ ap set_of (word_in ws m b i l)

  pub written_is : neighbours rows ≡ written_row ws
  unfolding written_row
  written_is = fun_ext (λ b. row-set rows b ∙ set-in b 0 (omega arith))

  -- each neighbour is counted once
  pub one_circuit : (a b : ℕ) → circuits rows a b ≡ bit (written_row ws a) b
  unfolding circuits written_row
  one_circuit a b =
      let at : (i : ℕ) → i < bus_sets → bit (set_at rows a i) b ≡ bit (set_of (set_in (get_or (empty_word ∷ ws) a empty_word) i)) b =
      λ i l. ap (λ (s : ℕ). bit s b) (set-in a i l) in
      let none : bit (set_of empty_word) b ≡ 0 = ap (λ (s : ℕ). bit s b) set-empty ∙ bit-zero b in
      omega (arith, at 1 (omega arith), at 2 (omega arith), at 3 (omega arith), at 4 (omega arith), none)

-- ---- the test

-- all that bus a is joined to is joined to it by a line
unfoldable pub row_test : ℕ → (ℕ → ℕ) → ℕ → ℕ
row_test n nbr a = within_test n (nbr a) + bit (nbr a) a + total n (λ b. bit (nbr a) b - bit (nbr b) a)

-- how many lines there are: the buses up to b that b is joined to, for each b
unfoldable pub lines_test : ℕ → (ℕ → ℕ) → ℕ
lines_test n nbr = total n (λ b. total b (bit (nbr b)))

pub lines-counted : (n : ℕ) (ws : List SetWord) → line_count n (written_row ws) ≡ lines_test n (written_row ws)
unfolding lines_test
lines-counted n ws = total-same n (λ b. size-up_to b (written_row ws b) (written-bus ws b))

-- they are those of the buses that are written
lines_rows : (n : ℕ) (ws : List SetWord) → lines_test n (written_row ws) ≤ lines_test (length ws) (written_row ws)
unfolding lines_test
lines_rows n ws =
    total-past (λ b. total b (bit (written_row ws b))) (length ws) n
    (λ b l. total_pass b (bit (written_row ws b)) (λ a. ap (λ (s : ℕ). bit s a) (written-past ws b l) ∙ bit-zero a))

-- a case value with proper neighbours is valid: its circuits are one to each
pub filled-valid : (c : Case) → Bus most_buses c.n → Lines c.n (written_row c.nbr) → Within c.n (set_of c.zero)
    → Within c.n (set_of c.site) → Within c.n (set_of c.units) → line_count c.n (written_row c.nbr) ≤ most_lines
    → Valid (filled c)
filled-valid c buses lines zeros sites units few =
    let m = bus_sets * (most_buses - length c.nbr) in
    let same = written_is c.nbr m in
    let one = one_circuit c.nbr m in
    let at : (a b : ℕ) → bit (neighbours (filled c).nbr a) b ≡ bit (written_row c.nbr a) b =
    λ a b. ap (λ (f : ℕ → ℕ). bit (f a) b) same in
    record {
      buses = buses;
      proper = subst⁻¹ (λ (nbr : ℕ → ℕ). Proper (record {
        n = c.n;
        neighbours = nbr;
        zeros = set_of c.zero;
        sites = set_of c.site;
        units = set_of c.units;
      })) same (record { lines = lines; zeros = zeros; sites = sites; units = units });
      few = subst⁻¹ (λ (nbr : ℕ → ℕ). line_count c.n nbr ≤ most_lines) same few;
      joined = λ a b h. record { some = omega (arith, one a b, at a b); most = omega (arith, one a b, at a b) };
      others = λ a b o. omega (arith, one a b, at a b);
      alike = λ a b. omega (arith, one a b, one b a, both_ends c.n (written_row c.nbr) lines a b);
    }

unfoldable pub valid_test : Case → ℕ
valid_test c =
    (1 - c.n) + (c.n - most_buses) + total (length c.nbr) (row_test c.n (written_row c.nbr))
    + within_test c.n (set_of c.zero) + within_test c.n (set_of c.site) + within_test c.n (set_of c.units)
    + (lines_test (length c.nbr) (written_row c.nbr) - most_lines)

module _ (c : Case) (ok : valid_test c ≡ 0) where
  -- a bus with a neighbour has a row
  has_row : (a b : ℕ) → In (written_row c.nbr a) b → Bus (length c.nbr) a
  has_row zero b h = absurd (omega (arith, ap (λ (s : ℕ). bit s b) (written-zero c.nbr), bit-zero b))
  has_row (suc a) b h =
      ⊎_elim
      (λ (l : length c.nbr < suc a). absurd (omega (arith, ap (λ (s : ℕ). bit s b) (written-past c.nbr (suc a) l), bit-zero b)))
      (λ (l : suc a ≤ length c.nbr). record { some = omega arith; most = l })
      (below_or (length c.nbr) (suc a))

  row_ok : (a b : ℕ) → In (written_row c.nbr a) b → row_test c.n (written_row c.nbr) a ≡ 0
  unfolding valid_test
  row_ok a b h = total-none (length c.nbr) (row_test c.n (written_row c.nbr)) (omega arith) a (has_row a b h)

  to : (a b : ℕ) → In (written_row c.nbr a) b → Bus c.n b
  unfolding row_test
  to a b h = within_passes c.n (written_row c.nbr a) (written-bus c.nbr a) (omega (arith, row_ok a b h)) b h

  back : (a b : ℕ) → In (written_row c.nbr a) b → In (written_row c.nbr b) a
  unfolding row_test
  back a b h =
      let nbr = written_row c.nbr in
      omega (arith, total-none c.n (λ b. bit (nbr a) b - bit (nbr b) a) (omega (arith, row_ok a b h)) b (to a b h))

  lines_pass : Lines c.n (written_row c.nbr)
  unfolding row_test
  lines_pass a b h = record {
    from = to b a (back a b h);
    to = to a b h;
    differ = λ e. omega (arith, row_ok a b h, ap (λ (x : ℕ). bit (written_row c.nbr a) x) e);
    back = back a b h;
  }

  pub filled_passes : Valid (filled c)
  unfolding valid_test
  filled_passes = filled-valid c (record { some = omega arith; most = omega arith }) lines_pass
      (within_passes c.n (set_of c.zero) (set-zero c.zero) (omega arith))
      (within_passes c.n (set_of c.site) (set-zero c.site) (omega arith))
      (within_passes c.n (set_of c.units) (set-zero c.units) (omega arith))
      (omega (arith, lines-counted c.n c.nbr, lines_rows c.n c.nbr))
