-- The `line` records of a case are as many as its lines: each line is written at its lower bus, and counted at its higher.
use mathlib.Core.Path.{◌≡◌, refl, sym, ap, ◌∙◌}
use mathlib.Core.Bool.{Bool, true, false, cond}
use mathlib.Core.List.{List, [], ◌∷◌}
use mathlib.Core.Logic.{⊎_elim}
use Prim.Native.Nat.{ℕ, suc, zero, ◌+◌, ◌≤◌}
use native.Mathlib.Nat.{mod-lt}
use native.Mathlib.Omega.{arith}
use borrow.Author.Tests.{eqb-true, eqb-false}
use lib.ListN.{length, length-append}
use lib.Pow.{pow_pos}
use Rattle.busset.specs.Sets.{bit, In, Out, size, up_to}
use Rattle.busset.proofs.Members.{in_or, out_of, up_to_in, up_to_sub}
use Rattle.busset.proofs.Sizes.{size-le}
use Rattle.busset.proofs.Sums.{sum, sum_ap, ones_sum}
use Rattle.case_line.specs.declared.Record.{Record}
use Rattle.rules.specs.Grids.{total, line_count}
use Rattle.grid.specs.Cases.{Lines}
use Rattle.case_line.specs.CaseText.{has, members, line_from, line_records}

-- ---- one bus more at the top

-- a member, or none
counted : (s k : ℕ) (r : Record) (rs : List Record) → length (cond (has s k) (r ∷ rs) rs) ≡ bit s k + length rs
counted s k r rs = go (has s k) refl
  where
    go : (b : Bool) → has s k ≡ b → length (cond b (r ∷ rs) rs) ≡ bit s k + length rs
    go true e = omega (arith, eqb-true (bit s k) 1 e)
    go false e = omega (arith, eqb-false (bit s k) 1 e)

members_top : (f : ℕ → Record) (s k m : ℕ) → length (members f s k (suc m)) ≡ length (members f s k m) + bit s (k + m)
unfolding members
members_top f s k zero = let e : k + 0 ≡ k = omega arith in omega (arith, counted s k (f k) [], ap (bit s) e)
members_top f s k (suc m) =
    let e : k + 1 + m ≡ k + suc m = omega arith in
    omega (
      arith,
      counted s k (f k) (members f s (k + 1) (suc m)),
      counted s k (f k) (members f s (k + 1) m),
      members_top f s (k + 1) m,
      ap (bit s) e,
    )

-- the buses of s up to m
up_to-sum : (m s : ℕ) → size (up_to m s) ≡ sum (suc m) (bit s)
unfolding up_to
up_to-sum m s =
    ones_sum (suc m) (up_to m s) (mod-lt s (pow_pos (suc m)))
    ∙ sum_ap (suc m) {f = bit (up_to m s)} {g = bit s} (λ i l. up_to_in m s i (omega arith))

members-sum : (f : ℕ → Record) (s m : ℕ) → length (members f s 1 m) + bit s 0 ≡ sum (suc m) (bit s)
unfolding members sum
members-sum f s zero = omega arith
members-sum f s (suc m) = let e : 1 + m ≡ suc m = omega arith in omega (arith, members_top f s 1 m, members-sum f s m, ap (bit s) e)

-- no more records than the set has buses
pub members-few : (f : ℕ → Record) (s m : ℕ) → length (members f s 1 m) ≤ size s
members-few f s m = omega (arith, members-sum f s m, up_to-sum m s, size-le (up_to m s) s (up_to_sub m s))

-- how many of the m buses from a on are joined to t
unfoldable column : (ℕ → ℕ) → ℕ → ℕ → ℕ → ℕ
column nbr t a zero = 0
column nbr t a (suc m) = bit (nbr a) t + column nbr t (a + 1) m

rows_top : (nbr : ℕ → ℕ) (counts : ℕ → ℕ → ℕ) (a m : ℕ)
    → length (line_records nbr counts a (suc m)) ≡ length (line_records nbr counts a m) + column nbr (a + m) a m
unfolding line_records members column
rows_top nbr counts a zero = refl
rows_top nbr counts a (suc m) =
    let e : a + 1 + m ≡ a + suc m = omega arith in
    let row : ℕ → List Record = members (line_from counts a) (nbr a) (a + 1) in
    omega (
      arith,
      length-append (row (suc m)) (line_records nbr counts (a + 1) (suc m)),
      length-append (row m) (line_records nbr counts (a + 1) m),
      members_top (line_from counts a) (nbr a) (a + 1) m,
      rows_top nbr counts (a + 1) m,
      ap (bit (nbr a)) e,
      ap (λ (t : ℕ). column nbr t (a + 1) m) e,
    )

column_top : (nbr : ℕ → ℕ) (t a m : ℕ) → column nbr t a (suc m) ≡ column nbr t a m + bit (nbr (a + m)) t
unfolding column
column_top nbr t a zero = let e : a + 0 ≡ a = omega arith in omega (arith, ap (λ (i : ℕ). bit (nbr i) t) e)
column_top nbr t a (suc m) =
    let e : a + 1 + m ≡ a + suc m = omega arith in
    omega (arith, column_top nbr t (a + 1) m, ap (λ (i : ℕ). bit (nbr i) t) e)

-- ---- where lines are the same seen from both ends

module _ (n : ℕ) (nbr : ℕ → ℕ) (lines : Lines n nbr) where
  pub both_ends : (i j : ℕ) → bit (nbr i) j ≡ bit (nbr j) i
  both_ends i j =
      ⊎_elim
      (λ (p : In (nbr i) j). p ∙ sym (lines i j p).back)
      (λ (p : Out (nbr i) j). p ∙ sym (out_of (nbr j) i (λ q. let r = (lines j i q).back in omega arith)))
      (in_or (nbr i) j)

  pub not_self : (i : ℕ) → Out (nbr i) i
  not_self i = out_of (nbr i) i (λ p. (lines i i p).differ refl)

  pub not_zero : (i : ℕ) → Out (nbr i) 0
  not_zero i = out_of (nbr i) 0 (λ p. omega (arith, (lines i 0 p).to.some))

  column_sum : (t m : ℕ) → column nbr t 1 m ≡ sum (suc m) (bit (nbr t))
  unfolding column sum
  column_sum t zero = omega (arith, not_zero t)
  column_sum t (suc m) =
      let e : 1 + m ≡ suc m = omega arith in
      omega (arith, column_top nbr t 1 m, column_sum t m, both_ends (suc m) t, ap (λ (i : ℕ). bit (nbr i) t) e)

  higher : (m : ℕ) → column nbr (suc m) 1 m ≡ size (up_to (suc m) (nbr (suc m)))
  unfolding sum
  higher m = let t = suc m in omega (arith, column_sum t m, not_self t, up_to-sum t (nbr t))

  -- one record for each line
  pub line-records : (counts : ℕ → ℕ → ℕ) (m : ℕ) → length (line_records nbr counts 1 m) ≡ line_count m nbr
  unfolding total line_records
  line-records counts zero = refl
  line-records counts (suc m) =
      let e : 1 + m ≡ suc m = omega arith in
      omega (arith, rows_top nbr counts 1 m, line-records counts m, higher m, ap (λ (t : ℕ). column nbr t 1 m) e)
