-- How long a case's text is.
use mathlib.Core.Path.{◌≡◌, refl, sym, ap, ◌∙◌}
use mathlib.Core.Bool.{Bool, true, false, cond}
use mathlib.Core.List.{List, [], ◌∷◌, ◌++◌, append_assoc}
use Prim.Native.Nat.{ℕ, suc, zero, ◌+◌, ◌*◌, ◌≤◌}
use native.Mathlib.Omega.{arith}
use lib.ListN.{length, length-append}
use Rattle.grid.specs.Limits.{most_buses}
use Rattle.text_field.specs.Split.{line_feed}
use Rattle.case_line.specs.Record.{record_text}
use Rattle.case_line.specs.declared.Record.{Record}
use Rattle.case_line.proofs.Lengths.{record_room, record_length}
use Rattle.case_line.specs.CaseText.{has, bus_records, members, line_from, line_records, lines_text}

-- no record is longer than this, with its line feed
abbrev pub line_room : ℕ
line_room = suc record_room

-- nor are the lines of one bus than this
abbrev pub row_room : ℕ
row_room = line_room * most_buses

pub lines_length : (rs : List Record) → length (lines_text rs) ≤ line_room * length rs
unfolding lines_text
lines_length [] = omega arith
lines_length (r ∷ rs) = simp length-append (omega (arith, record_length r, lines_length rs))

pub lines_append : (rs qs : List Record) → lines_text (rs ++ qs) ≡ lines_text rs ++ lines_text qs
unfolding lines_text
lines_append [] qs = refl
lines_append (r ∷ rs) qs =
    ap (λ (t : List ℕ). record_text r ++ line_feed ∷ t) (lines_append rs qs)
    ∙ sym (append_assoc (record_text r) (line_feed ∷ lines_text rs) (lines_text qs))

pub buses_length : (z_buses sites k m : ℕ) → length (bus_records z_buses sites k m) ≡ m
unfolding bus_records
buses_length z_buses sites k zero = refl
buses_length z_buses sites k (suc m) = ap suc (buses_length z_buses sites (k + 1) m)

pub members_length : (f : ℕ → Record) (s k m : ℕ) → length (members f s k m) ≤ m
unfolding members
members_length f s k zero = omega arith
members_length f s k (suc m) = shorter (has s k) (f k) (members f s (k + 1) m) (members_length f s (k + 1) m)
  where
    shorter : (t : Bool) (x : Record) (xs : List Record) → length xs ≤ m → length (cond t (x ∷ xs) xs) ≤ suc m
    shorter true x xs h = omega arith
    shorter false x xs h = omega arith

rows-length : (nbr : ℕ → ℕ) (counts : ℕ → ℕ → ℕ) (a m : ℕ) → m ≤ most_buses → length (line_records nbr counts a m) ≤ most_buses * m
unfolding line_records
rows-length nbr counts a zero h = omega arith
rows-length nbr counts a (suc m) h =
    simp length-append (omega
    (arith, members_length (line_from counts a) (nbr a) (a + 1) m, rows-length nbr counts (a + 1) m (omega arith)))

-- ---- bounds for a grid

module _ (n : ℕ) (h : n ≤ most_buses) where
  pub buses_most : (z_buses sites : ℕ) → length (lines_text (bus_records z_buses sites 1 n)) ≤ row_room
  buses_most z_buses sites = omega (arith, lines_length (bus_records z_buses sites 1 n), buses_length z_buses sites 1 n)

  pub rows_most : (nbr : ℕ → ℕ) (counts : ℕ → ℕ → ℕ) → length (lines_text (line_records nbr counts 1 n)) ≤ row_room * most_buses
  rows_most nbr counts = omega (arith, lines_length (line_records nbr counts 1 n), rows-length nbr counts 1 n h)

  pub members_most : (f : ℕ → Record) (s : ℕ) → length (lines_text (members f s 1 n)) ≤ row_room
  members_most f s = omega (arith, lines_length (members f s 1 n), members_length f s 1 n)
