-- How long the text of a case is: its circuits have at most two digits, so its lines are shorter than any record may be.
use mathlib.Core.Path.{◌≡◌, ap, ◌∙◌}
use mathlib.Core.Bool.{Bool, true, false, cond}
use mathlib.Core.List.{List, [], ◌∷◌, ◌++◌}
use Prim.Native.Nat.{ℕ, suc, zero, ◌+◌, ◌*◌, ◌≤◌, ◌<◌}
use native.Mathlib.Omega.{arith}
use lib.Dec.{ltb}
use lib.ListN.{length, length-append}
use Rattle.grid.specs.Limits.{least_several}
use Rattle.text_field.specs.Number.{most_digits}
use Rattle.text_field.specs.Split.{join}
use Rattle.text_field.proofs.Digits.{text_length, text-two}
use Rattle.case_line.specs.Record.{record_text}
use Rattle.case_line.specs.declared.Record.{Record}
use Rattle.case_line.specs.declared.Record.TheVariants.{Line, Circuits}
use Rattle.case_read.proofs.Lengths.{lines_append}
use Rattle.case_line.specs.CaseText.{has, members, line_record, line_from, line_records, lines_text}

-- no line is longer than this: `line`, three tabs, two numbers and two digits
abbrev short_room : ℕ
short_room = 9 + 2 * most_digits

line-short : (a b k : ℕ) → k < 100 → length (record_text (line_record a b k)) ≤ short_room
unfolding record_text join
line-short a b k l = go (ltb k least_several)
  where
    go : (t : Bool) → length (record_text (cond t (Line a b) (Circuits a b k))) ≤ short_room
    go true = simp length-append (omega (arith, text_length a, text_length b))
    go false = simp length-append (omega (arith, text_length a, text_length b, text-two k l))

-- ---- the lines of a case, with their line feeds

-- the text of these records is at most so long
pub record Short (rs : List Record) : Type 0 where
  pub length_of : length (lines_text rs) ≤ suc short_room * length rs

short_none : Short []
unfolding lines_text
short_none = record { length_of = omega arith }

short-more : (r : Record) (rs : List Record) → length (record_text r) ≤ short_room → Short rs → Short (r ∷ rs)
unfolding lines_text
short-more r rs l s = record { length_of = simp length-append (omega (arith, s.length_of)) }

pub append_length : (rs qs : List Record) → length (lines_text (rs ++ qs)) ≡ length (lines_text rs) + length (lines_text qs)
append_length rs qs = ap length (lines_append rs qs) ∙ length-append (lines_text rs) (lines_text qs)

short_append : (rs qs : List Record) → Short rs → Short qs → Short (rs ++ qs)
short_append rs qs s t =
    record { length_of = omega (arith, append_length rs qs, length-append rs qs, s.length_of, t.length_of) }

members-short : (f : ℕ → Record) (s k m : ℕ) → ((b : ℕ) → length (record_text (f b)) ≤ short_room) → Short (members f s k m)
unfolding members
members-short f s k zero l = short_none
members-short f s k (suc m) l = turn (has s k) (members-short f s (k + 1) m l)
  where
    turn : (t : Bool) → Short (members f s (k + 1) m) → Short (cond t (f k ∷ members f s (k + 1) m) (members f s (k + 1) m))
    turn true q = short-more (f k) (members f s (k + 1) m) (l k) q
    turn false q = q

pub lines-short : (nbr : ℕ → ℕ) (counts : ℕ → ℕ → ℕ) (a m : ℕ) → ((i j : ℕ) → counts i j < 100) → Short (line_records nbr counts a m)
unfolding line_records
lines-short nbr counts a zero l = short_none
lines-short nbr counts a (suc m) l =
    short_append (members (line_from counts a) (nbr a) (a + 1) m) (line_records nbr counts (a + 1) m)
    (members-short (line_from counts a) (nbr a) (a + 1) m (λ b. line-short a b (counts a b) (l a b))) (lines-short nbr counts (a + 1) m l)
