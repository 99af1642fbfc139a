-- How long a record's text is.
use mathlib.Core.Path.{◌≡◌, refl}
use mathlib.Core.Bool.{Bool, true, false}
use Prim.Native.Nat.{ℕ, ◌+◌, ◌*◌, ◌≤◌}
use native.Mathlib.Omega.{arith}
use lib.ListN.{length, length-append}
use Rattle.text_field.specs.Split.{join}
use Rattle.text_field.specs.Number.{most_digits}
use Rattle.text_field.proofs.Digits.{text_length}
use Rattle.case_line.specs.Fields.{letter_z, letter_i, letter_y, letter_n}
use Rattle.case_line.specs.Record.{letter_if, record_text}
use Rattle.case_line.specs.declared.Record.{Record}
use Rattle.case_line.specs.declared.Record.TheVariants.{Grid, Bus, Line, Circuits, Pmu, End, Wrong}

pub letter_length : (t : Bool) (p q : ℕ) → length (letter_if t p q) ≡ 1
letter_length true p q = refl
letter_length false p q = refl

-- no record is longer than this: `line`, three tabs and three numbers
abbrev pub record_room : ℕ
record_room = 7 + 3 * most_digits

pub record_length : (r : Record) → length (record_text r) ≤ record_room
unfolding record_text join
record_length (Grid n) = omega (arith, text_length n)
record_length (Bus n z o) =
    simp length-append (omega (arith, text_length n, letter_length z letter_z letter_i, letter_length o letter_y letter_n))
record_length (Line a b) = simp length-append (omega (arith, text_length a, text_length b))
record_length (Circuits a b k) = simp length-append (omega (arith, text_length a, text_length b, text_length k))
record_length (Pmu n) = omega (arith, text_length n)
record_length End = omega arith
record_length Wrong = omega arith
