-- By the record's kind: its parts, put one after another, are its text. A number has at most most_digits digits, so no part ends past the
-- bound of the next.
use native.Mathlib.Omega.{arith}
use Rattle.text_field.specs.Split.{join}
use Rattle.case_line.specs.Record.{record_text}
use Rattle.case_line.proofs.Lengths.{letter_length}
use Rattle.text_field.proofs.Digits.{text_length}
use Rattle.text_put.proofs.Putting.{put_then}
use Rattle.case_write.proofs.put_record.Goals as goal

pub put_mark-b-requires : goal.put_mark-b-requires
put_mark-b-requires c = omega (arith, text_length)

pub put_mark-requires : goal.put_mark-requires
put_mark-requires c = omega (arith, text_length, letter_length)

pub put_tagged-requires-in-Line : goal.put_tagged-requires-in-Line
put_tagged-requires-in-Line c = let f = rw c.in-Line.is at c.requires.1 in omega (arith, text_length)

pub put_tagged-b-requires : goal.put_tagged-b-requires
put_tagged-b-requires c = let f = rw c.in-Circuits.is at c.requires.1 in omega (arith, text_length)

pub put_tagged-requires-in-Circuits : goal.put_tagged-requires-in-Circuits
put_tagged-requires-in-Circuits c = let f = rw c.in-Circuits.is at c.requires.1 in omega (arith, text_length)

pub returns-in-Bus : goal.returns-in-Bus
unfolding record_text join
returns-in-Bus c = rw c.in-Bus.is (put_then c.put_tagged-a.ensures (put_then c.put_mark-b.ensures c.put_mark.ensures))

pub returns-in-Line : goal.returns-in-Line
unfolding record_text join
returns-in-Line c = rw c.in-Line.is (put_then c.put_tagged-a-in-Line.ensures c.put_tagged-in-Line.ensures)

pub returns-in-Circuits : goal.returns-in-Circuits
unfolding record_text join
returns-in-Circuits c =
    rw c.in-Circuits.is
    (put_then c.put_tagged-a-in-Circuits.ensures (put_then c.put_tagged-b.ensures c.put_tagged-in-Circuits.ensures))
