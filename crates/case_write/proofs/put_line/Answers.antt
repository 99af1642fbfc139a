-- A record's text and its line feed, put one after another.
use native.Mathlib.Omega.{arith}
use Rattle.case_line.proofs.Lengths.{record_length}
use Rattle.text_put.proofs.Putting.{put_then}
use Rattle.case_write.specs.Lines.{line_text}
use Rattle.case_write.proofs.put_line.Goals as goal

pub put_byte-requires : goal.put_byte-requires
put_byte-requires c = omega (arith, record_length)

pub returns : goal.returns
unfolding line_text
returns c = search put_then
