-- Five texts, put one after another, are the whole. Each ends at most its room after it starts, so every place is within its bound.
use native.Mathlib.Omega.{arith}
use Rattle.case_read.proofs.Lengths.{buses_most, rows_most, members_most}
use Rattle.case_write.proofs.Turns.{line_length, whole}
use Rattle.text_put.proofs.Putting.{put_then, put_same}
use Rattle.case_write.proofs.cases.put_case.Goals as goal

pub put_buses-b-requires : goal.put_buses-b-requires
put_buses-b-requires c = omega (arith, line_length)

pub put_lines-c-requires : goal.put_lines-c-requires
put_lines-c-requires c = omega (arith, line_length, buses_most _ c.requires)

pub put_units-d-requires : goal.put_units-d-requires
put_units-d-requires c = omega (arith, line_length, buses_most _ c.requires, rows_most _ c.requires)

pub put_line-requires : goal.put_line-requires
put_line-requires c = omega (arith, line_length, buses_most _ c.requires, rows_most _ c.requires, members_most _ c.requires)

pub returns : goal.returns
returns c = put_same (whole _ _ _ _ _) (put_then c.put_line-a.ensures (put_then c.put_buses-b.ensures (put_then
    c.put_lines-c.ensures (put_then c.put_units-d.ensures c.put_line.ensures))))
