-- At first all rows are left to put, a turn puts the one of bus a, and at the end none is left.
use mathlib.Core.Path.{refl}
use native.Mathlib.Omega.{arith}
use Rattle.case_line.specs.CaseText.{line_records}
use Rattle.case_write.proofs.Turns.{turn_row, turn_all}
use borrow.Author.Rules.{rules}
use Rattle.case_write.proofs.cases.put_lines.Goals as goal

pub loop-a-preserved : goal.loop-a-preserved
loop-a-preserved c = search turn_row

pub returns : goal.returns
unfolding line_records
returns c = turn_all _ c.loop-a.invariant (search rules) (omega arith) refl
