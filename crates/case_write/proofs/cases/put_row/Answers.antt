-- A turn puts the line where b is in the row, and no byte otherwise. The circuits have four digits, so the line is `Formed`.
use mathlib.Core.Path.{refl}
use native.Mathlib.Omega.{arith}
use Rattle.case_line.specs.CaseText.{members}
use Rattle.case_write.proofs.Turns.{line-formed, turn_member, turn_all}
use Rattle.text_put.proofs.Putting.{put-none}
use borrow.Author.Rules.{rules}
use Rattle.case_write.proofs.cases.put_row.Goals as goal
use Rattle.case_write.proofs.cases.put_row.Goals.{then-has, else-has}

pub put_line-k-requires : goal.put_line-k-requires
put_line-k-requires c = (omega arith, rw c.line_record.ensures (line-formed _ (omega arith) (omega arith)))

pub loop-b-preserved : goal.loop-b-preserved
loop-b-preserved c = turn_member _ _ c.loop-b.invariant (search rules) c.has.ensures (elim c.if-has.branch [
  | then-has w ↦ rw (w.if-has.true, w.out-is, w.k-is, ← w.line_record.ensures) w.put_line-k.ensures
  | else-has w ↦ rw (w.if-has.false, w.out-is, w.k-is) put-none
])

pub returns : goal.returns
unfolding members
returns c = rw (← c.neighbours-row.ensures) (turn_all _ c.loop-b.invariant (search rules) (omega arith) refl)
