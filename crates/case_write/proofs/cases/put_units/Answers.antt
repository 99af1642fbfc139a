-- At first all units are left to put, a turn puts the one of bus b if there is one, and at the end none is left.
use mathlib.Core.Path.{refl}
use native.Mathlib.Omega.{arith}
use Rattle.case_line.specs.CaseText.{members}
use Rattle.case_write.proofs.Turns.{turn_member, turn_all}
use Rattle.text_put.proofs.Putting.{put-none}
use borrow.Author.Rules.{rules}
use Rattle.case_write.proofs.cases.put_units.Goals as goal
use Rattle.case_write.proofs.cases.put_units.Goals.{then-has, else-has}

pub loop-b-preserved : goal.loop-b-preserved
loop-b-preserved c = turn_member _ _ c.loop-b.invariant (search rules) c.has.ensures (elim c.if-has.branch [
  | then-has w ↦ rw (w.if-has.true, w.out-is, w.k-is) w.put_line-k.ensures
  | else-has w ↦ rw (w.if-has.false, w.out-is, w.k-is) put-none
])

pub returns : goal.returns
unfolding members
returns c = turn_all _ c.loop-b.invariant (search rules) (omega arith) refl
