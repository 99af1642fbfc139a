-- Four texts, put one after another, are the plan. The first ends after 7 bytes and a number, and the units take at most row_room bytes.
use native.Mathlib.Omega.{arith}
use Rattle.text_field.specs.Split.{join}
use Rattle.text_field.proofs.Digits.{text_length}
use Rattle.case_read.proofs.Lengths.{members_most}
use Rattle.report_plan.proofs.Reports.{plan_put}
use Rattle.text_put.proofs.Putting.{put-near}
use borrow.Author.Rules.{rules}
use Rattle.report_plan.proofs.printing.put_plan.Goals as goal

pub put_byte-b-requires : goal.put_byte-b-requires
put_byte-b-requires c = omega (arith, c.put_tagged-a.ensures.next, text_length c.count.result)

pub put_units-d-requires : goal.put_units-d-requires
put_units-d-requires c = (omega (arith, c.put_byte-b.ensures.next, c.put_tagged-a.ensures.next, text_length c.count.result), search rules)

pub put_all-requires : goal.put_all-requires
put_all-requires c = (
  omega (
    arith,
    put-near c.put_units-d.ensures (members_most _ c.requires _ _),
    c.put_byte-b.ensures.next,
    c.put_tagged-a.ensures.next,
    text_length c.count.result,
  ),
  omega arith,
)

pub returns : goal.returns
unfolding join
returns c = search plan_put
