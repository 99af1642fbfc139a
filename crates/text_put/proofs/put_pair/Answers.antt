-- Three texts, put one after another, are the line. A number has at most most_digits digits, so each part ends within the bound of the
-- next.
use native.Mathlib.Omega.{arith}
use Rattle.text_put.proofs.Putting.{put_then, tagged_near}
use Rattle.text_put.proofs.put_pair.Goals as goal

pub put_tagged-b-requires : goal.put_tagged-b-requires
put_tagged-b-requires c = omega (arith, c.requires, tagged_near c.args.v.now c.args.m c.put_tagged-a.ensures)

pub put_byte-requires : goal.put_byte-requires
put_byte-requires c = omega (
  arith,
  c.requires,
  tagged_near c.args.v.now c.args.m c.put_tagged-a.ensures,
  tagged_near c.args.w.now c.args.n c.put_tagged-b.ensures,
)

pub returns : goal.returns
returns c = search put_then
