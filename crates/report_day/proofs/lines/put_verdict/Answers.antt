-- 0 is `yes`. Any other count has at most 4 digits, so the place of the line feed is within its bound.
use native.Mathlib.Omega.{arith}
use Rattle.text_field.specs.Split.{join}
use Rattle.text_field.proofs.Digits.{text_length}
use Rattle.text_put.proofs.Putting.{put_then}
use Rattle.report_day.proofs.Texts.{verdict-some}
use Rattle.report_day.proofs.lines.put_verdict.Goals as goal

pub put_byte-requires : goal.put_byte-requires
put_byte-requires c = omega (arith, c.put_tagged-a.ensures.next, text_length c.args.alone)

pub returns-else-alone-eq0 : goal.returns-else-alone-eq0
unfolding join
returns-else-alone-eq0 c = rw (verdict-some _ c.if-alone-eq0.false) (put_then c.put_tagged-a.ensures c.put_byte.ensures)
