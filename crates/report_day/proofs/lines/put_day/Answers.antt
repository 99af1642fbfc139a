-- Four texts, put one after another, are the report. Each ends at most its room after it starts, so every place is within its bound.
use Rattle.text_field.specs.Split.{join}
use native.Mathlib.Omega.{arith}
use Rattle.text_put.proofs.Putting.{put_then, put-near}
use Rattle.report_day.proofs.Texts.{observed-put, list_length, verdict_length}
use Rattle.report_day.proofs.lines.put_day.Goals as goal

pub put_steps-b-requires : goal.put_steps-b-requires
put_steps-b-requires c = (omega (arith, observed-put _ _ c.put_observed-a.ensures), c.requires.1)

pub put_verdict-c-requires : goal.put_verdict-c-requires
put_verdict-c-requires c = (
  omega (
    arith,
    observed-put _ _ c.put_observed-a.ensures,
    put-near c.put_steps-b.ensures (list_length c.args.steps.now c.requires.1),
  ),
  c.requires.2,
)

pub put_all-requires : goal.put_all-requires
put_all-requires c = (
  omega (
    arith,
    observed-put _ _ c.put_observed-a.ensures,
    put-near c.put_steps-b.ensures (list_length c.args.steps.now c.requires.1),
    put-near c.put_verdict-c.ensures (verdict_length c.args.alone c.requires.2),
  ),
  omega arith,
)

pub returns : goal.returns
unfolding join
returns c = search put_then
