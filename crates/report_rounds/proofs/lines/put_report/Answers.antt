-- Two texts, put one after another, are the report. The lines of the rounds end within the bound of the last line.
use Rattle.text_field.specs.Split.{join}
use Rattle.text_put.proofs.Putting.{put_then}
use Rattle.report_rounds.proofs.lines.put_report.Goals as goal

pub returns : goal.returns
unfolding join
returns c = λ rounds h. put_then (c.put_rounds-a.ensures.1 rounds h) c.put_all.ensures
