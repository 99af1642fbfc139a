-- Only `Next` goes on, and it gives the `Fit` that building needs. `Last` ends where no byte follows its line feed.
use Rattle.case_judge.proofs.Judged.{fit_of}
use Rattle.case_read.proofs.Lines.{goes-on, ends, ends-early}
use Rattle.case_read.proofs.read_text.Goals as goal

pub take-requires : goal.take-requires
take-requires c = fit_of c.loop-line.reader.place c.record_of-record.result c.loop-line.invariant.small (cc)

pub returns-in-Ok-Last : goal.returns-in-Ok-Last
returns-in-Ok-Last c =
    let h = c.in-Some.ensures in
    ends c.in-Some.next c.loop-line.invariant h.0 h.1 h.2 c.record_of-record.ensures c.judge.ensures (cc) c.if-next-text.true
    c.case.ensures

pub returns-in-Ok-Last-2 : goal.returns-in-Ok-Last-2
returns-in-Ok-Last-2 c =
    let h = c.in-Some.ensures in
    ends-early c.in-Some.next c.loop-line.invariant h.0 h.1 h.2 c.record_of-record.ensures c.judge.ensures (cc) c.if-next-text.false

pub loop-line-preserved : goal.loop-line-preserved
loop-line-preserved c =
    let h = c.in-Some.ensures in
    goes-on c.in-Some.next c.loop-line.invariant h.0 h.1 h.2 c.record_of-record.ensures c.judge.ensures (cc) c.take.ensures
