-- The call's own contract is its promise: it asks nothing of the caller, and what it tells of a reply is what the promise says.
use contract.Lifetimes.{Lfts}
use Rattle.refusals.specs.Calls.{Keeps}
use Rattle.report_day.specs.Day.{day_report_call}
use Rattle.report_day.proofs.day_report.Reads as day-report

pub day-report-promised : (κs : Lfts 2) → Keeps day_report_call (λ (text, _). text.now) (λ (_, (out, _)). out.now)
    (day-report.Asked κs) (day-report.Learnt κs)
day-report-promised κs a = (tt, λ r b told. told)
