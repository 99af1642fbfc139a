-- The call's own contract is its promise: it asks nothing of the caller, and what it tells of a reply is what the promise says.
use contract.Lifetimes.{Lfts}
use Rattle.refusals.specs.Calls.{Keeps}
use Rattle.report_rounds.specs.Rounds.{rounds_report_call}
use Rattle.report_rounds.proofs.rounds_report.Reads as rounds-report

pub rounds-report-promised : (κs : Lfts 2) → Keeps rounds_report_call (λ (text, _). text.now) (λ (_, (out, _)). out.now)
    (rounds-report.Asked κs) (rounds-report.Learnt κs)
rounds-report-promised κs a = (tt, λ r b told. told)
