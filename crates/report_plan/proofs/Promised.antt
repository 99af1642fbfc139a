-- The call's own contract is its promise: it asks nothing of the caller, and what it tells of a reply is what the promise says.
use contract.Lifetimes.{Lfts}
use Rattle.refusals.specs.Calls.{Keeps}
use Rattle.report_plan.specs.Plan.{plan_report_call}
use Rattle.report_plan.proofs.plan_report.Reads as plan_report

pub plan_report-promised : (κs : Lfts 2) → Keeps plan_report_call (λ (input, _). input.now) (λ (_, (out, _)). out.now)
    (plan_report.Asked κs) (plan_report.Learnt κs)
plan_report-promised κs a = (tt, λ r b told. told)
