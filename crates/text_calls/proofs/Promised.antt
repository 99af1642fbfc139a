-- Each call's own contract is its promise: it asks nothing of the caller, and what it tells of a reply is what the promise says.
use contract.Lifetimes.{Lfts}
use Rattle.refusals.specs.Calls.{Keeps}
use Rattle.text_calls.specs.Replies.{read_case_call, write_case_call, check_steps_call}
use Rattle.case_read.proofs.read_case.Reads as read-case
use Rattle.text_calls.proofs.write_case.Reads as write-case
use Rattle.step_text.proofs.check_steps.Reads as check-steps

pub read-case-promised : (κs : Lfts 1) → Keeps read_case_call (λ (text, _). text.now) (λ a. tt) (read-case.Asked κs) (read-case.Learnt κs)
read-case-promised κs a = (tt, λ r b told. told)

pub write-case-promised : (κs : Lfts 1) → Keeps write_case_call (λ (c, _). c) (λ (_, (out, _)). out.now)
    (write-case.Asked κs) (write-case.Learnt κs)
write-case-promised κs a = (tt, λ r b told. told)

pub check-steps-promised : (κs : Lfts 1) → Keeps check_steps_call (λ (text, _). text.now) (λ a. tt)
    (check-steps.Asked κs) (check-steps.Learnt κs)
check-steps-promised κs a = (tt, λ r b told. told)
