-- What each program prints: on every input its own report, which its bytes always have room for.
use Rattle.refusals.specs.declared.Refusal.{Refusal}
use Rattle.std.specs.Prelude.{◌≡◌, List, ℕ, length, Result, Ok}
use contract.Lifetimes.{Lfts}
use Rattle.std.specs.Borrow.{Bor, MutBor}
use Rattle.report_lines.specs.Printing.{Printed}
use Rattle.report_day.specs.Day.{DayPrinted, day_room, day_report_call}
use Rattle.report_plan.specs.Plan.{PlanPrinted, plan_room, plan_report_call}
use Rattle.report_rounds.specs.Rounds.{RoundsPrinted, rounds_room, rounds_report_call}
use Rattle.report_day.proofs.program_report.Statement as day
use Rattle.report_day.proofs.program_report.Reads as day-contract
use Rattle.report_plan.proofs.program_report.Statement as plan
use Rattle.report_plan.proofs.program_report.Reads as plan-contract
use Rattle.report_rounds.proofs.program_report.Statement as rounds
use Rattle.report_rounds.proofs.program_report.Reads as rounds-contract

-- a reply that prints, and does not refuse
abbrev pub Prints : Result ℕ Refusal → Type 0
Prints r = (k : ℕ) × (r ≡ Ok k)

pub record Programs (M : Type 1) : Type 2 where
  -- the program's own code returns on every input, and meets its contract
  pub day_replies : day.statement M
  pub plan_replies : plan.statement M
  pub rounds_replies : rounds.statement M
  -- which asks nothing, and tells that the day report's text is first in the bytes lent
  pub day_prints : (κs : Lfts 2) (text : Bor (List ℕ)) (out : MutBor (List ℕ)) → day-contract.Asked κs (text, (out, tt))
      × ((k : ℕ) (left : MutBor (List ℕ)) → day-contract.Learnt κs (text, (out, tt)) k (text, (left, tt))
      → Printed (DayPrinted text.now) out.now left.now k)
  -- and so for the planning program and the rounds report
  pub plan_prints : (κs : Lfts 2) (input : Bor (List ℕ)) (out : MutBor (List ℕ)) → plan-contract.Asked κs (input, (out, tt))
      × ((k : ℕ) (left : MutBor (List ℕ)) → plan-contract.Learnt κs (input, (out, tt)) k (input, (left, tt))
      → Printed (PlanPrinted input.now) out.now left.now k)
  pub rounds_prints : (κs : Lfts 2) (text : Bor (List ℕ)) (out : MutBor (List ℕ)) → rounds-contract.Asked κs (text, (out, tt))
      × ((k : ℕ) (left : MutBor (List ℕ)) → rounds-contract.Learnt κs (text, (out, tt)) k (text, (left, tt))
      → Printed (RoundsPrinted text.now) out.now left.now k)
  -- in so many bytes the report is never refused with 6
  pub day-room : (text lent left : List ℕ) (r : Result ℕ Refusal) → length lent ≡ day_room → day_report_call.promise text lent left r
      → Prints r
  pub plan-room : (input lent left : List ℕ) (r : Result ℕ Refusal) → length lent ≡ plan_room → plan_report_call.promise input lent left r
      → Prints r
  pub rounds-room : (text lent left : List ℕ) (r : Result ℕ Refusal) → length lent ≡ rounds_room
      → rounds_report_call.promise text lent left r → Prints r
