-- For each call that prints: its promise determines the reply, and the bytes that it leaves.
use mathlib.Core.Path.{◌≡◌, ap}
use mathlib.Core.List.{List}
use Prim.Native.Nat.{ℕ}
use Rattle.report_lines.specs.Printing.{printing_call}
use Rattle.report_lines.proofs.Printed.{PrintReply, printed-unique}
use Rattle.report_day.specs.Day.{day_report_call}
use Rattle.report_day.proofs.Days.{day-unique}
use Rattle.report_plan.specs.Plan.{plan_report_call}
use Rattle.report_plan.proofs.Unique.{plan_unique}
use Rattle.report_rounds.specs.Rounds.{rounds_report_call}
use Rattle.report_rounds.proofs.Reports.{rounds-text-unique}
use Rattle.demands.specs.Determined.{OneReply}

-- where P asks for one text
printed-one : (P : List ℕ → List ℕ → Type 0) → ((text s t : List ℕ) → P text s → P text t → s ≡ t) → OneReply (printing_call P)
printed-one P one text lent a b left right p q =
    let e = printed-unique (one text) lent a b left right p q in (ap (λ (r : PrintReply). r.reply) e, ap (λ (r : PrintReply). r.left) e)

pub day-report : OneReply day_report_call
day-report = printed-one _ day-unique

pub plan_report : OneReply plan_report_call
plan_report = printed-one _ plan_unique

pub rounds-report : OneReply rounds_report_call
rounds-report = printed-one _ rounds-text-unique
