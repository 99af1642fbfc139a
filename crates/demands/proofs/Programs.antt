-- What each program prints: the contract is the claim itself, and no text that is asked for is longer than the bytes lent.
use Rattle.refusals.specs.declared.Refusal.{Refusal}
use Rattle.std.specs.Prelude.{Result, Ok, Err}
use mathlib.Core.Path.{refl}
use mathlib.Core.List.{List}
use Prim.Native.Nat.{ℕ, ◌≤◌}
use native.Mathlib.Omega.{arith}
use lib.ListN.{length}
use Rattle.report_plan.specs.Plan.{plan_room}
use Rattle.report_day.specs.Day.{day_room}
use Rattle.report_rounds.specs.Rounds.{rounds_room}
use Rattle.report_lines.specs.Printing.{PrintedReply}
use Rattle.report_day.proofs.Days.{day-fits}
use Rattle.report_plan.proofs.Lengths.{plan_fits}
use Rattle.report_rounds.proofs.Reports.{rounds-fits}
use Rattle.report_day.proofs.program_report.Met as met-day
use Rattle.report_plan.proofs.program_report.Met as met-plan
use Rattle.report_rounds.proofs.program_report.Met as met-rounds
use Rattle.demands.specs.Programs.{Prints, Programs}

-- where every text that P asks for has at most `most` bytes, and no fewer are lent
has_room_lem : (P : List ℕ → Type 0) (most : ℕ) → ((t : List ℕ) → P t → length t ≤ most) → (lent left : List ℕ) (r : Result ℕ Refusal)
    → most ≤ length lent → PrintedReply P lent left r → Prints r
has_room_lem P most fits lent left (Ok k) l p = (k, refl)
has_room_lem P most fits lent left (Err q) l p = absurd (omega (arith, p.more, fits p.text p.asked, l))

pub programs : {M : Type 1} → Programs M
programs = record {
  day_replies = met-day.met;
  plan_replies = met-plan.met;
  rounds_replies = met-rounds.met;
  day_prints = λ κs text out. (tt, λ k left told. told);
  plan_prints = λ κs input out. (tt, λ k left told. told);
  rounds_prints = λ κs text out. (tt, λ k left told. told);
  day-room = λ text lent left r e. has_room_lem _ day_room (day-fits text) lent left r (omega (arith, e));
  plan-room = λ input lent left r e. has_room_lem _ plan_room (plan_fits input) lent left r (omega (arith, e));
  rounds-room = λ text lent left r e. has_room_lem _ rounds_room (rounds-fits text) lent left r (omega (arith, e));
}
