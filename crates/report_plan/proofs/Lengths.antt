-- How long what the planning program prints is: `fewest` with one digit, lines `pmu` with two digits each, and `end`.
use Rattle.std.specs.Prelude.{Result, Ok, Err}
use mathlib.Core.Path.{◌≡◌, refl, ap}
use mathlib.Core.Bool.{Bool, true, false, cond}
use mathlib.Core.List.{List, ◌∷◌}
use Prim.Native.Nat.{ℕ, suc, zero, ◌+◌, ◌*◌, ◌≤◌, ◌<◌}
use native.Mathlib.Omega.{arith}
use lib.ListN.{length, length-append}
use Rattle.grid.specs.Limits.{most_buses, largest_budget}
use Rattle.busset.specs.Sets.{size, empty}
use Rattle.busset.proofs.Sizes.{size-empty}
use Rattle.rules.specs.Placing.{FewestSites}
use Rattle.rules.specs.Grids.{Grid}
use Rattle.rules.proofs.Covering.{size-placed}
use Rattle.text_field.specs.Split.{join}
use Rattle.text_field.proofs.Digits.{text-few, text-two}
use Rattle.case_line.specs.Record.{record_text}
use Rattle.case_line.specs.declared.Record.{Record}
use Rattle.case_line.specs.declared.Record.TheVariants.{Pmu}
use Rattle.grid.specs.Cases.{Valid}
use Rattle.grid.specs.declared.Case.{Case}
use Rattle.case_line.specs.CaseText.{has, members, lines_text}
use Rattle.refusals.specs.declared.Refusal.{Refusal}
use Rattle.case_inverse.proofs.Counts.{members-few}
use Rattle.report_lines.proofs.Printed.{refused_length}
use Rattle.report_plan.specs.Plan.{plan_text, plan_room, PlanReport, PlanFor, PlanPrinted}
use Rattle.plan_input.specs.Asking.{read_plan}
use Rattle.plan_input.specs.declared.Asked.{Asked}
use Rattle.report_plan.specs.Plan.PlanReport.{found, none}
use Rattle.plan_input.proofs.Inputs.{asked_valid}

one_line : (t : Bool) (k : ℕ) (rs : List Record) → k < 100 → length (lines_text rs) ≤ 7 * length rs →
    length (lines_text (cond t (Pmu k ∷ rs) rs)) ≤ 7 * length (cond t (Pmu k ∷ rs) rs)
unfolding lines_text record_text join
one_line true k rs h p = simp length-append (omega (arith, text-two k h))
one_line false k rs h p = p

unit_lines : (s k m : ℕ) → k + m ≤ 100 → length (lines_text (members Pmu s k m)) ≤ 7 * length (members Pmu s k m)
unfolding members lines_text
unit_lines s k zero h = omega arith
unit_lines s k (suc m) h = one_line (has s k) k (members Pmu s (k + 1) m) (omega arith) (unit_lines s (k + 1) m (omega arith))

text-fits : (n s : ℕ) → n ≤ most_buses → size s ≤ largest_budget → length (plan_text n s) ≤ plan_room
unfolding join
text-fits n s h k =
    simp length-append (omega (arith, ap length (text-few (size s) (omega arith)), unit_lines s 1 n (omega arith), members-few Pmu s n))

fewest-few : {g : Grid} {budget m : ℕ} → FewestSites g budget m → size m ≤ budget
fewest-few f = omega (arith, ap size f.set, size-placed f.list empty, size-empty, f.addition.within)

report-fits : (c : Case) (budget : ℕ) (t : List ℕ) → Valid c → PlanReport c budget t → length t ≤ plan_room
report-fits c budget t v (found m p f i) =
    omega (arith, ap length i, text-fits c.n m v.buses.most (omega (arith, fewest-few f, p.0)))
report-fits c budget t v (none q p i) = omega (arith, ap length i, refused_length q)

-- that is room for whatever is printed
pub plan_fits : (input t : List ℕ) → PlanPrinted input t → length t ≤ plan_room
plan_fits input t = go (read_plan input) refl
  where
    go : (r : Result Asked Refusal) → r ≡ read_plan input → PlanFor r t → length t ≤ plan_room
    go (Ok a) e p = report-fits a.case a.budget t (asked_valid input e) p
    go (Err q) e p = omega (arith, ap length p, refused_length q)
