-- By the table: the calls that print a report, and what they print.
use Rattle.std.specs.Prelude.{Option, Some, None, IsSome, Result, Ok, Err, IsOkAnd}
use mathlib.Core.Path.{◌≡◌, refl, sym, ap, subst, subst⁻¹}
use mathlib.Core.Bool.{true≢false}
use mathlib.Core.List.{List, [], ◌∷◌, ◌++◌}
use mathlib.Core.Logic.{◌⊎◌, inl, inr}
use Prim.Native.Nat.{ℕ}
use native.Mathlib.Omega.{arith}
use lib.Dec.{lit<, lit≤}
use lib.ListN.{length}
use Rattle.text_field.specs.Split.{split, line_feed}
use Rattle.grid.specs.declared.Case.{Case}
use Rattle.refusals.specs.declared.Refusal.{Refusal}
use Rattle.refusals.specs.declared.Refusal.TheVariants.{WrongForm}
use Rattle.refusals.specs.Refusals.{Check, check_that, Passed, Failed}
use Rattle.refusals.proofs.Orders.{itself, failed-unique, failed_or_passed, passed_then, failed_sooner, failed-later}
use Rattle.refusals.proofs.Judging.{SaidBy, good, bad, failing, within_limit}
use Rattle.grid.specs.Limits.{most_bytes}
use Rattle.case_read.specs.Reading.{start, read_lines, read_case}
use Rattle.case_read.specs.Checks.{case_checks, line_checks}
use Rattle.case_read.proofs.CaseTexts.{ReadBy, lines-judged, case-judged}
use Rattle.report_lines.specs.Printing.{IsRefusedText, PrintedReply, print_checks, printing_call}
use Rattle.report_day.specs.Day.{DayReport, DayFor, DayPrinted, day_report_call}
use Rattle.report_day.proofs.Days.{day-unique}
use Rattle.report_rounds.specs.Rounds.{RoundsReport, RoundsFor, RoundsPrinted, rounds_report_call}
use Rattle.report_rounds.proofs.Reports.{rounds-text-unique}
use Rattle.plan_input.specs.declared.Asked.{Asked}
use Rattle.plan_input.specs.Asking.{budget_of, asked_with, plan_lines, read_plan}
use Rattle.report_plan.specs.Plan.{plan_checks, PlanReport, found, none, PlanFor, PlanPrinted, plan_report_call}
use Rattle.report_plan.proofs.Unique.{plan_unique}
use Rattle.demands.specs.Order.{InTableOrder}
use Rattle.demands.specs.ByTable.{AllByTable}
use Rattle.demands.specs.Printed.{PrintedByTable, FewestPrinted, plan_line_checks, input_checks, asked_checks}
use Rattle.demands.proofs.Firsts.{reply-meets}
use Rattle.demands.proofs.Turns.{ComesAfter, later-follows, then_ordered}
use Rattle.demands.proofs.TextTurns.{case_ordered, input_ordered, input-turn}

-- ---- the reply: 6 where what is asked for has no room

print-meets : (P : List ℕ → List ℕ → Type 0) → ((text s t : List ℕ) → P text s → P text t → s ≡ t) → AllByTable (printing_call P)
print-meets P one text lent left =
    reply-meets (PrintedReply (P text) lent left) (print_checks (P text) lent) refl
    (λ q p. (inl (λ h. omega (arith, h p.text p.asked, p.more), p.refusal), p.kept))
    (λ k p. (λ t a. omega (arith, p.room, ap length (one text t p.text a p.asked)), tt))

pub day-report : AllByTable day_report_call
day-report = print-meets DayPrinted day-unique

pub plan_report : AllByTable plan_report_call
plan_report = print-meets PlanPrinted plan_unique

pub rounds-report : AllByTable rounds_report_call
rounds-report = print-meets RoundsPrinted rounds-text-unique

-- ---- what is printed

-- the report where all pass, or the line of the refusal that the first check that fails gives
printed-met : {Report : Type 0} {t : List ℕ} (checks : List Check) → InTableOrder checks
    → (Passed checks × Report) ⊎ ((q : Refusal) × Failed checks q × IsRefusedText q t)
    → PrintedByTable checks Report t
printed-met checks order (inl h) =
    record { order = order; replies = inl h.0; report = λ p. h.1; refused = λ q f. absurd (failed_or_passed checks q f h.0) }
printed-met {t = t} checks order (inr (q, f, e)) = record {
  order = order;
  replies = inr (q, f);
  report = λ p. absurd (failed_or_passed checks q f p);
  refused = λ k g. subst (λ (x : Refusal). IsRefusedText x t) (failed-unique checks q k f g) e;
}

-- what is printed for a case text: by what reading says, the report of the case or the refusal
case-printed : (Report : Case → List ℕ → Type 0) (For : Result Case Refusal → List ℕ → Type 0)
    → ((c : Case) (t : List ℕ) → For (Ok c) t → Report c t) → ((q : Refusal) (t : List ℕ) → For (Err q) t → IsRefusedText q t)
    → (text t : List ℕ) → For (read_case text) t
    → PrintedByTable (case_checks text) (IsOkAnd (read_case text) (λ c. Report c t)) t
case-printed Report For report line text t p = printed-met (case_checks text) (case_ordered text) (go (case-judged text))
  where
    by : Result Case Refusal → Type 0
    by r = For r t

    go : ReadBy (case_checks text) (read_case text)
        → (Passed (case_checks text) × IsOkAnd (read_case text) (λ c. Report c t))
        ⊎ ((q : Refusal) × Failed (case_checks text) q × IsRefusedText q t)
    go (good h (c, e)) =
        inl (h, subst⁻¹ (λ (r : Result Case Refusal). IsOkAnd r (λ c. Report c t)) e (report c t (subst by e p)))
    go (bad q f e) = inr (q, f, line q t (subst by e p))

pub day-printed : (text t : List ℕ) → DayPrinted text t
    → PrintedByTable (case_checks text) (IsOkAnd (read_case text) (λ c. DayReport c t)) t
day-printed = case-printed DayReport DayFor (λ c t p. p) (λ q t p. p)

pub rounds-printed : (text t : List ℕ) → RoundsPrinted text t
    → PrintedByTable (case_checks text) (IsOkAnd (read_case text) (λ c. RoundsReport c t)) t
rounds-printed = case-printed RoundsReport RoundsFor (λ c t p. p) (λ q t p. p)

-- ---- the planning program's input

-- what is asked by these checks
abbrev AskedBy : List Check → Result Asked Refusal → Type 0
AskedBy = SaidBy Err (λ r. (a : Asked) × (r ≡ Ok a))

plan_line-judged : (b : Option ℕ) (r : Result Case Refusal) (checks : List Check) → ReadBy checks r
    → AskedBy (check_that (IsSome b) 2 1 ∷ checks) (asked_with b r)
plan_line-judged (Some budget) r checks (good p (c, e)) =
    good (refl, p) (record { budget = budget; case = c }, ap (asked_with (Some budget)) e)
plan_line-judged (Some budget) r checks (bad q f e) = bad q (inr (refl, f)) (ap (asked_with (Some budget)) e)
plan_line-judged None r checks h = failing (IsSome {T = ℕ} None) 2 1 (WrongForm 1) (λ e. true≢false (sym e)) (itself (WrongForm 1))

plan_lines-judged : (l : List ℕ) (ms : List (List ℕ)) → AskedBy (plan_line_checks l ms) (plan_lines l ms)
plan_lines-judged l [] = failing ⊥ 2 1 (WrongForm 1) (λ x. x) (itself (WrongForm 1))
plan_lines-judged l (m ∷ ms) =
    plan_line-judged (budget_of l) (read_lines start 2 m ms) (line_checks start 2 m ms) (lines-judged start 2 m ms)

input-judged : (input : List ℕ) → AskedBy (input_checks input) (read_plan input)
unfolding read_plan
input-judged input =
    let l = (split line_feed input).first in
    let ms = (split line_feed input).rest in
    within_limit Err _ most_bytes input (plan_line_checks l ms) (plan_lines l ms) (plan_lines-judged l ms)

-- ---- the planning program

-- what is checked of the case and the budget comes after the input
asked-follow : (r : Result Asked Refusal) → ComesAfter 1 (asked_checks r)
asked-follow (Ok a) = later-follows 1 (plan_checks a.case a.budget) (lit≤ tt) (lit< tt) (refl, inl (lit< tt), refl)
asked-follow (Err q) = later-follows 1 [] (lit≤ tt) tt tt

pub plan_printed : (input t : List ℕ) → PlanPrinted input t
    → PrintedByTable (input_checks input ++ asked_checks (read_plan input))
    (IsOkAnd (read_plan input) (λ a. FewestPrinted a.case a.budget t)) t
plan_printed input t p =
    printed-met (input_checks input ++ asked_checks (read_plan input))
    (then_ordered 1 (input_checks input) (asked_checks (read_plan input)) (input_ordered input) (input-turn input)
    (asked-follow (read_plan input)))
    (go (read_plan input) (input-judged input) p)
  where
    by : Result Asked Refusal → Type 0
    by r = PlanFor r t

    Outcome : Result Asked Refusal → Type 0
    Outcome r =
        (Passed (input_checks input ++ asked_checks r) × IsOkAnd r (λ a. FewestPrinted a.case a.budget t))
        ⊎ ((q : Refusal) × Failed (input_checks input ++ asked_checks r) q × IsRefusedText q t)

    reported : (a : Asked) → Passed (input_checks input) → PlanReport a.case a.budget t → Outcome (Ok a)
    reported a h (found sites p f e) = inl (passed_then (input_checks input) (asked_checks (Ok a)) h p, (sites, f, e))
    reported a h (none q f e) = inr (q, failed-later (input_checks input) (asked_checks (Ok a)) q h f, e)

    go : (r : Result Asked Refusal) → AskedBy (input_checks input) r → PlanFor r t → Outcome r
    go r (good h (a, e)) p = subst⁻¹ Outcome e (reported a h (subst by e p))
    go r (bad q f e) p = inr (q, failed_sooner (input_checks input) (asked_checks r) q f, subst by e p)
