-- Request 3, over the planning program's promise: both inputs ask for one case, and the fewest within the default is the fewest within 8.
use Rattle.std.specs.Prelude.{Some, Result, Ok, Err}
use mathlib.Core.Path.{◌≡◌, sym, ap, ◌∙◌, subst}
use mathlib.Core.Logic.{◌⊎◌, inl, inr}
use mathlib.Core.List.{List, ◌++◌}
use Prim.Native.Nat.{ℕ, ◌≤◌}
use Prim.Native.String.{String}
use native.Mathlib.Omega.{arith}
use Rattle.std.proofs.lemmas.Bool.{le-ltb}
use lib.ListN.{length}
use Rattle.rules.proofs.Ordering.{fewest-set-unique, fewest-some, fewest-more}
use Rattle.text_field.specs.Split.{split, bytes, line_feed}
use Rattle.text_field.specs.Number.{number_from, numeral_of}
use Rattle.grid.specs.declared.Case.{Case}
use Rattle.grid.specs.Limits.{most_bytes, most_budget, largest_budget}
use Rattle.refusals.specs.declared.Refusal.{Refusal}
use Rattle.refusals.specs.declared.Refusal.TheVariants.{NoCover}
use Rattle.refusals.proofs.Orders.{itself, refusal-unique, failed_or_passed}
use Rattle.case_read.specs.Reading.{read_text}
use Rattle.report_lines.specs.Printing.{refused_text, IsRefusedText}
use Rattle.plan_input.specs.declared.Asked.{Asked}
use Rattle.plan_input.specs.Asking.{default_budget, plan_fields, budget_of, asked_with, plan_lines, read_plan}
use Rattle.report_plan.specs.Plan.{plan_checks, plan_text, PlanReport, PlanFor}
use Rattle.report_plan.specs.Plan.PlanReport.{found, none}
use Rattle.report_plan.proofs.Unique.{plan_unique}
use Rattle.demands.specs.Request3.{BesidePlanAlone, Request3}

-- ---- one case within two budgets

-- within the smaller budget the same is printed, or refusal 11
smaller : (c : Case) (budget more : ℕ) (s t : List ℕ) → budget ≤ more → more ≤ most_budget c.n → PlanReport c budget s
    → PlanReport c more t → (s ≡ t) ⊎ IsRefusedText NoCover s
smaller c budget more s t l m (found j p f i) (found k q g e) =
    inl (i ∙ ap (plan_text c.n) (fewest-set-unique (fewest-more l f) g) ∙ sym e)
smaller c budget more s t l m (found j p f i) (none r q e) =
    absurd (failed_or_passed (plan_checks c more) r q (m, (fewest-some (fewest-more l f), tt)))
smaller c budget more s t l m (none r (inl p) i) q = absurd (p.0 (omega arith))
smaller c budget more s t l m (none r (inr (h, inl p)) i) q = inr (i ∙ ap refused_text (refusal-unique p.1 (itself NoCover)))
smaller c budget more s t l m (none r (inr (h, inr p)) i) q = absurd p.1

-- by what reading says: a refusal of the text is the same
by_answer : (r : Result Case Refusal) (budget more : ℕ) (s t : List ℕ) → budget ≤ more → ((c : Case) → more ≤ most_budget c.n)
    → PlanFor (asked_with (Some budget) r) s → PlanFor (asked_with (Some more) r) t → (s ≡ t) ⊎ IsRefusedText NoCover s
by_answer (Ok c) budget more s t l m p q = smaller c budget more s t l (m c) p q
by_answer (Err r) budget more s t l m p q = inl (p ∙ sym q)

-- ---- the plan line

-- the text's case, whose lines count from 2, and this budget
abbrev asking : ℕ → List ℕ → Result Asked Refusal
asking budget text = asked_with (Some budget) (read_text 2 text)

-- this plan line asks for that, before every text that it leaves room for
abbrev Asks : String → ℕ → Type 0
Asks line budget = (text : List ℕ) → length (bytes line ++ text) ≤ most_bytes → read_plan (bytes line ++ text) ≡ asking budget text

-- an input within the byte limit asks for what its lines say
reads_lines : (input : List ℕ) → length input ≤ most_bytes
    → read_plan input ≡ plan_lines (split line_feed input).first (split line_feed input).rest
unfolding read_plan
reads_lines input l = rw (le-ltb _ _ l)

alone-asks : Asks "plan\n" default_budget
unfolding split budget_of plan_fields read_text
alone-asks text l = reads_lines (bytes "plan\n" ++ text) l

three_asks : Asks "plan\t3\n" default_budget
unfolding split budget_of plan_fields read_text number_from numeral_of
three_asks text l = reads_lines (bytes "plan\t3\n" ++ text) l

eight_asks : Asks "plan\t8\n" largest_budget
unfolding split budget_of plan_fields read_text number_from numeral_of
eight_asks text l = reads_lines (bytes "plan\t8\n" ++ text) l

-- ---- what is printed

-- what is printed for an input that asks for this
abbrev PrintedFor : List ℕ → Result Asked Refusal → Type 0
PrintedFor t r = PlanFor r t

means : BesidePlanAlone "plan\t3\n" (λ t alone. alone ≡ t)
means text t alone l p q =
    plan_unique (bytes "plan\n" ++ text) alone t q
    (subst (PrintedFor t) (three_asks text l ∙ sym (alone-asks text (omega arith))) p)

former : BesidePlanAlone "plan\t8\n" (λ t alone. (alone ≡ t) ⊎ IsRefusedText NoCover alone)
former text t alone l p q =
    by_answer (read_text 2 text) default_budget largest_budget alone t (omega arith) (λ c. omega arith)
    (subst (PrintedFor alone) (alone-asks text (omega arith)) q) (subst (PrintedFor t) (eight_asks text l) p)

pub request_3 : Request3
request_3 = record { means = means; former = former }
