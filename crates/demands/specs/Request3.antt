-- Request 3: `plan` alone means a budget of 3. The smaller default may turn a former answer into refusal 11, and changes no other reply.
use Rattle.std.specs.Prelude.{◌≡◌, ◌⊎◌, List, ◌++◌, ℕ, ◌≤◌, length}
use Prim.Native.String.{String}
use Rattle.text_field.specs.Split.{bytes}
use Rattle.grid.specs.Limits.{most_bytes}
use Rattle.refusals.specs.declared.Refusal.TheVariants.{NoCover}
use Rattle.report_lines.specs.Printing.{IsRefusedText}
use Rattle.report_plan.specs.Plan.{PlanPrinted}

-- for every case text, if the byte limit leaves room for this line, P holds of what is printed after it and after `plan` alone
abbrev pub BesidePlanAlone : String → (List ℕ → List ℕ → Type 0) → Type 0
BesidePlanAlone line P =
    (text t alone : List ℕ) → length (bytes line ++ text) ≤ most_bytes → PlanPrinted (bytes line ++ text) t
    → PlanPrinted (bytes "plan\n" ++ text) alone → P t alone

pub record Request3 : Type 0 where
  -- `plan` alone means a budget of 3
  pub means : BesidePlanAlone "plan\t3\n" (λ t alone. alone ≡ t)
  -- what it meant, `plan 8` means: that is printed for `plan` alone, or refusal 11
  pub former : BesidePlanAlone "plan\t8\n" (λ t alone. (alone ≡ t) ⊎ IsRefusedText NoCover alone)
