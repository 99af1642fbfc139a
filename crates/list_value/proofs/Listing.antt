-- A step more in a list by value: what is after it stays blank.
use mathlib.Core.Path.{◌≡◌, ap, ◌∙◌}
use mathlib.Core.List.{List, [], ◌∷◌, ◌++◌}
use Prim.Native.Nat.{ℕ, suc, ◌<◌, ◌-◌}
use native.Mathlib.Omega.{arith}
use lib.ListN.{length, length-append, drop, replicate}
use Rattle.grid.specs.Limits.{most_buses}
use Rattle.step.specs.Records.{no_step}
use Rattle.step.specs.declared.Step.{Step}
use Rattle.list_value.specs.Lists.{StepList, list_of}

-- one blank less
drop_blank : (k : ℕ) → drop 1 (replicate (suc k) no_step) ≡ replicate k no_step
drop_blank k = cc

-- the step x at the end of a list with blanks after it
pub pushed-list : {l m : StepList} (x : Step) → l ≡ list_of l.items → length l.items < most_buses → m.items ≡ l.items ++ (x ∷ [])
    → m.free ≡ drop 1 l.free
    → m ≡ list_of m.items
pushed-list {l} {m} x is few p f =
    let left : most_buses - length l.items ≡ suc (most_buses - length m.items) =
    omega (arith, few, ap length p, length-append l.items (x ∷ [])) in
    let blank : m.free ≡ replicate (most_buses - length m.items) no_step =
    f ∙ ap (λ (l : StepList). drop 1 l.free) is ∙ ap (λ (k : ℕ). drop 1 (replicate k no_step)) left ∙ drop_blank _ in
    ap (λ (ys : List Step). record { items = m.items; free = ys }) blank
