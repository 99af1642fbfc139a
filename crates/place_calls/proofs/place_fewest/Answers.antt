-- The checks 5, 10, 11 in this order. Where the search finds none there is no addition within the budget, which is 11.
use mathlib.Core.Logic.{inl, inr}
use mathlib.Core.Path.{subst⁻¹}
use Prim.Native.Nat.{ℕ, ◌≤◌}
use native.Mathlib.Omega.{arith}
use Rattle.std.specs.Prelude.{Option, Some, None}
use Rattle.std.specs.Option.{ok_or}
use Rattle.busset.proofs.Holding.{word_own}
use Rattle.refusals.specs.declared.Refusal.TheVariants.{NoCover}
use Rattle.refusals.proofs.Orders.{itself}
use Rattle.rules.proofs.Ordering.{fewest-some}
use Rattle.grid.specs.declared.Case.{Case}
use Rattle.grid.specs.Limits.{most_budget}
use Rattle.grid.specs.Cases.{grid_of, Valid}
use Rattle.place_fewest.specs.Answers.{FewestIs}
use Rattle.place_calls.specs.Replies.{FewestReply}
use Rattle.place_calls.proofs.place_fewest.Goals as goal

reply : (x : Case) (budget : ℕ) (found : Option ℕ) → Valid x → budget ≤ most_budget x.n → FewestIs (grid_of x) budget found
    → FewestReply x budget (ok_or found NoCover)
reply x budget (Some m) valid within is = ((valid, (within, (fewest-some is, tt))), is, word_own m)
reply x budget None valid within is = inr (valid, inr (within, inl (is, itself _)))

pub returns : goal.returns
returns c =
    let within : c.args.budget ≤ most_budget c.args.case.n = omega (arith, c.most_budget.ensures) in
    subst⁻¹ (FewestReply c.args.case c.args.budget) c.ok_or.ensures.value
    (reply c.args.case c.args.budget c.fewest.result c.in_ok-check.ensures.0 within c.fewest.ensures)
