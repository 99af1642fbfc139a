-- A valid case passes the first check, and the others are those of the single-step test in the stated set.
use Prim.Native.Nat.{ℕ}
use mathlib.Core.Path.{subst}
use Rattle.grid.specs.Cases.{grid_of, Valid}
use Rattle.refusals.specs.Refusals.{check_that, CheckedBy}
use Rattle.observe.specs.Testing.{step_checks_at}
use Rattle.observe.proofs.Holding.{tested-after}
use Rattle.observe_calls.specs.Replies.{stated}
use Rattle.observe_calls.proofs.test_step.Goals as goal

pub returns : goal.returns
returns c =
    let x = c.args.case in
    tested-after (check_that (Valid x) 5 0) (step_checks_at (grid_of x) 1 (stated x c.args.s) c.args.x) c.tested_at.result
    c.in_ok-check.ensures.0
    (subst (λ (s : ℕ). CheckedBy (step_checks_at (grid_of x) 1 s c.args.x) c.tested_at.result) c.up_to.ensures
    (c.tested_at.ensures x.site))
