-- Where replay refuses: at most at the last step that a list may have.
use Rattle.std.specs.Prelude.{Err}
use mathlib.Core.List.{List, [], ◌∷◌}
use mathlib.Core.Logic.{inl, inr}
use Prim.Native.Nat.{ℕ, suc, ◌+◌, ◌≤◌}
use native.Mathlib.Omega.{arith}
use lib.ListN.{length}
use Rattle.busset.specs.Sets.{empty, add}
use Rattle.step.specs.declared.Step.{Step}
use Rattle.grid.specs.declared.Case.{Case}
use Rattle.refusals.specs.declared.Refusal.{Refusal}
use Rattle.refusals.specs.Refusals.{place_of}
use Rattle.refusals.proofs.Orders.{PlacesBy, failed-place}
use Rattle.grid.specs.Limits.{most_steps}
use Rattle.list_follow.specs.Following.{checks_from}
use Rattle.list_follow.specs.Replies.{ReplayReply}
use Rattle.list_follow.specs.declared.Task.TheVariants.{Replay}

-- the checks of the steps from step k on
steps-placed : (m : ℕ) (c : Case) (xs : List Step) (k s : ℕ) → k + length xs ≤ suc m → PlacesBy m (checks_from Replay c k s xs)
steps-placed m c [] k s h = tt
steps-placed m c (x ∷ xs) k s h =
    let here : k ≤ m = omega arith in
    (here, (here, (here, steps-placed m c xs (suc k) (add s x.bus) (omega arith))))

pub replay-place : (c : Case) (xs : List Step) (q : Refusal) → ReplayReply c xs (Err q) → place_of q ≤ most_steps
replay-place c xs q (inl a) = omega (arith, a.1.placed)
replay-place c xs q (inr (v, inl a)) = omega (arith, a.1.placed)
replay-place c xs q (inr (v, inr (few, f))) =
    failed-place most_steps (checks_from Replay c 1 empty xs) q (steps-placed most_steps c xs 1 empty (omega arith)) f
