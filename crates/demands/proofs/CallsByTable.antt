-- By the table: each public call on a case value or a list of steps.
use mathlib.Core.Path.{refl}
use mathlib.Core.Logic.{inl, inr}
use lib.Dec.{lit<}
use lib.ListN.{length}
use Rattle.list_follow.specs.Replies.{replay_checks, ReplayReply, replay_call, weave_checks, WeaveReply, weave_call}
use Rattle.observe_calls.specs.Replies.{observed_checks, ObservedReply, figure_checks, FigureReply, step_checks, StepReply}
use Rattle.observe_calls.specs.Replies.{observed_set_call, firing_figure_call, test_step_call}
use Rattle.list_derive.specs.Replies.{derivation_checks, DerivationReply, derivation_call}
use Rattle.place_calls.specs.Replies.{verdict_checks, VerdictReply, greedy_checks, GreedyReply, fewest_checks, FewestReply}
use Rattle.place_calls.specs.Replies.{cross_validate_call, place_greedy_call, place_fewest_call}
use Rattle.round_calls.specs.Replies.{rounds_checks, RoundsReply, observed_rounds_call}
use Rattle.text_calls.specs.Replies.{write_checks, CaseWrittenReply, write_case_call}
use Rattle.demands.specs.ByTable.{AllByTable}
use Rattle.demands.proofs.Firsts.{reply-meets}
use Rattle.demands.proofs.Turns.{replay_ordered, weave_ordered}

-- ---- the grid

pub observed-set : AllByTable observed_set_call
observed-set c before after = reply-meets (ObservedReply c) (observed_checks c) refl (λ q p. (p, refl)) (λ s p. p.0)

pub firing_figure : AllByTable firing_figure_call
firing_figure (c, s, i, j) before after =
    reply-meets (FigureReply c s i j) (figure_checks c i j) (refl, inl (lit< tt), (refl, inl (lit< tt), refl))
    (λ q p. (p, refl)) (λ z p. p.0)

pub test_step : AllByTable test_step_call
test_step (c, s, x) before after =
    reply-meets (StepReply c s x) (step_checks c s x)
    (refl, inl (lit< tt), (refl, inr (refl, inr (refl, lit< tt)), (refl, inr (refl, inr (refl, lit< tt)), refl)))
    (λ q p. (p, refl)) (λ u p. p)

-- ---- lists of steps

pub derivation : AllByTable derivation_call
derivation c before after = reply-meets (DerivationReply c) (derivation_checks c) refl (λ q p. (p, refl)) (λ l p. p.0)

pub replay : AllByTable replay_call
replay (c, xs) before after =
    reply-meets (ReplayReply c xs) (replay_checks c xs) (replay_ordered c xs) (λ q p. (p, refl)) (λ r p. p.0)

pub weave : AllByTable weave_call
weave (c, xs) before after =
    reply-meets (WeaveReply c xs before after) (weave_checks c xs (length before)) (weave_ordered c xs (length before))
    (λ q p. p) (λ w p. p.0)

-- ---- placing units

pub cross_validate : AllByTable cross_validate_call
cross_validate c before after = reply-meets (VerdictReply c) (verdict_checks c) refl (λ q p. (p, refl)) (λ s p. p.0)

pub place-greedy : AllByTable place_greedy_call
place-greedy (c, budget) entry exit =
    reply-meets (GreedyReply c budget entry exit) (greedy_checks c budget entry) (refl, inl (lit< tt), (refl, inl (lit< tt), refl))
    (λ q p. p) (λ k p. p.0)

pub place-fewest : AllByTable place_fewest_call
place-fewest (c, budget) before after =
    reply-meets (FewestReply c budget) (fewest_checks c budget) (refl, inl (lit< tt), (refl, inl (lit< tt), refl))
    (λ q p. (p, refl)) (λ m p. p.0)

-- ---- rounds

pub observed-rounds : AllByTable observed_rounds_call
observed-rounds c entry exit =
    reply-meets (RoundsReply c entry exit) (rounds_checks c entry) (refl, inl (lit< tt), refl) (λ q p. p) (λ l p. p.0)

-- ---- a case text written

pub write-case : AllByTable write_case_call
write-case c lent left =
    reply-meets (λ r. CaseWrittenReply c lent r left) (write_checks c lent) (refl, inl (lit< tt), refl) (λ q p. p) (λ k p. p.0)
