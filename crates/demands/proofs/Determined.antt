-- Every promise determines the reply, and all that was lent.
use Rattle.demands.specs.Determined.{Determined}
use Rattle.demands.proofs.Listing.{◌also◌}
use Rattle.demands.proofs.Uniqueness as grid
use Rattle.demands.proofs.ListUniqueness as lists
use Rattle.demands.proofs.SitingUniqueness as sites
use Rattle.demands.proofs.TextUniqueness as texts
use Rattle.demands.proofs.RoundUniqueness as rounds
use Rattle.demands.proofs.ReportUniqueness as reports
use Rattle.demands.proofs.EstimatorUniqueness as estimator

pub determined : Determined
determined =
    grid.observed-set
    also grid.firing_figure
    also grid.test_step
    also lists.derivation
    also lists.replay
    also lists.weave
    also sites.cross_validate
    also sites.place-greedy
    also sites.place-fewest
    also texts.read-case
    also texts.write-case
    also texts.check-steps
    also texts.read-steps
    also lists.replay-text
    also rounds.observed-rounds
    also reports.day-report
    also reports.plan_report
    also reports.rounds-report
    also estimator.wz_observed
    also estimator.wz_unconfirmed
    also estimator.wz_fewest
    also estimator.wz_replay
    also tt
