-- Demand 1, over the promises of the calls.
use Rattle.observe_calls.proofs.observed_set.Met as met-observed-set
use Rattle.observe_calls.proofs.firing_figure.Met as met-firing-figure
use Rattle.observe_calls.proofs.test_step.Met as met-test-step
use Rattle.list_derive.proofs.derivation.Met as met-derivation
use Rattle.list_calls.proofs.replay.Met as met-replay
use Rattle.list_calls.proofs.weave.Met as met-weave
use Rattle.place_calls.proofs.cross_validate.Met as met-cross-validate
use Rattle.place_calls.proofs.place_greedy.Met as met-place-greedy
use Rattle.place_calls.proofs.place_fewest.Met as met-place-fewest
use Rattle.case_read.proofs.read_case.Met as met-read-case
use Rattle.text_calls.proofs.write_case.Met as met-write-case
use Rattle.step_text.proofs.check_steps.Met as met-check-steps
use Rattle.step_records.proofs.read_steps.Met as met-read-steps
use Rattle.step_replay.proofs.replay_text.Met as met-replay-text
use Rattle.round_calls.proofs.observed_rounds.Met as met-observed-rounds
use Rattle.report_day.proofs.day_report.Met as met-day-report
use Rattle.report_plan.proofs.plan_report.Met as met-plan-report
use Rattle.report_rounds.proofs.rounds_report.Met as met-rounds-report
use Rattle.estimator.proofs.wz_observed.Met as met-wz-observed
use Rattle.estimator.proofs.wz_unconfirmed.Met as met-wz-unconfirmed
use Rattle.estimator.proofs.wz_fewest.Met as met-wz-fewest
use Rattle.estimator.proofs.wz_replay.Met as met-wz-replay
use Rattle.demands.specs.Demand1.{Demand1}
use Rattle.demands.proofs.Listing.{◌also◌}
use Rattle.demands.proofs.Promised.{every-promise}
use Rattle.demands.proofs.CallsByTable as calls
use Rattle.demands.proofs.TextsByTable as texts
use Rattle.demands.proofs.ReportsByTable as reports
use Rattle.demands.proofs.EstimatorByTable as estimator

pub demand_1 : {M : Type 1} → Demand1 M
demand_1 = record {
  replies = record {
    observed-set = met-observed-set.met;
    firing_figure = met-firing-figure.met;
    test_step = met-test-step.met;
    derivation = met-derivation.met;
    replay = met-replay.met;
    weave = met-weave.met;
    cross_validate = met-cross-validate.met;
    place-greedy = met-place-greedy.met;
    place-fewest = met-place-fewest.met;
    read-case = met-read-case.met;
    write-case = met-write-case.met;
    check-steps = met-check-steps.met;
    read-steps = met-read-steps.met;
    replay-text = met-replay-text.met;
    observed-rounds = met-observed-rounds.met;
    day-report = met-day-report.met;
    plan_report = met-plan-report.met;
    rounds-report = met-rounds-report.met;
    wz_observed = met-wz-observed.met;
    wz_unconfirmed = met-wz-unconfirmed.met;
    wz_fewest = met-wz-fewest.met;
    wz_replay = met-wz-replay.met;
  };
  promised = every-promise;
  by_table =
      calls.observed-set
      also calls.firing_figure
      also calls.test_step
      also calls.derivation
      also calls.replay
      also calls.weave
      also calls.cross_validate
      also calls.place-greedy
      also calls.place-fewest
      also texts.read-case
      also calls.write-case
      also texts.check-steps
      also texts.read-steps
      also texts.replay-text
      also calls.observed-rounds
      also reports.day-report
      also reports.plan_report
      also reports.rounds-report
      also estimator.wz_observed
      also estimator.wz_unconfirmed
      also estimator.wz_fewest
      also estimator.wz_replay
      also tt;
  day-printed = reports.day-printed;
  plan_printed = reports.plan_printed;
  rounds-printed = reports.rounds-printed;
}
