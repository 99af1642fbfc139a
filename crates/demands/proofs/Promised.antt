-- Every call's own contract is its promise: each call's crate proves its own.
use Rattle.demands.specs.Promised.{EveryPromise}
use Rattle.observe_calls.proofs.Promised.{observed-set-promised, firing_figure-promised, test_step-promised}
use Rattle.list_derive.proofs.Promised.{derivation-promised}
use Rattle.list_calls.proofs.Promised.{replay-promised, weave-promised}
use Rattle.place_calls.proofs.Promised.{cross_validate-promised, place-greedy-promised, place-fewest-promised}
use Rattle.text_calls.proofs.Promised.{read-case-promised, write-case-promised, check-steps-promised}
use Rattle.step_replay.proofs.Promised.{replay-text-promised}
use Rattle.step_records.proofs.Promised.{read-steps-promised}
use Rattle.round_calls.proofs.Promised.{observed-rounds-promised}
use Rattle.report_day.proofs.Promised.{day-report-promised}
use Rattle.report_plan.proofs.Promised.{plan_report-promised}
use Rattle.report_rounds.proofs.Promised.{rounds-report-promised}
use Rattle.estimator.proofs.Promised.{wz_observed-promised, wz_unconfirmed-promised, wz_fewest-promised, wz_replay-promised}

pub every-promise : EveryPromise
every-promise = record {
  observed-set = observed-set-promised;
  firing_figure = firing_figure-promised;
  test_step = test_step-promised;
  derivation = derivation-promised;
  replay = replay-promised;
  weave = weave-promised;
  cross_validate = cross_validate-promised;
  place-greedy = place-greedy-promised;
  place-fewest = place-fewest-promised;
  read-case = read-case-promised;
  write-case = write-case-promised;
  check-steps = check-steps-promised;
  read-steps = read-steps-promised;
  replay-text = replay-text-promised;
  observed-rounds = observed-rounds-promised;
  day-report = day-report-promised;
  plan_report = plan_report-promised;
  rounds-report = rounds-report-promised;
  wz_observed = wz_observed-promised;
  wz_unconfirmed = wz_unconfirmed-promised;
  wz_fewest = wz_fewest-promised;
  wz_replay = wz_replay-promised;
}
