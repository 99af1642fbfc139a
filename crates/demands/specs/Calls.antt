-- The public calls, and demand 1's first sentence: every text, case value, list and budget gets a reply, and the call ends.
use Rattle.std.specs.Prelude.{List, [], ◌∷◌}
use Rattle.refusals.specs.Calls.{Call}
use Rattle.observe_calls.specs.Replies.{observed_set_call, firing_figure_call, test_step_call}
use Rattle.list_derive.specs.Replies.{derivation_call}
use Rattle.list_follow.specs.Replies.{replay_call, weave_call}
use Rattle.place_calls.specs.Replies.{cross_validate_call, place_greedy_call, place_fewest_call}
use Rattle.text_calls.specs.Replies.{read_case_call, write_case_call, check_steps_call}
use Rattle.step_text.specs.Taking.{read_steps_call}
use Rattle.step_replay.specs.Replying.{replay_text_call}
use Rattle.round_calls.specs.Replies.{observed_rounds_call}
use Rattle.report_day.specs.Day.{day_report_call}
use Rattle.report_plan.specs.Plan.{plan_report_call}
use Rattle.report_rounds.specs.Rounds.{rounds_report_call}
use Rattle.estimator.specs.Answers.{wz_observed_call, wz_unconfirmed_call, wz_fewest_call, wz_replay_call}
use Rattle.observe_calls.proofs.observed_set.Statement as observed-set
use Rattle.observe_calls.proofs.firing_figure.Statement as firing_figure
use Rattle.observe_calls.proofs.test_step.Statement as test_step
use Rattle.list_derive.proofs.derivation.Statement as derivation
use Rattle.list_calls.proofs.replay.Statement as replay
use Rattle.list_calls.proofs.weave.Statement as weave
use Rattle.place_calls.proofs.cross_validate.Statement as cross_validate
use Rattle.place_calls.proofs.place_greedy.Statement as place-greedy
use Rattle.place_calls.proofs.place_fewest.Statement as place-fewest
use Rattle.case_read.proofs.read_case.Statement as read-case
use Rattle.text_calls.proofs.write_case.Statement as write-case
use Rattle.step_text.proofs.check_steps.Statement as check-steps
use Rattle.step_records.proofs.read_steps.Statement as read-steps
use Rattle.step_replay.proofs.replay_text.Statement as replay-text
use Rattle.round_calls.proofs.observed_rounds.Statement as observed-rounds
use Rattle.report_day.proofs.day_report.Statement as day-report
use Rattle.report_plan.proofs.plan_report.Statement as plan_report
use Rattle.report_rounds.proofs.rounds_report.Statement as rounds-report
use Rattle.estimator.proofs.wz_observed.Statement as wz_observed
use Rattle.estimator.proofs.wz_unconfirmed.Statement as wz_unconfirmed
use Rattle.estimator.proofs.wz_fewest.Statement as wz_fewest
use Rattle.estimator.proofs.wz_replay.Statement as wz_replay

-- the state estimator's calls
abbrev pub estimator_calls : List Call
estimator_calls =
    wz_observed_call
    ∷ wz_unconfirmed_call
    ∷ wz_fewest_call
    ∷ wz_replay_call
    ∷ []

-- every public call: what it is given and lent, and what it promises, checks and refuses
abbrev pub public_calls : List Call
public_calls =
    observed_set_call
    ∷ firing_figure_call
    ∷ test_step_call
    ∷ derivation_call
    ∷ replay_call
    ∷ weave_call
    ∷ cross_validate_call
    ∷ place_greedy_call
    ∷ place_fewest_call
    ∷ read_case_call
    ∷ write_case_call
    ∷ check_steps_call
    ∷ read_steps_call
    ∷ replay_text_call
    ∷ observed_rounds_call
    ∷ day_report_call
    ∷ plan_report_call
    ∷ rounds_report_call
    ∷ estimator_calls

-- the statement of each: its own code, on every input that its contract allows, returns and leaves what the contract says;
-- none of these contracts has a requirement
pub record EveryCall (M : Type 1) : Type 2 where
  pub observed-set : observed-set.statement M
  pub firing_figure : firing_figure.statement M
  pub test_step : test_step.statement M
  pub derivation : derivation.statement M
  pub replay : replay.statement M
  pub weave : weave.statement M
  pub cross_validate : cross_validate.statement M
  pub place-greedy : place-greedy.statement M
  pub place-fewest : place-fewest.statement M
  pub read-case : read-case.statement M
  pub write-case : write-case.statement M
  pub check-steps : check-steps.statement M
  pub read-steps : read-steps.statement M
  pub replay-text : replay-text.statement M
  pub observed-rounds : observed-rounds.statement M
  pub day-report : day-report.statement M
  pub plan_report : plan_report.statement M
  pub rounds-report : rounds-report.statement M
  pub wz_observed : wz_observed.statement M
  pub wz_unconfirmed : wz_unconfirmed.statement M
  pub wz_fewest : wz_fewest.statement M
  pub wz_replay : wz_replay.statement M
