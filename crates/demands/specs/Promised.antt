-- Every call's own contract is its promise: it asks nothing of a caller, and what it tells of a reply is what the promise says.
-- `Asked` is what a contract asks of its arguments, and `Learnt` what it tells of the arguments, the reply and the arguments at the end.
-- `Keeps` says how the call's input, and what it is lent, are found in the arguments.
use Rattle.refusals.specs.declared.Refusal.{Refusal}
use Rattle.std.specs.Prelude.{List, ℕ, Result}
use base.Logic.{ent, emp}
use contract.Monad.{fact}
use contract.Lifetimes.{Lfts}
use Rattle.std.specs.Borrow.{Bor, MutBor}
use borrow.Fn.World.{World, Pr}
use Rattle.step.specs.declared.Step.{Step}
use Rattle.grid.specs.declared.Case.{Case}
use Rattle.refusals.specs.Calls.{Keeps}
use Rattle.observe_calls.specs.Replies.{observed_set_call, firing_figure_call, test_step_call}
use Rattle.list_derive.specs.Replies.{derivation_call}
use Rattle.list_follow.specs.Replies.{replay_call, weave_call}
use Rattle.list_follow.specs.declared.Replayed.{Replayed}
use Rattle.list_follow.specs.declared.Wove.{Wove}
use Rattle.place_calls.specs.Replies.{cross_validate_call, place_greedy_call, place_fewest_call}
use Rattle.text_calls.specs.Replies.{read_case_call, write_case_call, check_steps_call}
use Rattle.step_text.specs.Taking.{read_steps_call}
use Rattle.step_replay.specs.Replying.{replay_text_call}
use Rattle.round_calls.specs.Replies.{observed_rounds_call}
use Rattle.report_day.specs.Day.{day_report_call}
use Rattle.report_plan.specs.Plan.{plan_report_call}
use Rattle.report_rounds.specs.Rounds.{rounds_report_call}
use Rattle.estimator.specs.Answers.{wz_observed_call, wz_unconfirmed_call, wz_fewest_call, wz_replay_call}
use Rattle.observe_calls.proofs.observed_set.Reads as observed-set
use Rattle.observe_calls.proofs.firing_figure.Reads as firing_figure
use Rattle.observe_calls.proofs.test_step.Reads as test_step
use Rattle.list_derive.proofs.derivation.Reads as derivation
use Rattle.list_calls.specs.contracts.replay as replay
use Rattle.list_calls.specs.contracts.weave as weave
use Rattle.place_calls.proofs.cross_validate.Reads as cross_validate
use Rattle.place_calls.proofs.place_greedy.Reads as place-greedy
use Rattle.place_calls.proofs.place_fewest.Reads as place-fewest
use Rattle.case_read.proofs.read_case.Reads as read-case
use Rattle.text_calls.proofs.write_case.Reads as write-case
use Rattle.step_text.proofs.check_steps.Reads as check-steps
use Rattle.step_records.specs.contracts.read_steps as read-steps
use Rattle.step_replay.proofs.replay_text.Reads as replay-text
use Rattle.round_calls.proofs.observed_rounds.Reads as observed-rounds
use Rattle.report_day.proofs.day_report.Reads as day-report
use Rattle.report_plan.proofs.plan_report.Reads as plan_report
use Rattle.report_rounds.proofs.rounds_report.Reads as rounds-report
use Rattle.estimator.proofs.wz_observed.Reads as wz_observed
use Rattle.estimator.proofs.wz_unconfirmed.Reads as wz_unconfirmed
use Rattle.estimator.proofs.wz_fewest.Reads as wz_fewest
use Rattle.estimator.proofs.wz_replay.Reads as wz_replay

-- ---- the ties of replay, weave and read_steps are stated of the clauses themselves, which are assertions, in every model

-- an assertion that asks nothing
abbrev AsksNothing : (w : World) → Pr w → Type 1
AsksNothing w P = ent w.𝓤 (emp w.𝓤) P

-- an assertion that tells a fact
abbrev Tells : (w : World) → Pr w → Type 0 → Type 1
Tells w P φ = ent w.𝓤 P (fact w.𝓤 φ)

-- ---- every call

pub record EveryPromise : Type 2 where
  -- the grid
  pub observed-set : Keeps observed_set_call (λ (c, _). c) (λ a. tt) (observed-set.Asked tt) (observed-set.Learnt tt)
  pub firing_figure : Keeps firing_figure_call (λ (c, (s, (i, (j, _)))). (c, s, i, j)) (λ a. tt)
      (firing_figure.Asked tt) (firing_figure.Learnt tt)
  pub test_step : Keeps test_step_call (λ (c, (s, (x, _))). (c, s, x)) (λ a. tt) (test_step.Asked tt) (test_step.Learnt tt)
  -- lists of steps
  pub derivation : Keeps derivation_call (λ (c, _). c) (λ a. tt) (derivation.Asked tt) (derivation.Learnt tt)
  pub replay : (w : World) (κs : Lfts 1) (c : Case) (steps : Bor (List Step)) →
      let says = replay.clauses w.𝓛 w.𝓜.mem w.𝓡.run κs (c, (steps, tt)) in
      AsksNothing w (says.requires tt)
      × ((r : Result Replayed Refusal) → Tells w (says.ensures tt r (c, (steps, tt))) (replay_call.promise (c, steps.now) tt tt r))
  pub weave : (w : World) (κs : Lfts 2) (c : Case) (steps : Bor (List Step)) (out : MutBor (List Step)) →
      let says = weave.clauses w.𝓛 w.𝓜.mem w.𝓡.run κs (c, (steps, (out, tt))) in
      AsksNothing w (says.requires tt)
      × ((r : Result Wove Refusal) (left : MutBor (List Step)) → Tells w (says.ensures tt r (c, (steps, (left, tt))))
      (weave_call.promise (c, steps.now) out.now left.now r))
  -- placing units
  pub cross_validate : Keeps cross_validate_call (λ (c, _). c) (λ a. tt) (cross_validate.Asked tt) (cross_validate.Learnt tt)
  pub place-greedy : (κs : Lfts 1) → Keeps place_greedy_call (λ (c, (budget, _)). (c, budget)) (λ (_, (_, (room, _))). room.now)
      (place-greedy.Asked κs) (place-greedy.Learnt κs)
  pub place-fewest : Keeps place_fewest_call (λ (c, (budget, _)). (c, budget)) (λ a. tt) (place-fewest.Asked tt) (place-fewest.Learnt tt)
  -- texts
  pub read-case : (κs : Lfts 1) → Keeps read_case_call (λ (text, _). text.now) (λ a. tt) (read-case.Asked κs) (read-case.Learnt κs)
  pub write-case : (κs : Lfts 1) → Keeps write_case_call (λ (c, _). c) (λ (_, (out, _)). out.now)
      (write-case.Asked κs) (write-case.Learnt κs)
  pub check-steps : (κs : Lfts 1) → Keeps check_steps_call (λ (text, _). text.now) (λ a. tt)
      (check-steps.Asked κs) (check-steps.Learnt κs)
  pub read-steps : (w : World) (κs : Lfts 2) (text : Bor (List ℕ)) (out : MutBor (List Step)) →
      let says = read-steps.clauses w.𝓛 w.𝓜.mem w.𝓡.run κs (text, (out, tt)) in
      AsksNothing w (says.requires tt)
      × ((r : Result ℕ Refusal) (left : MutBor (List Step)) → Tells w (says.ensures tt r (text, (left, tt)))
      (read_steps_call.promise text.now out.now left.now r))
  pub replay-text : (κs : Lfts 1) → Keeps replay_text_call (λ (c, (text, _)). (c, text.now)) (λ a. tt)
      (replay-text.Asked κs) (replay-text.Learnt κs)
  -- rounds
  pub observed-rounds : (κs : Lfts 1) → Keeps observed_rounds_call (λ (c, _). c) (λ (_, (room, _)). room.now)
      (observed-rounds.Asked κs) (observed-rounds.Learnt κs)
  -- the reports
  pub day-report : (κs : Lfts 2) → Keeps day_report_call (λ (text, _). text.now) (λ (_, (out, _)). out.now)
      (day-report.Asked κs) (day-report.Learnt κs)
  pub plan_report : (κs : Lfts 2) → Keeps plan_report_call (λ (input, _). input.now) (λ (_, (out, _)). out.now)
      (plan_report.Asked κs) (plan_report.Learnt κs)
  pub rounds-report : (κs : Lfts 2) → Keeps rounds_report_call (λ (text, _). text.now) (λ (_, (out, _)). out.now)
      (rounds-report.Asked κs) (rounds-report.Learnt κs)
  -- the state estimator's calls
  pub wz_observed : (κs : Lfts 2) → Keeps wz_observed_call (λ (text, _). text.now) (λ (_, (set, _)). set.now)
      (wz_observed.Asked κs) (wz_observed.Learnt κs)
  pub wz_unconfirmed : (κs : Lfts 2) → Keeps wz_unconfirmed_call (λ (text, _). text.now) (λ (_, (set, _)). set.now)
      (wz_unconfirmed.Asked κs) (wz_unconfirmed.Learnt κs)
  pub wz_fewest : (κs : Lfts 2) → Keeps wz_fewest_call (λ (text, (budget, _)). (text.now, budget)) (λ (_, (_, (set, _))). set.now)
      (wz_fewest.Asked κs) (wz_fewest.Learnt κs)
  pub wz_replay : (κs : Lfts 3) → Keeps wz_replay_call (λ (text, (steps, _)). (text.now, steps.now)) (λ (_, (_, (set, _))). set.now)
      (wz_replay.Asked κs) (wz_replay.Learnt κs)
