-- Each call's own contract is its promise: it asks nothing of the caller, and what it tells of a reply is what the promise says.
use contract.Lifetimes.{Lfts}
use Rattle.refusals.specs.Calls.{Keeps}
use Rattle.estimator.specs.Answers.{wz_observed_call, wz_unconfirmed_call, wz_fewest_call, wz_replay_call}
use Rattle.estimator.proofs.wz_observed.Reads as wz_observed
use Rattle.estimator.proofs.wz_unconfirmed.Reads as wz_unconfirmed
use Rattle.estimator.proofs.wz_fewest.Reads as wz_fewest
use Rattle.estimator.proofs.wz_replay.Reads as wz_replay

pub wz_observed-promised : (κs : Lfts 2) → Keeps wz_observed_call (λ (text, _). text.now) (λ (_, (set, _)). set.now)
    (wz_observed.Asked κs) (wz_observed.Learnt κs)
wz_observed-promised κs a = (tt, λ r b told. told)

pub wz_unconfirmed-promised : (κs : Lfts 2) → Keeps wz_unconfirmed_call (λ (text, _). text.now) (λ (_, (set, _)). set.now)
    (wz_unconfirmed.Asked κs) (wz_unconfirmed.Learnt κs)
wz_unconfirmed-promised κs a = (tt, λ r b told. told)

pub wz_fewest-promised : (κs : Lfts 2)
    → Keeps wz_fewest_call (λ (text, (budget, _)). (text.now, budget)) (λ (_, (_, (set, _))). set.now)
    (wz_fewest.Asked κs) (wz_fewest.Learnt κs)
wz_fewest-promised κs a = (tt, λ r b told. told)

pub wz_replay-promised : (κs : Lfts 3)
    → Keeps wz_replay_call (λ (text, (steps, _)). (text.now, steps.now)) (λ (_, (_, (set, _))). set.now)
    (wz_replay.Asked κs) (wz_replay.Learnt κs)
wz_replay-promised κs a = (tt, λ r b told. told)
