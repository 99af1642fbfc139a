-- The call's own contract is its promise: it asks nothing of the caller, and what it tells of a reply is what the promise says.
use contract.Lifetimes.{Lfts}
use Rattle.refusals.specs.Calls.{Keeps}
use Rattle.round_calls.specs.Replies.{observed_rounds_call}
use Rattle.round_calls.proofs.observed_rounds.Reads as observed-rounds

pub observed-rounds-promised : (κs : Lfts 1) → Keeps observed_rounds_call (λ (c, _). c) (λ (_, (room, _)). room.now)
    (observed-rounds.Asked κs) (observed-rounds.Learnt κs)
observed-rounds-promised κs a = (tt, λ r b told. told)
