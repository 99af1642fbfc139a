-- Each call's own contract is its promise: it asks nothing of the caller, and what it tells of a reply is what the promise says.
use contract.Lifetimes.{Lfts}
use Rattle.refusals.specs.Calls.{Keeps}
use Rattle.place_calls.specs.Replies.{cross_validate_call, place_greedy_call, place_fewest_call}
use Rattle.place_calls.proofs.cross_validate.Reads as cross_validate
use Rattle.place_calls.proofs.place_greedy.Reads as place-greedy
use Rattle.place_calls.proofs.place_fewest.Reads as place-fewest

pub cross_validate-promised : Keeps cross_validate_call (λ (c, _). c) (λ a. tt) (cross_validate.Asked tt) (cross_validate.Learnt tt)
cross_validate-promised a = (tt, λ r b told. told)

pub place-greedy-promised : (κs : Lfts 1) → Keeps place_greedy_call (λ (c, (budget, _)). (c, budget)) (λ (_, (_, (room, _))). room.now)
    (place-greedy.Asked κs) (place-greedy.Learnt κs)
place-greedy-promised κs a = (tt, λ r b told. told)

pub place-fewest-promised : Keeps place_fewest_call (λ (c, (budget, _)). (c, budget)) (λ a. tt)
    (place-fewest.Asked tt) (place-fewest.Learnt tt)
place-fewest-promised a = (tt, λ r b told. told)
