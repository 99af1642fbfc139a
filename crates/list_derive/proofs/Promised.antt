-- The call's own contract is its promise: it asks nothing of the caller, and what it tells of a reply is what the promise says.
use Rattle.refusals.specs.Calls.{Keeps}
use Rattle.list_derive.specs.Replies.{derivation_call}
use Rattle.list_derive.proofs.derivation.Reads as derivation

pub derivation-promised : Keeps derivation_call (λ (c, _). c) (λ a. tt) (derivation.Asked tt) (derivation.Learnt tt)
derivation-promised a = (tt, λ r b told. told)
