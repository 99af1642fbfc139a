-- The call's own contract is its promise: it asks nothing of the caller, and what it tells of a reply is what the promise says.
use contract.Lifetimes.{Lfts}
use Rattle.refusals.specs.Calls.{Keeps}
use Rattle.step_replay.specs.Replying.{replay_text_call}
use Rattle.step_replay.proofs.replay_text.Reads as replay-text

pub replay-text-promised : (κs : Lfts 1) → Keeps replay_text_call (λ (c, (text, _)). (c, text.now)) (λ a. tt)
    (replay-text.Asked κs) (replay-text.Learnt κs)
replay-text-promised κs a = (tt, λ r b told. told)
