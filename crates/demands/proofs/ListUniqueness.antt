-- For each call over a list of steps: its promise determines the reply, and the records that it leaves.
use Rattle.refusals.specs.declared.Refusal.{Refusal}
use Rattle.std.specs.Prelude.{Result, Ok, Err}
use mathlib.Core.Path.{◌≡◌, refl, sym, ap, ◌∙◌}
use Prim.Native.Nat.{ℕ}
use lib.ListN.{length}
use Rattle.basics.proofs.Tests.{decides-same}
use Rattle.busset.proofs.Holding.{same_word}
use Rattle.rules.specs.Grids.{Grid}
use Rattle.rules.proofs.Derivations.{derived-unique}
use Rattle.list_value.specs.Lists.{StepList, list_of}
use Rattle.list_derive.specs.Deriving.{Derives}
use Rattle.list_derive.specs.Replies.{derivation_checks, DerivationReply, derivation_call}
use Rattle.list_follow.specs.Replies.{replay_checks, ReplayReply, replay_call, weave_checks, WeaveReply, weave_call}
use Rattle.step_text.specs.Steps.{read_steps, steps_of}
use Rattle.step_replay.specs.Replying.{text_answer, TextReplayAt, replay_text_call}
use Rattle.demands.specs.Determined.{OneReply}
use Rattle.demands.proofs.Uniqueness.{one-reply}

derives-unique : {g : Grid} {l m : StepList} → Derives g l → Derives g m → l ≡ m
derives-unique {l = l} {m = m} p q = p.is ∙ ap list_of (derived-unique p.derived m.items q.derived) ∙ sym q.is

pub derivation : OneReply derivation_call
derivation c lent =
    one-reply (λ m r. DerivationReply c r) (derivation_checks c) lent (λ r m p. (p, refl)) (λ l m p. p.0)
    (λ l k m n p q. (derives-unique p.1 q.1, refl))

pub replay : OneReply replay_call
replay (c, xs) lent =
    one-reply (λ m r. ReplayReply c xs r) (replay_checks c xs) lent (λ r m p. (p, refl)) (λ r m p. p.0)
    (λ r t m n p q. (λ i. record { set = same_word p.3 q.3 (p.1 ∙ sym q.1) i; finished = decides-same p.2 q.2 i }, refl))

pub replay-text : OneReply replay_text_call
replay-text (c, text) lent a b left right p q = (go (read_steps text) p q, refl)
  where
    go : (r : Result ℕ Refusal) → TextReplayAt c text r a → TextReplayAt c text r b → a ≡ b
    go (Ok n) p q = p.2 ∙ ap text_answer (replay (c, steps_of text) tt p.0 q.0 tt tt p.1 q.1).0 ∙ sym q.2
    go (Err r) p q = p ∙ sym q

pub weave : OneReply weave_call
weave (c, xs) before =
    one-reply (λ after r. WeaveReply c xs before after r) (weave_checks c xs (length before)) before (λ r after p. p) (λ w after p. p.0)
    (λ v w left right p q.
    (λ i. record { count = (p.1 ∙ sym q.1) i; set = same_word p.4 q.4 (p.2 ∙ sym q.2) i }, p.3 ∙ sym q.3))
