-- For each call that reads or writes a text: its promise determines the reply, and the bytes or records that it leaves.
use Rattle.refusals.specs.declared.Refusal.{Refusal}
use Rattle.std.specs.Prelude.{Result}
use mathlib.Core.Path.{◌≡◌, refl, sym, ap, ◌∙◌}
use Prim.Native.Nat.{ℕ}
use Rattle.step_text.specs.Steps.{steps_of}
use Rattle.step_text.specs.Taking.{leaves, read_steps_call}
use Rattle.text_calls.specs.Replies.{read_case_call, write_checks, CaseWrittenReply, write_case_call, check_steps_call}
use Rattle.demands.specs.Determined.{OneReply}
use Rattle.demands.proofs.Uniqueness.{one-reply}

pub read-case : OneReply read_case_call
read-case text lent a b left right p q = (p ∙ sym q, refl)

pub write-case : OneReply write_case_call
write-case c lent =
    one-reply (λ left r. CaseWrittenReply c lent r left) (write_checks c lent) lent (λ r left p. p) (λ k left p. p.0)
    (λ k m left right p q. (p.1 ∙ sym q.1, p.2 ∙ sym q.2))

pub check-steps : OneReply check_steps_call
check-steps text lent a b left right p q = (p ∙ sym q, refl)

pub read-steps : OneReply read_steps_call
read-steps text before a b left right p q =
    let e : a ≡ b = p.0 ∙ sym q.0 in (e, p.1 ∙ ap (λ (r : Result ℕ Refusal). leaves r (steps_of text) before) e ∙ sym q.1)
