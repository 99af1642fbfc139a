-- For each C function: its promise determines the result, and the bytes that it leaves.
use Rattle.std.specs.Prelude.{Result, Ok, Err}
use mathlib.Core.Path.{◌≡◌, refl, sym, ap, ◌∙◌}
use mathlib.Core.List.{List}
use Prim.Native.Nat.{ℕ}
use lib.ListN.{length}
use Rattle.busset.specs.Held.{SetWord}
use Rattle.grid.specs.declared.Case.{Case}
use Rattle.refusals.specs.declared.Refusal.{Refusal}
use Rattle.refusals.specs.declared.ReplayError.{ReplayError}
use Rattle.refusals.specs.declared.ReplayError.TheVariants as refused
use Rattle.case_read.specs.Reading.{read_case}
use Rattle.list_follow.specs.declared.Replayed.{Replayed}
use Rattle.step_replay.specs.Replying.{TextReplayReply}
use Rattle.observe_calls.specs.Replies.{ObservedReply}
use Rattle.place_calls.specs.Replies.{VerdictReply, FewestReply}
use Rattle.estimator.specs.Answers.{OfCall, ObservedFor, UnconfirmedFor, FewestFor, ReplayFor, OfRead, OfText}
use Rattle.estimator.specs.Answers.{wz_observed_call, wz_unconfirmed_call, wz_fewest_call, wz_replay_call}
use Rattle.estimator_reply.specs.Results.{Answer, result_of, left_by, Answered}
use Rattle.demands.specs.Determined.{OneReply}
use Rattle.demands.proofs.Uniqueness.{observed-set}
use Rattle.demands.proofs.SitingUniqueness.{cross_validate, place-fewest}
use Rattle.demands.proofs.ListUniqueness.{replay-text}

-- P says one answer
abbrev Unique : (Answer → Type 0) → Type 0
Unique P = (a b : Answer) → P a → P b → a ≡ b

-- the answer is that of a reply that meets a promise
abbrev SaidOf : {R : Type 0} → (R → Type 0) → (R → Answer) → Answer → Type 0
SaidOf {R = R} promise of a = (r : R) × promise r × (a ≡ of r)

said-unique : {R : Type 0} (promise : R → Type 0) (of : R → Answer) → ((x y : R) → promise x → promise y → x ≡ y)
    → (P : Answer → Type 0) → ((a : Answer) → P a → SaidOf promise of a) → Unique P
said-unique promise of u P said a b p q =
    let x = said a p in
    let y = said b q in x.2 ∙ ap of (u x.0 y.0 x.1 y.1) ∙ sym y.2

-- the answer where a call replies so
abbrev of_call : Result SetWord Refusal → Answer
of_call (Ok s) = Ok s
of_call (Err q) = Err (refused.List q)

call-unique : (promise : Result SetWord Refusal → Type 0)
    → ((x y : Result SetWord Refusal) → promise x → promise y → x ≡ y) → Unique (OfCall promise)
call-unique promise u = said-unique promise of_call u (OfCall promise) said
  where
    said : (a : Answer) → OfCall promise a → SaidOf promise of_call a
    said (Ok s) p = (Ok s, p, refl)
    said (Err (refused.List q)) p = (Err q, p, refl)
    said (Err (refused.Text q)) p = absurd p

-- the answer where a step text is replayed so
abbrev of_replay : Result Replayed ReplayError → Answer
of_replay (Ok r) = Ok r.set
of_replay (Err e) = Err e

replay-unique : (steps : List ℕ) (c : Case) → Unique (ReplayFor steps c)
replay-unique steps c =
    said-unique (TextReplayReply c steps) of_replay (λ a b p q. (replay-text (c, steps) tt a b tt tt p q).0) (ReplayFor steps c) said
  where
    said : (a : Answer) → ReplayFor steps c a → SaidOf (TextReplayReply c steps) of_replay a
    said (Ok s) (f, p) = (Ok (record { set = s; finished = f }), p, refl)
    said (Err e) p = (Err e, p, refl)

text-unique : (text : List ℕ) (P : Case → Answer → Type 0) → ((c : Case) → Unique (P c)) → Unique (OfText text P)
text-unique text P u a b p q = go (read_case text) p q
  where
    go : (r : Result Case Refusal) → OfRead r P a → OfRead r P b → a ≡ b
    go (Ok c) p q = u c a b p q
    go (Err k) p q = p ∙ sym q

-- where P says the answer, the result and every byte are fixed
fixed : (P : Answer → Type 0) → Unique P → (lent : List ℕ) (a b : ℕ) (left right : List ℕ) → Answered P lent left a
    → Answered P lent right b → (a ≡ b) × (left ≡ right)
fixed P u lent a b left right p q =
    let e = u p.answer q.answer p.is q.is in (
      p.replied.result ∙ ap (λ (a : Answer). result_of a (length lent)) e ∙ sym q.replied.result,
      p.replied.bytes ∙ ap (λ (a : Answer). left_by a lent) e ∙ sym q.replied.bytes,
    )

-- ---- the four

pub wz_observed : OneReply wz_observed_call
wz_observed text =
    fixed (OfText text ObservedFor)
    (text-unique text ObservedFor (λ c. call-unique (ObservedReply c) (λ a b p q. (observed-set c tt a b tt tt p q).0)))

pub wz_unconfirmed : OneReply wz_unconfirmed_call
wz_unconfirmed text =
    fixed (OfText text UnconfirmedFor)
    (text-unique text UnconfirmedFor (λ c. call-unique (VerdictReply c) (λ a b p q. (cross_validate c tt a b tt tt p q).0)))

pub wz_fewest : OneReply wz_fewest_call
wz_fewest (text, budget) =
    fixed (OfText text (FewestFor budget))
    (text-unique text (FewestFor budget)
    (λ c. call-unique (FewestReply c budget) (λ a b p q. (place-fewest (c, budget) tt a b tt tt p q).0)))

pub wz_replay : OneReply wz_replay_call
wz_replay (text, steps) =
    fixed (OfText text (ReplayFor steps)) (text-unique text (ReplayFor steps) (replay-unique steps))
