-- The place of every refusal is small enough for the result.
use Rattle.std.specs.Prelude.{Result, Ok, Err}
use mathlib.Core.Path.{◌≡◌, refl, subst⁻¹}
use mathlib.Core.List.{List}
use Prim.Native.Nat.{ℕ}
use native.Mathlib.Omega.{arith}
use Rattle.busset.specs.Held.{SetWord}
use Rattle.grid.specs.declared.Case.{Case}
use Rattle.refusals.specs.declared.Refusal.{Refusal}
use Rattle.refusals.specs.declared.ReplayError.{ReplayError}
use Rattle.refusals.specs.declared.ReplayError.TheVariants as refused
use Rattle.refusals.specs.Refusals.{Check, Failed}
use Rattle.refusals.proofs.Orders.{PlacesBy, failed-place}
use Rattle.list_follow.specs.declared.Replayed.{Replayed}
use Rattle.list_follow.specs.Replies.{ReplayReply}
use Rattle.list_follow.proofs.Refusing.{replay-place}
use Rattle.case_read.specs.Reading.{read_case}
use Rattle.case_read.proofs.Refusing.{read-place}
use Rattle.step_text.specs.Steps.{read_steps, steps_of}
use Rattle.step_text.proofs.Refusing.{steps-place}
use Rattle.step_replay.specs.Replying.{text_answer, TextReplayAt, TextReplayReply}
use Rattle.observe_calls.specs.Replies.{observed_checks, ObservedReply}
use Rattle.place_calls.specs.Replies.{verdict_checks, VerdictReply, fewest_checks, FewestReply}
use Rattle.estimator.specs.Answers.{OfCall, ObservedFor, UnconfirmedFor, FewestFor, ReplayFor, OfRead, OfText}
use Rattle.estimator_reply.specs.Results.{Answer, farthest, PlaceInRange}

-- ---- of a case

-- a call whose checks have near places
call-placed : (promise : Result SetWord Refusal → Type 0) (checks : List Check) → PlacesBy farthest checks
    → ((q : Refusal) → promise (Err q) → Failed checks q) → (a : Answer) → OfCall promise a → PlaceInRange a
call-placed promise checks near failed (Ok s) p = tt
call-placed promise checks near failed (Err (refused.List q)) p = failed-place farthest checks q near (failed q p)
call-placed promise checks near failed (Err (refused.Text q)) p = absurd p

-- replaying a step text: its lines, or its steps
replay-refused : (c : Case) (steps : List ℕ) (e : ReplayError) → TextReplayReply c steps (Err e) → PlaceInRange (Err e)
replay-refused c steps e p = go (read_steps steps) refl p
  where
    listed : (a : Result Replayed Refusal) → ReplayReply c (steps_of steps) a → Err e ≡ text_answer a → PlaceInRange (Err e)
    listed (Ok r) h is = cc
    listed (Err q) h is =
        let e_is : e ≡ refused.List q = cc in
        rw e_is (omega (arith, replay-place c (steps_of steps) q h))

    go : (r : Result ℕ Refusal) → read_steps steps ≡ r → TextReplayAt c steps r (Err e) → PlaceInRange (Err e)
    go (Ok n) f (a, h, is) = listed a h is
    go (Err q) f is =
        let e_is : e ≡ refused.Text q = cc in
        rw e_is (steps-place steps q f)

replayed-placed : (steps : List ℕ) (c : Case) (a : Answer) → ReplayFor steps c a → PlaceInRange a
replayed-placed steps c (Ok s) p = tt
replayed-placed steps c (Err e) p = replay-refused c steps e p

-- ---- of a text

text-placed : (text : List ℕ) (P : Case → Answer → Type 0) → ((c : Case) (a : Answer) → P c a → PlaceInRange a) → (a : Answer)
    → OfText text P a → PlaceInRange a
text-placed text P near a p = go (read_case text) refl p
  where
    go : (r : Result Case Refusal) → read_case text ≡ r → OfRead r P a → PlaceInRange a
    go (Ok c) e p = near c a p
    go (Err q) e p = subst⁻¹ PlaceInRange p (omega (arith, read-place text q e))

pub observed_placed : (text : List ℕ) (a : Answer) → OfText text ObservedFor a → PlaceInRange a
observed_placed text =
    text-placed text ObservedFor (λ c. call-placed (ObservedReply c) (observed_checks c) (omega arith, tt) (λ q p. p))

pub unconfirmed_placed : (text : List ℕ) (a : Answer) → OfText text UnconfirmedFor a → PlaceInRange a
unconfirmed_placed text =
    text-placed text UnconfirmedFor (λ c. call-placed (VerdictReply c) (verdict_checks c) (omega arith, tt) (λ q p. p))

pub fewest_placed : (text : List ℕ) (budget : ℕ) (a : Answer) → OfText text (FewestFor budget) a → PlaceInRange a
fewest_placed text budget =
    text-placed text (FewestFor budget)
    (λ c. call-placed (FewestReply c budget) (fewest_checks c budget) (omega arith, (omega arith, (omega arith, tt))) (λ q p. p))

pub replay_placed : (text steps : List ℕ) (a : Answer) → OfText text (ReplayFor steps) a → PlaceInRange a
replay_placed text steps = text-placed text (ReplayFor steps) (replayed-placed steps)
