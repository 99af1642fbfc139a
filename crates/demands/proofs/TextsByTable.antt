-- By the table: each public call that reads a text.
use Rattle.std.specs.Prelude.{Result, Ok, Err}
use Rattle.std.proofs.lemmas.Bool.{ltb-true, ltb-false}
use Rattle.std.proofs.lemmas.Result.{IfOk-at_ok, IfErr-at_err}
use mathlib.Core.Path.{◌≡◌, refl, sym, ap, ◌∙◌, subst, subst⁻¹}
use mathlib.Core.Bool.{Bool, true, false, cond}
use mathlib.Core.List.{List, [], ◌∷◌, ◌++◌}
use mathlib.Core.Logic.{inl, inr}
use Prim.Native.Nat.{ℕ, ◌+◌, ◌≤◌}
use native.Mathlib.Omega.{arith}
use lib.Dec.{lit<, lit≤, ltb}
use lib.ListN.{length}
use Rattle.grid.specs.declared.Case.{Case}
use Rattle.refusals.specs.declared.Refusal.{Refusal}
use Rattle.refusals.specs.declared.Refusal.TheVariants.{NoRoom}
use Rattle.refusals.specs.declared.ReplayError.{ReplayError}
use Rattle.refusals.specs.declared.ReplayError.TheVariants as refused
use Rattle.refusals.specs.Refusals.{number_of, place_of, Check, check_that, Passed, Failed}
use Rattle.refusals.specs.Calls.{Refuses}
use Rattle.refusals.proofs.Orders.{itself, passed_then, failed_sooner, failed-later}
use Rattle.refusals.proofs.Judging.{SaidBy, good, bad}
use Rattle.list_follow.specs.declared.Replayed.{Replayed}
use Rattle.list_follow.specs.Replies.{replay_checks, ReplayReply}
use Rattle.case_read.specs.Checks.{case_checks}
use Rattle.step_text.specs.Steps.{read_steps, steps_of}
use Rattle.step_text.specs.Checks.{step_text_checks, steps_read_checks}
use Rattle.step_text.specs.Taking.{with_room, leaves, read_steps_call}
use Rattle.step_text.proofs.Found.{steps-count}
use Rattle.step_replay.specs.Replying.{text_answer, TextReplayAt, TextReplayReply}
use Rattle.step_replay.specs.Replying.{with_fifty, text_replay_checks, TextRefuses, replay_text_call}
use Rattle.text_calls.specs.Replies.{read_case_call, check_steps_call}
use Rattle.case_read.proofs.CaseTexts.{ReadBy, case-judged}
use Rattle.step_text.proofs.StepTexts.{StepsBy, steps-judged}
use Rattle.demands.specs.Order.{FirstFails}
use Rattle.demands.specs.ByTable.{AllByTable}
use Rattle.demands.proofs.Firsts.{failed-first, Ends, met, ends-later, ends_sooner}
use Rattle.demands.proofs.Turns.{ComesAfter, then_ordered, then_follows, later-follows, replay-follows}
use Rattle.demands.proofs.TextTurns.{case_ordered, step-text_ordered, step-text-turn, fifty-follows, fifty-text-turn}

-- ---- texts read

-- no answer is a refusal, and two refusals that are one reply are one
said-ends : {A : Type 0} (checks : List Check) (r : Result A Refusal) → SaidBy Err (λ s. (x : A) × (s ≡ Ok x)) checks r
    → Ends checks (Refuses Err r)
said-ends checks r (good p (x, e)) = inl (p, λ n k h. IfOk-at_ok (λ _. ⊥) (sym h.1 ∙ e) tt)
said-ends checks r (bad q f e) =
    inr (
      number_of q,
      place_of q,
      failed-first checks q f,
      (q, e, itself q),
      λ m o h.
          let s : q ≡ h.0 = IfErr-at_err (λ k. q ≡ k) (sym e ∙ h.1) refl in
          (ap number_of s ∙ h.2.numbered, ap place_of s ∙ h.2.placed),
    )

pub read-case : AllByTable read_case_call
read-case text before after r p =
    met (case_checks text) (Refuses Err r) (case_ordered text) (λ n k h. refl)
    (said-ends (case_checks text) r (subst⁻¹ (ReadBy (case_checks text)) p (case-judged text)))

pub check-steps : AllByTable check_steps_call
check-steps text before after r p =
    met (step_text_checks text) (Refuses Err r) (step-text_ordered text) (λ n k h. refl)
    (said-ends (step_text_checks text) r (subst⁻¹ (StepsBy (step_text_checks text)) p (steps-judged text)))

-- the steps have room, or 6
abbrev has_room : List ℕ → ℕ → List Check
has_room text room = check_that (length (steps_of text) ≤ room) 6 0 ∷ []

-- where the text is good, it has as many steps as it says
room-judged : (text : List ℕ) (room : ℕ) (r : Result ℕ Refusal) → read_steps text ≡ r → StepsBy (step_text_checks text) r
    → StepsBy (steps_read_checks text room) (with_room room r)
room-judged text room r e (bad q f d) =
    bad q (failed_sooner (step_text_checks text) (has_room text room) q f) (ap (with_room room) d)
room-judged text room r e (good p (n, d)) = subst⁻¹ (λ x. StepsBy (steps_read_checks text room) (with_room room x)) d (go (ltb room n) refl)
  where
    many : length (steps_of text) ≡ n
    many = steps-count text n (e ∙ d)

    go : (b : Bool) → ltb room n ≡ b → StepsBy (steps_read_checks text room) (cond b (Err NoRoom) (Ok n))
    go true h =
        bad NoRoom
        (failed-later (step_text_checks text) (has_room text room) NoRoom p
        (inl (λ l. omega (arith, l, many, ltb-true room n h), itself NoRoom)))
        refl
    go false h =
        good (passed_then (step_text_checks text) (has_room text room) p (omega (arith, many, ltb-false room n h), tt)) (n, refl)

pub read-steps : AllByTable read_steps_call
read-steps text before after r p =
    met (steps_read_checks text (length before)) (Refuses Err r)
    (then_ordered 1 (step_text_checks text) (has_room text (length before)) (step-text_ordered text) (step-text-turn text)
    (later-follows 1 (has_room text (length before)) (lit≤ tt) (lit< tt) refl))
    (λ n k h. p.1 ∙ ap (λ (x : Result ℕ Refusal). leaves x (steps_of text) before) h.1)
    (said-ends (steps_read_checks text (length before)) r
    (subst⁻¹ (StepsBy (steps_read_checks text (length before))) p.0
    (room-judged text (length before) (read_steps text) refl (steps-judged text))))

-- ---- a step text replayed

-- 50 added to each number
fifty-first : (qs : List Check) (n k : ℕ) → FirstFails qs n k → FirstFails (with_fifty qs) (n + 50) k
fifty-first (q ∷ qs) n k (inl f) = inl (f.0, ap (λ (x : ℕ). x + 50) f.1, f.2)
fifty-first (q ∷ qs) n k (inr f) = inr (f.0, fifty-first qs n k f.1)
fifty-first [] n k x' = elim x' [ ]

fifty-passed : (qs : List Check) → Passed qs → Passed (with_fifty qs)
fifty-passed [] p = tt
fifty-passed (q ∷ qs) p = (p.0, fifty-passed qs p.1)

pub text-replay-ends : (c : Case) (text : List ℕ) (r : Result Replayed ReplayError) → TextReplayReply c text r
    → Ends (text_replay_checks c text) (TextRefuses r)
text-replay-ends c text r p = go (steps-judged text)
  where
    fifty : List Check
    fifty = with_fifty (step_text_checks text)

    steps : List Check
    steps = replay_checks c (steps_of text)

    replayed_ends : (a : Result Replayed Refusal) → ReplayReply c (steps_of text) a → Ends steps (TextRefuses (text_answer a))
    replayed_ends (Ok s) p = inl (p.0, λ n k h. h)
    replayed_ends (Err q) p = inr (number_of q, place_of q, failed-first steps q p, itself q, λ m o h. (h.numbered, h.placed))

    unread_ends : (q : Refusal) → Failed (step_text_checks text) q → Ends (fifty ++ steps) (TextRefuses (Err (refused.Text q)))
    unread_ends q a =
        ends_sooner fifty steps (TextRefuses (Err (refused.Text q))) (number_of q + 50) (place_of q)
        (fifty-first (step_text_checks text) (number_of q) (place_of q) (failed-first (step_text_checks text) q a))
        (record { numbered = refl; placed = refl }) (λ m o h. (h.numbered, h.placed))

    read_as : {x : Result ℕ Refusal} → read_steps text ≡ x → TextReplayAt c text x r
    read_as e = subst (λ (x : Result ℕ Refusal). TextReplayAt c text x r) e p

    go : StepsBy (step_text_checks text) (read_steps text) → Ends (fifty ++ steps) (TextRefuses r)
    go (good a (n, e)) =
        let t = read_as e in
        ends-later fifty steps (TextRefuses r) (fifty-passed (step_text_checks text) a)
        (subst⁻¹ (λ (x : Result Replayed ReplayError). Ends steps (TextRefuses x)) t.2 (replayed_ends t.0 t.1))
    go (bad q f e) =
        subst⁻¹ (λ (x : Result Replayed ReplayError). Ends (fifty ++ steps) (TextRefuses x)) (read_as e) (unread_ends q f)

pub text-replay-follows : (c : Case) (text : List ℕ) → ComesAfter 1 (text_replay_checks c text)
text-replay-follows c text =
    then_follows 3 1 (with_fifty (step_text_checks text)) (replay_checks c (steps_of text)) (fifty-follows text) (fifty-text-turn text)
    (lit≤ tt)
    (replay-follows c (steps_of text))

pub replay-text : AllByTable replay_text_call
replay-text (c, text) before after r p =
    met (text_replay_checks c text) (TextRefuses r) (text-replay-follows c text).0 (λ n k h. refl) (text-replay-ends c text r p)
