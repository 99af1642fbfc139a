-- By the table: each of the state estimator's C functions.
use Rattle.std.specs.Prelude.{Result, Ok, Err}
use Rattle.std.proofs.lemmas.Bool.{ltb-true, ltb-false}
use mathlib.Core.Path.{◌≡◌, refl, ◌∙◌, subst, subst⁻¹}
use mathlib.Core.Bool.{Bool, true, false, cond}
use mathlib.Core.List.{List, [], ◌++◌, append_assoc}
use mathlib.Core.Logic.{inl, inr}
use Prim.Native.Nat.{ℕ, ◌+◌, ◌*◌, ◌≤◌}
use native.Mathlib.Omega.{arith}
use lib.Dec.{lit<, lit≤, ltb}
use lib.ListN.{length, drop}
use Rattle.busset.specs.Held.{SetWord}
use Rattle.busset.specs.Bytes.{set_bytes, set_length}
use Rattle.grid.specs.declared.Case.{Case}
use Rattle.refusals.specs.declared.Refusal.{Refusal}
use Rattle.refusals.specs.declared.ReplayError.TheVariants as refused
use Rattle.refusals.specs.Refusals.{number_of, place_of, Is, Check, Passed, Failed}
use Rattle.refusals.proofs.Orders.{itself, number-some, number-most}
use Rattle.refusals.proofs.Judging.{good, bad}
use Rattle.case_read.specs.Reading.{read_case}
use Rattle.case_read.specs.Checks.{case_checks}
use Rattle.case_read.proofs.CaseTexts.{ReadBy, case-judged}
use Rattle.list_follow.specs.Replies.{replay_checks}
use Rattle.step_text.specs.Steps.{steps_of}
use Rattle.step_text.specs.Checks.{step_text_checks}
use Rattle.step_replay.specs.Replying.{with_fifty, text_replay_checks, IsUnread}
use Rattle.observe_calls.specs.Replies.{observed_checks, ObservedReply}
use Rattle.place_calls.specs.Replies.{verdict_checks, VerdictReply, fewest_checks, FewestReply}
use Rattle.estimator.specs.Answers.{OfCall, ObservedFor, UnconfirmedFor, FewestFor, ReplayFor, OfRead, OfText}
use Rattle.estimator.specs.Answers.{checks_of, estimator_checks}
use Rattle.estimator.specs.Answers.{wz_observed_call, wz_unconfirmed_call, wz_fewest_call, wz_replay_call}
use Rattle.estimator_reply.specs.Results.{Answer, Replied, Answered, room_for_set, Coded}
use Rattle.demands.specs.Order.{InTableOrder, FirstFails}
use Rattle.demands.specs.ByTable.{ByTable, AllByTable}
use Rattle.demands.proofs.Firsts.{failed-first, Ends, met, ends-later, ends_sooner}
use Rattle.demands.proofs.Turns.{TurnsBy, ComesAfter, later-follows, then_ordered, then_turn, turn_more, then_follows, replay-turn}
use Rattle.demands.proofs.TextTurns.{case_ordered, case-turn, fifty-text-turn}
use Rattle.demands.proofs.TextsByTable.{text-replay-ends, text-replay-follows}

-- ---- an answer that refuses

-- the answer is a refusal with this number and this place
abbrev AnswerRefuses : Answer → ℕ → ℕ → Type 0
AnswerRefuses (Ok s) number place = ⊥
AnswerRefuses (Err (refused.List q)) number place = Is number place q
AnswerRefuses (Err (refused.Text q)) number place = IsUnread number place q

-- ---- the result and the bytes

coded-is : (r n k m o : ℕ) → r ≡ 100 * k + n → n ≤ 63 → Coded r m o → (n ≡ m) × (k ≡ o)
coded-is r n k m o e l h = (omega (arith, e, l, h.is, h.most), omega (arith, e, l, h.is, h.most))

-- a refusal's result
code-ends : (checks : List Check) (lent : List ℕ) (r n k : ℕ) → FirstFails checks n k → r ≡ 100 * k + n → 1 ≤ n → n ≤ 63
    → Ends (checks ++ room_for_set lent) (Coded r)
code-ends checks lent r n k f e s l =
    ends_sooner checks (room_for_set lent) (Coded r) n k f (record { is = e; some = s; most = omega (arith, l) })
    (λ m o h. coded-is r n k m o e l h)

-- a set's: 0, or 6 where fewer than eight bytes are lent
set-ends : (lent : List ℕ) (b : Bool) (r : ℕ) → ltb (length lent) set_length ≡ b → r ≡ cond b 6 0 → Ends (room_for_set lent) (Coded r)
set-ends lent true r h e =
    inr (
      6,
      0,
      inl (λ l. omega (arith, l, ltb-true (length lent) set_length h), refl, refl),
      record { is = e; some = lit≤ tt; most = lit< tt },
      λ m o k. coded-is r 6 0 m o e (lit≤ tt) k,
    )
set-ends lent false r h e = inl ((ltb-false (length lent) set_length h, tt), λ n k c. omega (arith, e, c.is, c.some))

result-ends : (checks : List Check) (a : Answer) (lent left : List ℕ) (r : ℕ) → Ends checks (AnswerRefuses a) → Replied a lent left r
    → Ends (checks ++ room_for_set lent) (Coded r)
result-ends checks (Ok s) lent left r (inl h) p =
    ends-later checks (room_for_set lent) (Coded r) h.0 (set-ends lent (ltb (length lent) set_length) r refl p.result)
result-ends checks (Err (refused.List q)) lent left r (inl h) p = absurd (h.1 (number_of q) (place_of q) (itself q))
result-ends checks (Err (refused.Text q)) lent left r (inl h) p =
    absurd (h.1 (number_of q + 50) (place_of q) (record { numbered = refl; placed = refl }))
result-ends checks (Ok s) lent left r (inr (n, k, f, h, one)) p = absurd h
result-ends checks (Err (refused.List q)) lent left r (inr (n, k, f, h, one)) p =
    code-ends checks lent r n k f (omega (arith, p.result, h.numbered, h.placed)) (omega (arith, number-some q, h.numbered))
    (omega (arith, number-most q, h.numbered))
result-ends checks (Err (refused.Text q)) lent left r (inr (n, k, f, h, one)) p =
    code-ends checks lent r n k f (omega (arith, p.result, h.numbered, h.placed)) (omega (arith, h.numbered))
    (omega (arith, number-most q, h.numbered))

-- a result that is a refusal leaves every byte
bytes-kept : (a : Answer) (lent left : List ℕ) (r : ℕ) → Replied a lent left r → (n k : ℕ) → Coded r n k → left ≡ lent
bytes-kept (Ok s) lent left r p n k c = p.bytes ∙ go (ltb (length lent) set_length) p.result
  where
    go : (b : Bool) → r ≡ cond b 6 0 → cond b lent (set_bytes s ++ drop set_length lent) ≡ lent
    go true e = refl
    go false e = absurd (omega (arith, e, c.is, c.some))
bytes-kept (Err q) lent left r p n k c = p.bytes

-- ---- the case text is read first

of-text : (text : List ℕ) (P : Case → Answer → Type 0) (checks : Case → List Check)
    → ((c : Case) (a : Answer) → P c a → Ends (checks c) (AnswerRefuses a))
    → (a : Answer) → OfText text P a → Ends (case_checks text ++ checks_of (read_case text) checks) (AnswerRefuses a)
of-text text P checks inner a p = go (read_case text) (case-judged text) p
  where
    by : Result Case Refusal → Type 0
    by r = OfRead r P a

    go : (r : Result Case Refusal) → ReadBy (case_checks text) r → OfRead r P a
        → Ends (case_checks text ++ checks_of r checks) (AnswerRefuses a)
    go r (good h (c, e)) p =
        subst⁻¹ (λ (x : Result Case Refusal). Ends (case_checks text ++ checks_of x checks) (AnswerRefuses a)) e
        (ends-later (case_checks text) (checks c) (AnswerRefuses a) h (inner c a (subst by e p)))
    go r (bad q f e) p =
        let is : a ≡ Err (refused.List q) = subst by e p in
        subst⁻¹ (λ (x : Answer). Ends (case_checks text ++ checks_of r checks) (AnswerRefuses x)) is
        (ends_sooner (case_checks text) (checks_of r checks) (AnswerRefuses (Err (refused.List q))) (number_of q) (place_of q)
        (failed-first (case_checks text) q f) (itself q) (λ m o h. (h.numbered, h.placed)))

-- what a call's own checks come to
abbrev Fit : List Check → Type 1
Fit qs = ComesAfter 1 qs × TurnsBy 8 qs

answered : (text : List ℕ) (P : Case → Answer → Type 0) (checks : Case → List Check) → ((c : Case) → Fit (checks c))
    → ((c : Case) (a : Answer) → P c a → Ends (checks c) (AnswerRefuses a))
    → (lent left : List ℕ) (r : ℕ) → Answered (OfText text P) lent left r → ByTable (estimator_checks text checks lent) (Coded r) lent left
answered text P checks fits inner lent left r p =
    met (estimator_checks text checks lent) (Coded r) order (bytes-kept p.answer lent left r p.replied)
    (subst (λ (qs : List Check). Ends qs (Coded r)) (append_assoc (case_checks text) own (room_for_set lent))
    (result-ends (case_checks text ++ own) p.answer lent left r (of-text text P checks inner p.answer p.is) p.replied))
  where
    own : List Check
    own = checks_of (read_case text) checks

    fit : (r : Result Case Refusal) → Fit (checks_of r checks)
    fit (Ok c) = fits c
    fit (Err q) = (later-follows 1 [] (lit≤ tt) tt tt, tt)

    order : InTableOrder (case_checks text ++ (own ++ room_for_set lent))
    order =
        let f = fit (read_case text) in
        then_ordered 1 (case_checks text) (own ++ room_for_set lent) (case_ordered text) (case-turn text)
        (then_follows 8 1 own (room_for_set lent) f.0 f.1 (lit≤ tt) (later-follows 8 (room_for_set lent) (lit≤ tt) (lit< tt) refl))

-- ---- the four

-- an answer is given where all of the call's checks pass, and a refusal is that of the first that fails
call-ends : (promise : Result SetWord Refusal → Type 0) (checks : List Check) → ((s : SetWord) → promise (Ok s) → Passed checks)
    → ((q : Refusal) → promise (Err q) → Failed checks q)
    → (a : Answer) → OfCall promise a → Ends checks (AnswerRefuses a)
call-ends promise checks passes fails (Ok s) p = inl (passes s p, λ n k h. h)
call-ends promise checks passes fails (Err (refused.List q)) p =
    inr (number_of q, place_of q, failed-first checks q (fails q p), itself q, λ m o h. (h.numbered, h.placed))
call-ends promise checks passes fails (Err (refused.Text q)) p = absurd p

pub wz_observed : AllByTable wz_observed_call
wz_observed text =
    answered text ObservedFor observed_checks (λ c. (later-follows 1 (observed_checks c) (lit≤ tt) (lit< tt) refl, (lit≤ tt, tt)))
    (λ c. call-ends (ObservedReply c) (observed_checks c) (λ s p. p.0) (λ q p. p))

pub wz_unconfirmed : AllByTable wz_unconfirmed_call
wz_unconfirmed text =
    answered text UnconfirmedFor verdict_checks (λ c. (later-follows 1 (verdict_checks c) (lit≤ tt) (lit< tt) refl, (lit≤ tt, tt)))
    (λ c. call-ends (VerdictReply c) (verdict_checks c) (λ s p. p.0) (λ q p. p))

pub wz_fewest : AllByTable wz_fewest_call
wz_fewest (text, budget) =
    answered text (FewestFor budget) (λ c. fewest_checks c budget) (λ c. (o c, (lit≤ tt, (lit≤ tt, (lit≤ tt, tt)))))
    (λ c. call-ends (FewestReply c budget) (fewest_checks c budget) (λ s p. p.0) (λ q p. p))
  where
    o : (c : Case) → ComesAfter 1 (fewest_checks c budget)
    o c = later-follows 1 (fewest_checks c budget) (lit≤ tt) (lit< tt) (refl, inl (lit< tt), (refl, inl (lit< tt), refl))

replay-ends : (steps : List ℕ) (c : Case) (a : Answer) → ReplayFor steps c a → Ends (text_replay_checks c steps) (AnswerRefuses a)
replay-ends steps c (Ok s) (f, p) = text-replay-ends c steps (Ok (record { set = s; finished = f })) p
replay-ends steps c (Err (refused.List q)) p = text-replay-ends c steps (Err (refused.List q)) p
replay-ends steps c (Err (refused.Text q)) p = text-replay-ends c steps (Err (refused.Text q)) p

pub wz_replay : AllByTable wz_replay_call
wz_replay (text, steps) =
    answered text (ReplayFor steps) (λ c. text_replay_checks c steps)
    (λ c. (
      text-replay-follows c steps,
      then_turn 8 (with_fifty (step_text_checks steps)) (replay_checks c (steps_of steps))
          (turn_more 3 8 (with_fifty (step_text_checks steps)) (lit≤ tt) (fifty-text-turn steps))
          (turn_more 6 8 (replay_checks c (steps_of steps)) (lit≤ tt) (replay-turn c (steps_of steps))),
    ))
    (replay-ends steps)
