-- No result of a C function is 5, or 12 at place 0: by the table that check would be the first that fails, and it passes.
use Rattle.std.specs.Prelude.{Result, Ok, Err, IsOkAnd}
use mathlib.Core.Path.{◌≡◌, refl, ◌∙◌, subst, subst⁻¹}
use mathlib.Core.List.{List, [], ◌∷◌, ◌++◌}
use mathlib.Core.Logic.{◌⊎◌, inl, inr}
use Prim.Native.Nat.{ℕ, ◌≤◌}
use native.Mathlib.Omega.{arith}
use lib.Dec.{lit≤}
use lib.ListN.{length, drop}
use Rattle.grid.specs.declared.Case.{Case}
use Rattle.grid.specs.Limits.{most_steps}
use Rattle.grid.specs.Cases.{Valid}
use Rattle.refusals.specs.declared.Refusal.{Refusal}
use Rattle.refusals.specs.Refusals.{Check, check_that, Passed}
use Rattle.refusals.specs.Calls.{Call}
use Rattle.refusals.proofs.Orders.{failed_or_passed}
use Rattle.case_read.specs.Reading.{read_case}
use Rattle.case_inverse.proofs.Inverse.{read-valid}
use Rattle.step_text.specs.Steps.{steps_of, read_steps}
use Rattle.step_text.proofs.Found.{steps-count, steps-found}
use Rattle.list_follow.specs.Replies.{replay_checks}
use Rattle.observe_calls.specs.Replies.{observed_checks}
use Rattle.place_calls.specs.Replies.{verdict_checks, fewest_checks}
use Rattle.estimator.specs.Answers.{checks_of, estimator_checks, wz_observed_call, wz_unconfirmed_call, wz_fewest_call, wz_replay_call}
use Rattle.estimator_reply.specs.Results.{room_for_set}
use Rattle.case_read.specs.Checks.{case_checks}
use Rattle.step_text.specs.Checks.{step_text_checks}
use Rattle.step_replay.specs.Replying.{with_fifty, text_replay_checks}
use Rattle.refusals.proofs.Judging.{good, bad}
use Rattle.case_read.proofs.CaseTexts.{ReadBy, case-judged}
use Rattle.step_text.proofs.StepTexts.{StepsBy, steps-judged}
use Rattle.demands.specs.Order.{turn, Precedes, FirstFails}
use Rattle.demands.specs.ByTable.{AllByTable}
use Rattle.demands.specs.Document01.{NoFiveOrTwelve}
use Rattle.demands.proofs.Firsts.{first_in}
use Rattle.demands.proofs.Turns.{first-turn, first-after, replay_ordered}
use Rattle.demands.proofs.TextTurns.{case-turn, fifty-text-turn}
use Rattle.demands.proofs.EstimatorByTable as by_table

-- 5 at some place, or 12 at place 0
abbrev Never : ℕ → ℕ → Type 0
Never n k = (n ≡ 5) ⊎ ((n ≡ 12) × (k ≡ 0))

never_turn : {n k : ℕ} → Never n k → 4 ≤ turn (check_that ⊥ n k)
never_turn {k = k} (inl e) = subst⁻¹ (λ (n : ℕ). 4 ≤ turn (check_that ⊥ n k)) e (lit≤ tt)
never_turn {k = k} (inr e) =
    subst⁻¹ (λ (n : ℕ). 4 ≤ turn (check_that ⊥ n k)) e.0 (subst⁻¹ (λ (place : ℕ). 4 ≤ turn (check_that ⊥ 12 place)) e.1 (lit≤ tt))

-- another number is not it
never_not : {n k : ℕ} (m : ℕ) → (m ≡ 5 → ⊥) → (m ≡ 12 → ⊥) → Never n k → m ≡ n → ⊥
never_not m a b (inl e) f = a (f ∙ e)
never_not m a b (inr e) f = b (f ∙ e.0)

-- fewer than eight bytes are 6
never_room : (lent : List ℕ) {n k : ℕ} → Never n k → FirstFails (room_for_set lent) n k → ⊥
never_room lent h (inl f) = never_not 6 (λ e. omega (arith, e)) (λ e. omega (arith, e)) h f.1
never_room lent h (inr f) = f.1

-- nothing after 12 at place 0 is it
never_after : {n k : ℕ} → Never n k → Precedes (check_that ⊥ 12 0) (check_that ⊥ n k) → ⊥
never_after {k = k} (inl e) p = go (subst (λ (n : ℕ). Precedes (check_that ⊥ 12 0) (check_that ⊥ n k)) e p)
  where
    go : Precedes (check_that ⊥ 12 0) (check_that ⊥ 5 k) → ⊥
    go (inl h) = omega (arith, h)
    go (inr h) = omega (arith, h.0)
never_after {k = k} (inr e) p =
    let twelve = subst (λ (n : ℕ). Precedes (check_that ⊥ 12 0) (check_that ⊥ n k)) e.0 p in
    go (subst (λ (place : ℕ). Precedes (check_that ⊥ 12 0) (check_that ⊥ 12 place)) e.1 twelve)
  where
    go : Precedes (check_that ⊥ 12 0) (check_that ⊥ 12 0) → ⊥
    go (inl h) = omega (arith, h)
    go (inr (f, inl h)) = omega (arith, h)
    go (inr (f, inr h)) = omega (arith, h.1)

-- ---- a text that passes

case-valid : (text : List ℕ) → Passed (case_checks text) → IsOkAnd (read_case text) Valid
case-valid text p = go (case-judged text)
  where
    go : ReadBy (case_checks text) (read_case text) → IsOkAnd (read_case text) Valid
    go (good h (c, e)) = subst⁻¹ (λ (r : Result Case Refusal). IsOkAnd r Valid) e (read-valid text c e).valid
    go (bad q f e) = absurd (failed_or_passed (case_checks text) q f p)

steps-within : (text : List ℕ) → Passed (step_text_checks text) → length (steps_of text) ≤ most_steps
steps-within text p = go (steps-judged text)
  where
    go : StepsBy (step_text_checks text) (read_steps text) → length (steps_of text) ≤ most_steps
    go (good h (n, e)) = omega (arith, steps-count text n e, (steps-found text n e).few)
    go (bad q f e) = absurd (failed_or_passed (step_text_checks text) q f p)

fifty_passes : (qs : List Check) → Passed (with_fifty qs) → Passed qs
fifty_passes [] p = tt
fifty_passes (q ∷ qs) p = (p.0, fifty_passes qs p.1)

-- ---- a call on the case of a text

-- for a valid case none of the call's own checks gives it
abbrev OwnNever : (Case → List Check) → Type 0
OwnNever checks = (c : Case) (lent : List ℕ) (n k : ℕ) → Valid c → Never n k → FirstFails (checks c ++ room_for_set lent) n k → ⊥

never_given : (text : List ℕ) (checks : Case → List Check) → OwnNever checks → (lent : List ℕ) (n k : ℕ) → Never n k
    → FirstFails (estimator_checks text checks lent) n k → ⊥
never_given text checks own lent n k h f = go (first_in (case_checks text) (after (read_case text)) n k f)
  where
    after : Result Case Refusal → List Check
    after r = checks_of r checks ++ room_for_set lent

    of-case : (r : Result Case Refusal) → IsOkAnd r Valid → FirstFails (after r) n k → ⊥
    of-case (Ok c) v g = own c lent n k v h g
    of-case (Err q) v g = v

    go : FirstFails (case_checks text) n k ⊎ (Passed (case_checks text) × FirstFails (after (read_case text)) n k) → ⊥
    go (inl g) = omega (arith, first-turn 1 (case_checks text) n k (case-turn text) g, never_turn h)
    go (inr g) = of-case (read_case text) (case-valid text g.0) g.1

-- by the table, it is given only where its check is the first that fails
no-five_or_twelve : (call : Call) → AllByTable call
    → ((input : call.Input) (lent : call.Lent) (n k : ℕ) → Never n k → FirstFails (call.checks input lent) n k → ⊥)
    → NoFiveOrTwelve call
no-five_or_twelve call by_table never = record {
  five = λ place input before after r p h. never input before 5 place (inl refl) ((by_table input before after r p).given 5 place h);
  twelve = λ input before after r p h. never input before 12 0 (inr (refl, refl)) ((by_table input before after r p).given 12 0 h);
}

-- ---- the four

-- the case is valid, or 5
valid_never : OwnNever observed_checks
valid_never c lent n k v h (inl f) = f.0 v
valid_never c lent n k v h (inr f) = never_room lent h f.1

pub wz_observed : NoFiveOrTwelve wz_observed_call
wz_observed = no-five_or_twelve wz_observed_call by_table.wz_observed (λ text. never_given text observed_checks valid_never)

pub wz_unconfirmed : NoFiveOrTwelve wz_unconfirmed_call
wz_unconfirmed = no-five_or_twelve wz_unconfirmed_call by_table.wz_unconfirmed (λ text. never_given text verdict_checks valid_never)

-- then 10, 11
fewest_never : (budget : ℕ) → OwnNever (λ c. fewest_checks c budget)
fewest_never budget c lent n k v h (inl f) = f.0 v
fewest_never budget c lent n k v h (inr (_, inl f)) = never_not 10 (λ e. omega (arith, e)) (λ e. omega (arith, e)) h f.1
fewest_never budget c lent n k v h (inr (_, inr (_, inl f))) = never_not 11 (λ e. omega (arith, e)) (λ e. omega (arith, e)) h f.1
fewest_never budget c lent n k v h (inr (_, inr (_, inr f))) = never_room lent h f.1

pub wz_fewest : NoFiveOrTwelve wz_fewest_call
wz_fewest =
    no-five_or_twelve wz_fewest_call by_table.wz_fewest
    (λ (text, budget). never_given text (λ c. fewest_checks c budget) (fewest_never budget))

-- the step text, with 50 added; then 5, 12, and the steps
replay_never : (steps : List ℕ) → OwnNever (λ c. text_replay_checks c steps)
replay_never steps c lent n k v h f = go (first_in (fifty ++ replay) (room_for_set lent) n k f)
  where
    fifty : List Check
    fifty = with_fifty (step_text_checks steps)

    replay : List Check
    replay = replay_checks c (steps_of steps)

    in_steps : Passed fifty → FirstFails replay n k → ⊥
    in_steps a (inl g) = g.0 v
    in_steps a (inr (_, inl g)) = g.0 (steps-within steps (fifty_passes (step_text_checks steps) a))
    in_steps a (inr (_, inr g)) =
        let twelve = check_that (length (steps_of steps) ≤ most_steps) 12 0 in
        never_after h (first-after twelve (drop 2 replay) n k (replay_ordered c (steps_of steps)).2 g.1)

    in_text : FirstFails fifty n k ⊎ (Passed fifty × FirstFails replay n k) → ⊥
    in_text (inl g) = omega (arith, first-turn 3 fifty n k (fifty-text-turn steps) g, never_turn h)
    in_text (inr g) = in_steps g.0 g.1

    go : FirstFails (fifty ++ replay) n k ⊎ (Passed (fifty ++ replay) × FirstFails (room_for_set lent) n k) → ⊥
    go (inl g) = in_text (first_in fifty replay n k g)
    go (inr g) = never_room lent h g.1

pub wz_replay : NoFiveOrTwelve wz_replay_call
wz_replay =
    no-five_or_twelve wz_replay_call by_table.wz_replay
    (λ (text, steps). never_given text (λ c. text_replay_checks c steps) (replay_never steps))
