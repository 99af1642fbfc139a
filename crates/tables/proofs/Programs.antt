-- The tables from text to text: what is read is computed, and what is answered of the case is in the other tables.
use Rattle.std.specs.Prelude.{Result, Ok, Err}
use mathlib.Core.Path.{◌≡◌, refl, ap}
use mathlib.Core.Bool.{true}
use mathlib.Core.List.{List, [], ◌∷◌}
use Prim.Native.Nat.{ℕ}
use native.Mathlib.Omega.{arith}
use lib.ListN.{length, get_or}
use Rattle.busset.proofs.Holding.{word_own}
use Rattle.busset.specs.Held.{SetWord}
use Rattle.step.specs.Records.{no_step}
use Rattle.step.specs.declared.Step.{Step}
use Rattle.text_field.specs.Split.{bytes}
use Rattle.rules.proofs.Ordering.{fewest-some}
use Rattle.refusals.specs.declared.Refusal.{Refusal}
use Rattle.refusals.specs.declared.Refusal.TheVariants.{WrongForm, OutOfRange, ReasonFails, OverBudget, NoCover}
use Rattle.refusals.specs.declared.ReplayError.TheVariants as refused
use Rattle.list_follow.specs.declared.Replayed.{Replayed}
use Rattle.refusals.proofs.Orders.{itself}
use Rattle.report_day.specs.Day.{DayPrinted}
use Rattle.report_day.proofs.Days.{day-unique}
use Rattle.step_replay.specs.Replying.{text_answer}
use Rattle.estimator_reply.specs.Results.{Answer, result_of, left_by, Answered}
use Rattle.report_plan.specs.Plan.{PlanPrinted, found, none as no-plan}
use Rattle.report_plan.proofs.Unique.{plan_unique}
use Rattle.tables.proofs.Words.{report_words, step_text_words}
use Rattle.tables.proofs.Rows.{◌&◌, ◌then◌, stop, differ}
use Rattle.tables.proofs.Computed.{known}
use Rattle.tables.proofs.Steps.{is-derivation, no_steps}
use Rattle.tables.proofs.Confirming as confirming
use Rattle.tables.proofs.Replies.{invalid, named12}
use Rattle.tables.proofs.Replies as replies
use Rattle.tables.proofs.Placing.{known_places}
use Rattle.tables.specs.Tables.{AllRight, block}
use Rattle.tables.specs.Starred.{word_with}
use Rattle.tables.specs.Drawings.{set}
use Rattle.tables.specs.CaseTexts.{input, bare_input}
use Rattle.tables.specs.Reports.{output}
use Rattle.tables.specs.Steps.{derivation_steps}
use Rattle.tables.specs.Programs as tables

-- ---- document 01's two programs

pub days_right : AllRight tables.day_printed_table
unfolding report_words
days_right =
    day
    & day_none
    & (λ h. differ 16 (day-unique (block bare_input) _ _ day_none h) (λ e. omega arith))
    & refl
    & (λ h. differ 8 h (λ e. omega arith))
    & (λ h. differ 0 (day-unique (block input) _ _ day h) (λ e. omega arith))
    & tt
  where
    day : DayPrinted (block input) (block output)
    day = record {
      observed = set (1 ∷ 2 ∷ 3 ∷ 4 ∷ 7 ∷ []);
      least = known.at3.least;
      steps = derivation_steps;
      derived = is-derivation;
      unconfirmed = set (3 ∷ []);
      verdict = confirming.itself;
      is = refl;
    }

    day_none : DayPrinted (block bare_input) (bytes "observed\t0\t7\nxv\tyes\nend\n")
    day_none = record {
      observed = set [];
      least = known.none.least;
      steps = [];
      derived = no_steps;
      unconfirmed = set [];
      verdict = confirming.nobody;
      is = refl;
    }

pub plans_right : AllRight tables.plan_printed_table
unfolding report_words
plans_right =
    found (set (1 ∷ 4 ∷ [])) (omega arith, (fewest-some known_places.fewest2, tt)) known_places.fewest2 refl
    & no-plan NoCover (omega arith then stop known_places.fewest1 (itself _)) refl
    & over
    & (λ h. differ 11 (plan_unique (block ("plan 9999" ∷ bare_input)) _ _ over h) (λ e. omega arith))
    & refl
    & refl
    & tt
  where
    over : PlanPrinted (block ("plan 9999" ∷ bare_input)) (bytes "refused\t10\t1\n")
    over = no-plan (OverBudget 1) (stop (λ h. omega arith) (itself _)) refl

-- ---- step texts

-- a text whose steps are replayed is read
not_unread : (a : Result Replayed Refusal) (q : Refusal) → Err (refused.Text q) ≡ text_answer a → ⊥
not_unread (Ok r) q e = cc
not_unread (Err r) q e = cc

pub replays_right : AllRight tables.text_replay_table
unfolding step_text_words
replays_right =
    (Ok _, replies.replays_right.0, refl)
    & refl
    & (Err _, known.at3.valid then omega arith then stop (λ h. omega (arith, h.bus.most)) (itself _), refl)
    & (λ h. not_unread h.0 _ h.2)
    & refl
    & refl
    & (Err _, stop invalid (itself _), refl)
    & tt

pub readings_right : AllRight tables.steps_read_table
unfolding step_text_words
readings_right =
    (refl, refl)
    & (refl, refl)
    & (refl, refl)
    & (refl, refl)
    & (λ h. omega (arith, ap (λ (xs : List Step). (get_or xs 0 no_step).bus) h.1))
    & tt

-- ---- bytes lent

pub prints_right : AllRight tables.print_table
unfolding report_words
prints_right =
    record { text = bytes "refused\t2\t1\n"; asked = refl; room = omega arith; count = refl; written = refl }
    & record { text = bytes "refused\t2\t1\n"; asked = refl; more = omega arith; refusal = itself _; kept = refl }
    & (λ h. omega (arith, h.more, ap length h.asked))
    & record { put = refl; next = refl }
    & record { put = refl; next = refl }
    & (λ h. differ 1 h.put (λ e. omega arith))
    & tt

-- ---- the four C functions

-- what is answered, and so the result and the bytes
gives : {P : Answer → Type 0} (lent : List ℕ) (a : Answer) → P a → Answered P lent (left_by a lent) (result_of a (length lent))
gives lent a p = record { answer = a; is = p; replied = record { result = refl; bytes = refl } }

-- the buses that a unit at 3 makes observed
abbrev five : SetWord
five = word_with (1 ∷ 2 ∷ 3 ∷ 4 ∷ 7 ∷ [])

pub calls-right : AllRight tables.estimator_table
unfolding report_words
calls-right =
    gives tables.lent (Ok five) replies.sets_right.0
    & gives tables.lent (Ok (word_with (3 ∷ []))) ((known.at3.valid, tt), confirming.itself, word_own _)
    & gives tables.lent (Ok (word_with (1 ∷ 4 ∷ []))) replies.fewests_right.0
    & gives tables.lent (Ok five) (true, replays_right.0)
    & gives tables.lent (Err (refused.List (WrongForm 1))) refl
    & gives tables.lent (Err (refused.List NoCover)) (known.none.valid then omega arith then stop known_places.fewest1 (itself _))
    & gives tables.lent (Err (refused.List (OverBudget 0))) (known.none.valid then stop (λ h. omega arith) (itself _))
    & gives tables.lent (Err (refused.List (OutOfRange 1))) refl
    & gives tables.lent (Err (refused.List (OutOfRange 1))) refl
    & gives tables.lent (Err (refused.Text (OutOfRange 1))) refl
    & gives tables.lent (Err (refused.List (ReasonFails 1))) (
      Err _,
      known.at3.valid then omega arith then named12 then refl then stop (λ h. omega (arith, h.observed)) (itself _),
      refl,
    )
    & gives (5 ∷ []) (Ok five) replies.sets_right.0
    & (λ h. omega (arith, h.replied.result, ap (λ (a : Answer). result_of a 1) h.is))
    & tt
