-- The tables of what each call answers.
use mathlib.Core.Path.{refl, ap}
use mathlib.Core.List.{List, [], ◌∷◌}
use Prim.Native.Nat.{ℕ, suc, ◌≤◌}
use native.Mathlib.Omega.{arith}
use lib.Signed.{mag}
use lib.ListN.{length, get_or}
use Rattle.busset.specs.Sets.{empty}
use Rattle.busset.proofs.Holding.{word_own}
use Rattle.basics.proofs.Tests.{decides-yes, decides-no, refutes}
use Rattle.step.specs.Records.{no_step}
use Rattle.step.specs.declared.Step.{Step}
use Rattle.rules.specs.Steps.{ByUnit, Names, Finished}
use Rattle.rules.specs.Choosing.{GreedyList}
use Rattle.rules.proofs.Choices.{greedy-unique}
use Rattle.rules.proofs.Derivations.{derived-accepted}
use Rattle.rules.proofs.Leasts.{least-unique}
use Rattle.rules.proofs.Lists.{closed-finished}
use Rattle.rules.proofs.Ordering.{fewest-some}
use Rattle.tables.proofs.Words.{case_words, report_words, set_words, step_words, test_words}
use Rattle.tables.proofs.Tests.{bus_passes}
use Rattle.refusals.specs.declared.Refusal.TheVariants.{InvalidCase, NoSuchBus, ReasonFails, OverBudget, NoCover}
use Rattle.grid.specs.Limits.{most_budget}
use Rattle.grid.specs.Cases.{Valid}
use Rattle.refusals.specs.Refusals.{Failed, number_of}
use Rattle.refusals.proofs.Orders.{itself, failed_or_passed, failed-unique}
use Rattle.tables.proofs.Drawn.{filled_passes}
use Rattle.step_text.specs.Taking.{count_read}
use Rattle.list_follow.specs.Replies.{replay_checks}
use Rattle.observe_calls.specs.Replies.{observed_checks}
use Rattle.place_calls.specs.Replies.{fewest_checks}
use Rattle.demands.proofs.Demand2.{accepted-checks}
use Rattle.tables.proofs.Rows.{◌&◌, ◌then◌, stop}
use Rattle.tables.proofs.Computed.{known}
use Rattle.tables.proofs.Deriving.{allowed_passes}
use Rattle.tables.proofs.Steps.{is-derivation}
use Rattle.tables.proofs.Confirming as confirming
use Rattle.tables.proofs.Placing.{known_places}
use Rattle.tables.specs.Tables.{AllRight}
use Rattle.tables.specs.Drawings.{set, own, near, zero_at, seven_grid, short_value, value}
use Rattle.tables.specs.Steps.{derivation_steps}
use Rattle.tables.specs.Replies as tables
use Rattle.tables.proofs.Deriving.{names_pass}

-- the bad case value has no bus
pub invalid : Valid tables.bad_case → ⊥
invalid v = omega (arith, v.buses.some)

-- steps that name buses 1 to 7
named3 : Names 7 (own 3)
named3 = names_pass 7 (own 3) refl

pub named12 : Names 7 (zero_at 1 2)
named12 = names_pass 7 (zero_at 1 2) refl

named23 : Names 7 (near 2 3)
named23 = names_pass 7 (near 2 3) refl

-- ---- one question

pub figures-right : AllRight tables.figure_reply_table
unfolding case_words
figures-right =
    ((known.at2.valid, ((bus_passes 7 2 refl, bus_passes 7 1 refl), (refl, tt))), refl)
    & (λ h. omega (arith, ap mag h.1))
    & stop invalid (itself _)
    & known.none.valid then stop (λ h. omega (arith, h.0.most)) (itself _)
    & known.none.valid then stop (λ h. omega (arith, h.0.some)) (itself _)
    & known.none.valid then stop (λ h. omega (arith, h.1.most)) (itself _)
    & known.none.valid then (bus_passes 7 1 refl, bus_passes 7 3 refl) then stop (λ h. omega arith) (itself _)
    & known.none.valid then (bus_passes 7 3 refl, bus_passes 7 3 refl) then stop (λ h. omega arith) (itself _)
    & (λ h. omega (arith, h.0.1.1.0))
    & tt

pub tests_right : AllRight tables.step_reply_table
unfolding case_words
tests_right =
    (v, (named23, (refl, (record { unit = refl; joined = refl }, tt))))
    & stop invalid (itself _)
    & v then stop (λ h. omega (arith, h.reason.most)) (itself _)
    & v then stop (λ h. omega (arith, h.reason.some)) (itself _)
    & v then named12 then stop (λ h. omega arith) (itself _)
    & v then named12 then refl then stop (λ h. omega (arith, h.observed)) (itself _)
    & v then stop (λ h. omega (arith, h.bus.most)) (itself _)
    & tt
  where
    v : Valid (tables.seven_case (3 ∷ []))
    v = known.at3.valid

-- ---- lists

-- the list 1 by Z 2 is refused at step 1
refused_9 : Failed (replay_checks (tables.seven_case (3 ∷ [])) (zero_at 1 2 ∷ own 8 ∷ [])) (ReasonFails 1)
refused_9 = known.at3.valid then omega arith then named12 then refl then stop (λ h. omega (arith, h.observed)) (itself _)

pub replays_right : AllRight tables.replay_reply_table
unfolding step_words
replays_right = (
  (v, (omega arith, accepted-checks (tables.seven_case (3 ∷ [])) v.proper 1 empty derivation_steps (derived-accepted is-derivation).0)),
  refl,
  decides-yes (derived-accepted is-derivation).1,
  word_own _,
)
    & (
      (v, (omega arith, (named23, (refl, (record { unit = refl; joined = refl }, tt))))),
      refl,
      decides-no (λ h. h (own 3) (allowed_passes (seven_grid (3 ∷ [])) (set (2 ∷ [])) (own 3) refl)),
      word_own _,
    )
    & ((v, (omega arith, tt)), refl, decides-no (λ h. h (own 3) (allowed_passes (seven_grid (3 ∷ [])) (set []) (own 3) refl)), word_own _)
    & ((known.none.valid, (omega arith, tt)), refl, decides-yes none_allowed, word_own _)
    & (λ h. refutes h.2 refl none_allowed)
    & stop invalid (itself _)
    & v then stop (λ h. omega arith) (itself _)
    & v then omega arith then named23 then refl then record { unit = refl; joined = refl } then named23 then stop
    (λ h. omega arith) (itself _)
    & v then omega arith then named3 then refl then refl then stop (λ h. omega (arith, h.reason.some)) (itself _)
    & refused_9
    & (λ h. omega (
      arith,
      ap number_of
          (failed-unique (replay_checks (tables.seven_case (3 ∷ [])) (zero_at 1 2 ∷ own 8 ∷ [])) (ReasonFails 1) (NoSuchBus 2) refused_9 h),
    ))
    & tt
  where
    v : Valid (tables.seven_case (3 ∷ []))
    v = known.at3.valid

    none_allowed : Finished (seven_grid []) (set [])
    none_allowed = closed-finished (seven_grid []) (set []) known.none.least.closed

pub weaves-right : AllRight tables.weave_reply_table
unfolding case_words
weaves-right = (
  (
    v,
    (
      omega arith,
      (
        named3,
        (
          (λ o. refl),
          (
            names_pass 7 (near 3 1) refl,
            ((λ o. absurd (omega arith)), (named23, ((λ o. by3), (omega arith, tt)))),
          ),
        ),
      ),
    ),
  ),
  refl,
  refl,
  refl,
  word_own _,
)
    & (v then omega arith then named3 then (λ o. refl) then stop (λ h. omega (arith, h.reason.most)) (itself _), refl)
    & (v then omega arith then named12 then stop (λ h. omega (arith, (h refl).observed)) (itself _), refl)
    & (
      (v, (omega arith, (named3, ((λ o. refl), (named3, ((λ o. refl), (named3, ((λ o. refl), (omega arith, tt))))))))),
      refl,
      refl,
      refl,
      word_own _,
    )
    & (v then omega arith then named3 then (λ o. refl) then named23 then (λ o. by3) then stop (λ h. omega arith) (itself _), refl)
    & (λ h. omega (arith, ap (λ (xs : List Step). (get_or xs 0 no_step).bus) h.1))
    & (
      v then omega arith then named3 then (λ o. refl) then named23 then (λ o. by3) then names_pass 7 (zero_at 6 5) refl
          then stop (λ h. omega (arith, (h refl).observed)) (itself _),
      refl,
    )
    & tt
  where
    v : Valid (tables.seven_case (3 ∷ []))
    v = known.at3.valid

    by3 : ByUnit (seven_grid []).neighbours (set (3 ∷ [])) 2 3
    by3 = record { unit = refl; joined = refl }

-- ---- whole cases

pub sets_right : AllRight tables.case_reply_table
unfolding set_words
sets_right =
    ((known.at3.valid, tt), known.at3.least, word_own _)
    & (λ h. omega (arith, least-unique (seven_grid (3 ∷ [])) _ _ known.at3.least h.1))
    & stop invalid (itself _)
    & (λ h. failed_or_passed (observed_checks (tables.seven_case (3 ∷ []))) InvalidCase h (known.at3.valid, tt))
    & ((known.at3.valid, tt), record { derived = is-derivation; is = refl })
    & stop invalid (itself _)
    & ((known.at3.valid, tt), confirming.itself, word_own _)
    & stop invalid (itself _)
    & tt

-- what greedy adds has room
roomy : (budget k : ℕ) (xs : List ℕ) → GreedyList (seven_grid []) budget xs → length xs ≤ k → (ys : List ℕ)
    → GreedyList (seven_grid []) budget ys
    → length ys ≤ k
roomy budget k xs g l ys h = omega (arith, ap length (greedy-unique (seven_grid []) budget xs ys g h))

pub greedies_right : AllRight tables.greedy_reply_table
greedies_right = (
  (v, (omega arith, (roomy 2 3 (3 ∷ 4 ∷ []) known_places.greedy2 (omega arith), tt))),
  record { list = 3 ∷ 4 ∷ []; greedy = known_places.greedy2; count = refl; written = refl },
)
    & (stop invalid (itself _), refl)
    & (v then stop (λ h. omega arith) (itself _), refl)
    & (v then omega arith then stop (λ h. omega (arith, h (3 ∷ 4 ∷ []) known_places.greedy2)) (itself _), refl)
    & (λ h. omega (arith, ap (λ (xs : List ℕ). get_or xs 0 0) h.1))
    & ((v, (omega arith, (roomy 0 0 [] tt (omega arith), tt))), record { list = []; greedy = tt; count = refl; written = refl })
    & tt
  where
    v : Valid (tables.seven_case [])
    v = known.none.valid

pub fewests_right : AllRight tables.fewest_reply_table
fewests_right =
    ((v, (omega arith, (fewest-some known_places.fewest2, tt))), known_places.fewest2, word_own _)
    & stop invalid (itself _)
    & over
    & v then omega arith then stop known_places.fewest1 (itself _)
    & (λ h. omega (
      arith,
      ap number_of (failed-unique (fewest_checks (tables.seven_case []) (suc (most_budget 7))) (OverBudget 0) NoCover over h),
    ))
    & tt
  where
    v : Valid (tables.seven_case [])
    v = known.none.valid

    over : Failed (fewest_checks (tables.seven_case []) (suc (most_budget 7))) (OverBudget 0)
    over = v then stop (λ h. omega arith) (itself _)

pub texts_right : AllRight tables.text_reply_table
unfolding report_words test_words
texts_right =
    refl
    & refl
    & (λ h. omega (arith, ap count_read h))
    & (stop invalid (itself _), refl)
    & (v then stop (λ h. omega arith) (itself _), refl)
    & (λ h. omega (arith, ap (λ (xs : List ℕ). get_or xs 0 0) h.1))
    & ((v, (omega arith, tt)), refl, refl)
    & tt
  where
    v : Valid (value 1 [] [] [] [])
    v = filled_passes (short_value 1 [] [] [] []) refl
