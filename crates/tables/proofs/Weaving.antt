-- The tables of weaving and of the firing figure.
use Rattle.std.specs.Prelude.{Result, Ok}
use Rattle.std.specs.Result.{result_unwrap_or}
use mathlib.Core.Path.{refl, ap}
use mathlib.Core.List.{List, [], ◌∷◌}
use mathlib.Core.Logic.{◌⊎◌, inl, inr, ⊎_elim}
use Prim.Native.Nat.{ℕ, ◌≤◌}
use native.Mathlib.Omega.{arith}
use lib.ListN.{length, get_or}
use lib.Signed.{le_z_yes}
use Rattle.busset.specs.Sets.{bit, In, add, set_of}
use Rattle.step.specs.Records.{no_step}
use Rattle.busset.proofs.Holding.{word_own}
use Rattle.step.specs.declared.Step.{Step}
use Rattle.rules.specs.Steps.{Names, reached, Accepted}
use Rattle.basics.specs.Lists.{Each}
use Rattle.rules.specs.Weaving.{TakenFromOne, here, there, Shuffle, none, next}
use Rattle.rules.proofs.Shuffles.{weaving_shuffles}
use Rattle.refusals.specs.declared.Refusal.{Refusal}
use Rattle.list_follow.specs.declared.Wove.{Wove}
use Rattle.demands.proofs.Demand3.{demand_3}
use Rattle.tables.proofs.Words.{case_words, set_words, step_words}
use Rattle.tables.specs.Starred.{drawn_case, seven}
use Rattle.tables.proofs.Computed.{known}
use Rattle.tables.proofs.Rows.{◌&◌, no_answer}
use Rattle.tables.proofs.Deriving.{allowed_passes}
use Rattle.tables.specs.Tables.{AllRight}
use Rattle.tables.specs.Drawings.{set, own, near, count_wove, seven_grid}
use Rattle.tables.specs.Weaving as weaving
use Rattle.tables.specs.Figures as figures
use Rattle.tables.proofs.Deriving.{names_pass}

-- ---- computed

pub wovens_right : weaving.WovensRight
unfolding add
wovens_right = refl

pub wovens_from-right : weaving.WovensFromRight
unfolding set_words
wovens_from-right = refl

pub figures-right : figures.FiguresRight
unfolding case_words
figures-right = refl

pub stated-right : figures.StatedRight
unfolding set_words
stated-right = refl

pub runs-right : AllRight figures.figure_run_table
runs-right =
    record { low = le_z_yes tt; high = le_z_yes tt }
    & (λ h. h.low.le)
    & record { low = le_z_yes tt; high = le_z_yes tt }
    & (λ h. h.high.le)
    & tt

-- ---- weaving

pub weavable-right : AllRight weaving.weavable_table
unfolding case_words
weavable-right =
    ((λ o. record { unit = refl; joined = refl }), ((λ o. refl), tt))
    & ((λ o. refl), ((λ o. absurd (omega arith)), tt))
    & (λ h. omega (arith, (h.0 refl).unit))
    & (λ h. omega (arith, (h.0 refl).observed))
    & ((λ o. absurd (omega arith)), tt)
    & (λ h. omega (arith, (h.0 refl).others 3 refl (λ e. omega arith)))
    & tt

-- ---- shuffles

pub some_right : AllRight weaving.each_some_table
some_right =
    (omega arith, (omega arith, tt))
    & (λ h. omega (arith, h.1.0))
    & inr (inl (omega arith))
    & (λ h. ⊎_elim (λ (l : 3 ≤ 2). omega arith) (λ (m : (4 ≤ 2) ⊎ ⊥). ⊎_elim (λ (l : 4 ≤ 2). omega arith) (λ (z : ⊥). z) m) h)
    & (λ h. h)
    & tt

-- no step is taken where there are no lists
no-lists : {x : Step} {yss : List (List Step)} → TakenFromOne x [] yss → ⊥
no-lists = elim [ ]

lacking : Shuffle weaving.desks (near 2 3 ∷ own 3 ∷ []) → ⊥
lacking (next here (next here (none e))) = omega (arith, ap length e.1.0)
lacking (next here (next (there here) (none e))) = omega (arith, ap length e.0)
lacking (next here (next (there (there t)) s)) = no-lists t
lacking (next (there (there t)) s) = no-lists t

new : {yss : List (List Step)} → TakenFromOne (near 4 3) weaving.desks yss → ⊥
new (there (there t)) = no-lists t

order : Shuffle weaving.desks (own 3 ∷ own 3 ∷ near 2 3 ∷ []) → ⊥
order (next (there here) (next (there (there t)) s)) = no-lists t
order (next (there (there t)) s) = no-lists t

added : Shuffle weaving.desks (near 4 3 ∷ near 2 3 ∷ own 3 ∷ own 3 ∷ []) → ⊥
added (next t s) = new t

-- nothing is left
done : Shuffle ([] ∷ [] ∷ []) []
done = none {xss = [] ∷ [] ∷ []} (refl, (refl, tt))

shuffled : Shuffle weaving.desks (own 3 ∷ near 2 3 ∷ own 3 ∷ [])
shuffled = next (there here) (next here (next here done))

pub shuffles_right : AllRight weaving.shuffle_table
shuffles_right =
    next here (next here (next (there here) done))
    & shuffled
    & lacking
    & added
    & order
    & none {xss = []} tt
    & there here
    & new
    & tt

-- ---- demand 3

-- each desk's list is accepted
accepted : Each (Accepted (seven_grid (3 ∷ []))) weaving.desks
unfolding step_words
accepted = (
  (allowed_passes (seven_grid (3 ∷ [])) (set []) (near 2 3) refl, (allowed_passes (seven_grid (3 ∷ [])) (set (2 ∷ [])) (own 3) refl, tt)),
  ((allowed_passes (seven_grid (3 ∷ [])) (set []) (own 3) refl, tt), tt),
)

pub demand_right : AllRight weaving.woven_shuffle_table
unfolding add
demand_right =
    weaving_shuffles (seven_grid (3 ∷ [])) weaving.desks (own 3 ∷ near 2 3 ∷ own 3 ∷ []) accepted shuffled
    & (λ h. omega (arith, h.all 2 (inl refl)))
    & (λ h. ⊎_elim (λ (l : In (reached (near 2 3 ∷ own 3 ∷ [])) 4). omega arith)
    (λ (m : In (reached (own 3 ∷ [])) 4 ⊎ ⊥). ⊎_elim (λ (l : In (reached (own 3 ∷ [])) 4). omega arith) (λ (z : ⊥). z) m)
    (h.only 4 refl))
    & tt

-- what is answered, or else that nothing is woven
abbrev answer_of : Result Wove Refusal → Wove
answer_of r = result_unwrap_or r (count_wove 0 [])

pub calls-right : AllRight weaving.demand3_table
unfolding case_words
calls-right =
    demand_3.weaves (drawn_case (seven (3 ∷ []))) weaving.desks weaving.sent
    (own 7 ∷ own 8 ∷ own 9 ∷ []) (own 3 ∷ near 2 3 ∷ own 9 ∷ []) (Ok (count_wove 2 (2 ∷ 3 ∷ [])))
    (record { valid = known.at3.valid; alone = accepted; shuffled = shuffled; few = omega arith; room = omega arith }) (
      (
        known.at3.valid,
        (
          omega arith,
          (named3, ((λ o. refl), (named23, ((λ o. record { unit = refl; joined = refl }), (named3, ((λ o. refl), (omega arith, tt))))))),
        ),
      ),
      refl,
      refl,
      refl,
      word_own _,
    )
    & (λ h. no_answer _ h.answers)
    & (λ h. omega (arith, ap (λ (xs : List Step). (get_or xs 0 no_step).bus) h.records))
    & (λ h. omega (arith, ap (λ r. (answer_of r).count) h.answers, h.counted))
    & (λ h. omega (arith, ap (λ r. bit (set_of (answer_of r).set) 2) h.answers, ap (λ (t : ℕ). bit t 2) h.reaches))
    & tt
  where
    named3 : Names 7 (own 3)
    named3 = names_pass 7 (own 3) refl

    named23 : Names 7 (near 2 3)
    named23 = names_pass 7 (near 2 3) refl
