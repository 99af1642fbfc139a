-- The tables of grids and case values, and of refusals.
use mathlib.Core.Path.{◌≡◌, refl, ap}
use mathlib.Core.List.{List, [], ◌∷◌}
use mathlib.Core.Logic.{inl, inr}
use Prim.Native.Nat.{◌≤◌}
use native.Mathlib.Omega.{arith}
use Rattle.tables.proofs.Words.{case_words, test_words}
use Rattle.refusals.specs.declared.Refusal.{Refusal}
use Rattle.refusals.specs.declared.Refusal.TheVariants.{InvalidCase, OverBudget}
use Rattle.grid.specs.Limits.{most_buses}
use Rattle.grid.specs.Cases.{Lines}
use Rattle.refusals.specs.Refusals.{Check, check_that, Failed}
use Rattle.refusals.proofs.Orders.{itself, failed-unique, failed_or_passed}
use Rattle.tables.proofs.Drawn.{filled_passes}
use Rattle.estimator_reply.specs.Results.{code_of}
use Rattle.tables.specs.Starred.{short_case, seven, path}
use Rattle.tables.proofs.Rows.{◌&◌}
use Rattle.tables.specs.Tables.{AllRight}
use Rattle.tables.specs.Drawings.{short_value}
use Rattle.tables.specs.Grids as grids
use Rattle.tables.specs.Refusals as refusals

-- ---- computed

pub limits_right : grids.LimitsRight
limits_right = refl

pub neighbours-right : grids.NeighboursRight
unfolding case_words
neighbours-right = refl

pub parts-right : grids.GridPartsRight
unfolding case_words
parts-right = refl

pub sums_right : grids.SumsRight
unfolding case_words
sums_right = refl

pub circuits-right : grids.CircuitsRight
unfolding case_words
circuits-right = refl

pub table_right : refusals.RefusalTableRight
table_right = refl

-- ---- which case values are valid

pub valid-right : AllRight grids.valid_table
unfolding test_words
valid-right =
    filled_passes (short_case (seven (3 ∷ []))) refl
    & filled_passes (short_case path) refl
    & filled_passes (short_value 1 [] [] [] []) refl
    & filled_passes (short_value most_buses [] [] [] (most_buses ∷ [])) refl
    & filled_passes (short_value 2 grids.pair (1 ∷ []) (1 ∷ 2 ∷ []) (2 ∷ [])) refl
    & filled_passes (short_value 2 grids.pair [] [] (1 ∷ [])) refl
    & (λ v. omega (arith, v.buses.some))
    & (λ v. omega (arith, v.buses.most))
    & (λ v. omega (arith, (v.proper.lines 1 2 refl).back))
    & (λ v. (v.proper.lines 1 1 refl).differ refl)
    & (λ v. omega (arith, (v.proper.lines 1 3 refl).to.most))
    & (λ v. omega (arith, (v.proper.lines 3 4 refl).from.most))
    & (λ v. omega (arith, (v.proper.units 3 refl).most))
    & (λ v. omega (arith, (v.proper.zeros 3 refl).most))
    & (λ v. omega (arith, (v.proper.sites 3 refl).most))
    & (λ v. omega (arith, (v.joined 1 2 refl).some))
    & (λ v. omega (arith, (v.joined 1 2 refl).most))
    & (λ v. omega (arith, v.others 1 3 refl))
    & (λ v. omega (arith, v.others 1 1 refl))
    & (λ v. omega (arith, v.others 3 4 refl))
    & (λ v. omega (arith, v.alike 1 2))
    & tt

pub proper-right : AllRight grids.proper_table
unfolding case_words
proper-right =
    valid-right.0.proper
    & (λ v. omega (arith, (v.lines 1 2 refl).back))
    & (λ v. omega (arith, (v.units 3 refl).most))
    & tt

pub lines-right : AllRight grids.line_table
unfolding test_words
lines-right =
    pair_lines 1 2 refl
    & (λ l. omega (arith, l.back))
    & (λ l. l.differ refl)
    & (λ l. omega (arith, l.to.most))
    & (filled_passes (short_value 3 grids.far [] [] []) refl).proper.lines 1 3 refl
    & pair_lines 1
    & pair_lines 3
    & (λ l. omega (arith, (l 2 refl).back))
    & pair_lines
    & (λ l. omega (arith, (l 1 3 refl).to.most))
    & tt
  where
    pair_lines : Lines 2 (grids.neighbours_in grids.pair)
    pair_lines = (filled_passes (short_value 2 grids.pair [] [] []) refl).proper.lines

-- ---- checks

-- no other refusal is given
other : (qs : List Check) (r q : Refusal) → Failed qs r → (code_of r ≡ code_of q → ⊥) → Failed qs q → ⊥
other qs r q f ne g = ne (ap code_of (failed-unique qs r q f g))

pub checked-right : AllRight refusals.check_table
checked-right =
    itself _
    & (λ h. omega (arith, h.numbered))
    & (λ h. omega (arith, h.placed))
    & tt
    & (omega arith, (omega arith, tt))
    & (λ h. omega (arith, h.1.0))
    & first
    & other (check_that (3 ≤ 2) 5 0 ∷ check_that (3 ≤ 2) 10 0 ∷ []) InvalidCase (OverBudget 0) first (λ e. omega arith)
    & second
    & other (check_that (1 ≤ 2) 5 0 ∷ check_that (3 ≤ 2) 10 0 ∷ []) (OverBudget 0) (OverBudget 1) second (λ e. omega arith)
    & (λ h. failed_or_passed (check_that (1 ≤ 2) 5 0 ∷ check_that (2 ≤ 2) 10 0 ∷ []) (OverBudget 0) h (omega arith, (omega arith, tt)))
    & (λ h. h)
    & tt
  where
    first : Failed (check_that (3 ≤ 2) 5 0 ∷ check_that (3 ≤ 2) 10 0 ∷ []) InvalidCase
    first = inl ((λ h. omega arith), itself _)

    second : Failed (check_that (1 ≤ 2) 5 0 ∷ check_that (3 ≤ 2) 10 0 ∷ []) (OverBudget 0)
    second = inr (omega arith, inl ((λ h. omega arith), itself _))
