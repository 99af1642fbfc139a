-- The tables of rounds: each list that holds is computed, and no other list is that grid's.
use mathlib.Core.Path.{◌≡◌, refl, sym, ap, ◌∙◌}
use mathlib.Core.List.{List, [], ◌∷◌, ◌++◌}
use Prim.Native.Nat.{ℕ, ◌≤◌}
use native.Mathlib.Omega.{arith}
use lib.ListN.{length, get_or, replicate}
use Rattle.busset.specs.Sets.{empty}
use Rattle.rules.specs.Grids.{Grid}
use Rattle.rules.specs.Rounds.{RoundsOf}
use Rattle.rules.proofs.Rounds.{rounds-unique}
use Rattle.refusals.proofs.Orders.{itself}
use Rattle.round_calls.specs.Replies.{round_numbers, RoundsFit}
use Rattle.report_rounds.specs.Rounds.{RoundsPrinted}
use Rattle.report_rounds.proofs.Reports.{rounds-text-unique}
use Rattle.tables.proofs.Words.{report_words, round_words}
use Rattle.tables.proofs.Rows.{◌&◌, ◌then◌, stop, differ}
use Rattle.tables.proofs.Computed.{known}
use Rattle.tables.proofs.Rounding.{rounds_pass}
use Rattle.tables.proofs.Replies.{invalid}
use Rattle.tables.specs.Tables.{AllRight, block}
use Rattle.tables.specs.Drawings.{own, near, zero_at, drawn_grid, seven_grid, onward}
use Rattle.tables.specs.CaseTexts.{input}
use Rattle.tables.specs.Replies.{seven_case}
use Rattle.tables.specs.Rounds.{seven_rounds}
use Rattle.tables.specs.Rounds as tables

-- ---- the rounds

-- those of document 01's grid, of no units, and of the path that goes on
record Shown : Type 0 where
  pub seven : RoundsOf (seven_grid (3 ∷ [])) seven_rounds
  pub none : RoundsOf (seven_grid []) []
  pub path : RoundsOf (drawn_grid onward) ((1 ∷ 2 ∷ []) ∷ (3 ∷ []) ∷ (4 ∷ []) ∷ [])

shown : Shown
unfolding round_words
shown = record {
  seven =
      rounds_pass (seven_grid (3 ∷ [])) empty ((near 2 3 ∷ own 3 ∷ near 4 3 ∷ near 7 3 ∷ []) ∷ (zero_at 1 2 ∷ []) ∷ [])
      known.at3.valid.proper refl;
  none = rounds_pass (seven_grid []) empty [] known.none.valid.proper refl;
  path =
      rounds_pass (drawn_grid onward) empty ((own 1 ∷ near 2 1 ∷ []) ∷ (zero_at 3 2 ∷ []) ∷ (zero_at 4 3 ∷ []) ∷ [])
      known.gone_on.valid.proper refl;
}

-- a list that differs at some bus, the j-th of round i, is another
module _ (g : Grid) (ps : List (List ℕ)) (p : RoundsOf g ps) where
  other : (i j : ℕ) (qs : List (List ℕ)) → (get_or (get_or ps i []) j 0 ≡ get_or (get_or qs i []) j 0 → ⊥) → RoundsOf g qs → ⊥
  other i j qs ne q = ne (ap (λ (rs : List (List ℕ)). get_or (get_or rs i []) j 0) (rounds-unique g empty ps qs p q))

pub rounds-right : AllRight tables.rounds_table
rounds-right =
    shown.seven
    & not_seven 0 0 ((3 ∷ []) ∷ (2 ∷ 4 ∷ 7 ∷ []) ∷ (1 ∷ []) ∷ []) (λ e. omega arith)
    & not_seven 0 0 ((3 ∷ 2 ∷ 4 ∷ 7 ∷ []) ∷ (1 ∷ []) ∷ []) (λ e. omega arith)
    & not_seven 0 2 ((2 ∷ 3 ∷ 7 ∷ []) ∷ (1 ∷ []) ∷ []) (λ e. omega arith)
    & not_seven 1 0 ((2 ∷ 3 ∷ 4 ∷ 7 ∷ []) ∷ []) (λ e. omega arith)
    & (λ h. h.2.2.1)
    & shown.none
    & (λ h. h.1)
    & shown.path
    & other (drawn_grid onward) ((1 ∷ 2 ∷ []) ∷ (3 ∷ []) ∷ (4 ∷ []) ∷ []) shown.path 1 1
    ((1 ∷ 2 ∷ []) ∷ (3 ∷ 4 ∷ []) ∷ []) (λ e. omega arith)
    & tt
  where
    not_seven : (i j : ℕ) (qs : List (List ℕ)) → (get_or (get_or seven_rounds i []) j 0 ≡ get_or (get_or qs i []) j 0 → ⊥)
        → RoundsOf (seven_grid (3 ∷ [])) qs → ⊥
    not_seven = other (seven_grid (3 ∷ [])) seven_rounds shown.seven

-- ---- the list of numbers, and the lines

pub numbers-right : tables.RoundNumbersRight
unfolding round_numbers
numbers-right = refl

pub texts_right : tables.RoundsTextsRight
unfolding report_words
texts_right = refl

-- ---- the calls

-- there is one list of the seven buses, and it has room for so many numbers
one : (rounds : List (List ℕ)) → RoundsOf (seven_grid (3 ∷ [])) rounds → seven_rounds ≡ rounds
one rounds p = rounds-unique (seven_grid (3 ∷ [])) empty seven_rounds rounds shown.seven p

roomy : (room : List ℕ) → 7 ≤ length room → RoundsFit (seven_case (3 ∷ [])) room
unfolding round_numbers
roomy room l rounds p = omega (arith, ap (λ (rs : List (List ℕ)). length (round_numbers rs)) (one rounds p))

pub replies-right : AllRight tables.rounds_reply_table
unfolding round_numbers
replies-right = (
  (known.at3.valid, (roomy (replicate 8 9) (omega arith), tt)),
  record { rounds = seven_rounds; are = shown.seven; long = refl; many = refl; written = refl },
)
    & (λ h. omega (arith, h.1.many, ap length (one h.1.rounds h.1.are)))
    & (λ h. changed h.1.rounds (one h.1.rounds h.1.are) h.1.written)
    & ((known.none.valid, (none, tt)), record { rounds = []; are = shown.none; long = refl; many = refl; written = refl })
    & (stop invalid (itself _), refl)
    & (known.at3.valid then stop (λ h. omega (arith, h seven_rounds shown.seven)) (itself _), refl)
    & (λ h. omega (arith, ap (λ (r : List ℕ). get_or r 0 0) h.1))
    & tt
  where
    none : RoundsFit (seven_case []) []
    none rounds p =
        omega (arith, ap (λ (rs : List (List ℕ)). length (round_numbers rs)) (rounds-unique (seven_grid []) empty [] rounds shown.none p))

    changed : (rounds : List (List ℕ)) → seven_rounds ≡ rounds
        → ◌≡◌ {A = List ℕ} (4 ∷ 2 ∷ 3 ∷ 4 ∷ 7 ∷ 1 ∷ 1 ∷ 0 ∷ []) (round_numbers rounds ++ 9 ∷ [])
        → ⊥
    changed rounds is e =
        omega (arith, ap (λ (r : List ℕ). get_or r 7 0) (e ∙ sym (ap (λ (rs : List (List ℕ)). round_numbers rs ++ 9 ∷ []) is)))

pub printed-right : AllRight tables.rounds_printed_table
unfolding report_words
printed-right =
    seven
    & (λ h. differ 0 (rounds-text-unique (block input) _ _ seven h) (λ e. omega arith))
    & record { rounds = []; are = shown.none; is = refl }
    & refl
    & tt
  where
    seven : RoundsPrinted (block input) (block ("round 1 2 3 4 7" ∷ "round 2 1" ∷ "end" ∷ []))
    seven = record { rounds = seven_rounds; are = shown.seven; is = refl }
