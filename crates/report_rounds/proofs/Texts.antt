-- The texts of a rounds report as they are put: the line of a round, and the lines of all rounds.
use mathlib.Core.Path.{◌≡◌, refl, sym, ap, ◌∙◌}
use mathlib.Core.List.{List, [], ◌∷◌, ◌++◌, append-nil}
use Prim.Native.Nat.{ℕ, suc, ◌+◌, ◌≤◌, ◌<◌}
use native.Mathlib.Numerals.{add-one}
use lib.ListN.{length, drop, get_or, drop_of_length-le}
use lib.Seq.{drop-cons}
use Rattle.text_field.specs.Split.{join, bytes, tab, line_feed}
use Rattle.text_field.specs.Number.{number_text}
use Rattle.round_list.specs.Rounds.{each_bus}
use Rattle.report_rounds.specs.Rounds.{round_fields, round_line, round_lines}
use Rattle.report_rounds.specs.Lines.{tabbed}

-- ---- the line of a round

join-buses : (p buses : List ℕ) → join tab p (round_fields buses) ≡ p ++ each_bus tabbed buses
unfolding join round_fields each_bus
join-buses p [] = sym (append-nil p)
join-buses p (b ∷ buses) = ap (λ (t : List ℕ). p ++ tab ∷ t) (join-buses (number_text b) buses)

-- it is put in three parts
pub line-parts : (i : ℕ) (buses : List ℕ)
    → ((bytes "round" ++ tab ∷ number_text i) ++ each_bus tabbed buses) ++ line_feed ∷ [] ≡ round_line i buses
unfolding join
line-parts i buses = ap (λ (t : List ℕ). bytes "round" ++ tab ∷ t ++ line_feed ∷ []) (sym (join-buses (number_text i) buses))

-- ---- the lines of all rounds

-- what is left to put after i rounds
unfoldable pub rest_rounds : List (List ℕ) → ℕ → List ℕ
rest_rounds rounds i = round_lines (suc i) (drop i rounds)

pub rest-first : (rounds : List (List ℕ)) → rest_rounds rounds 0 ≡ round_lines 1 rounds
rest-first rounds = unfold rest_rounds in refl

pub rest-next : (rounds : List (List ℕ)) (i : ℕ) → i < length rounds
    → rest_rounds rounds i ≡ round_line (i + 1) (get_or rounds i []) ++ rest_rounds rounds (i + 1)
unfolding rest_rounds round_lines
rest-next rounds i h = ap (round_lines (suc i)) (drop-cons rounds i [] h) ∙ rw (add-one i) refl

pub rest_all : (rounds : List (List ℕ)) (i : ℕ) → length rounds ≤ i → rest_rounds rounds i ≡ []
unfolding rest_rounds round_lines
rest_all rounds i h = ap (round_lines (suc i)) (drop_of_length-le rounds {i = i} h)
