-- Document 01's order of refusals: which of a call's checks comes before which, and the first that fails.
use Rattle.std.specs.Prelude.{◌≡◌, Bool, true, false, cond, ◌||◌, List, [], ◌∷◌, ◌⊎◌, ℕ, zero, suc, ◌<◌, eqb}
use Rattle.refusals.specs.Refusals.{Check}

-- ---- turns

-- 1; a bad line; those of a step text read after a case text, with 50 added; 5; 10 or 12; 7, 8, 9 at a bad step; 13; 11; 6
abbrev pub order : List (List ℕ)
order =
    (1 ∷ []) ∷ (2 ∷ 3 ∷ 4 ∷ [])
    ∷ (51 ∷ []) ∷ (52 ∷ 53 ∷ 62 ∷ [])
    ∷ (5 ∷ []) ∷ (10 ∷ 12 ∷ []) ∷ (7 ∷ 8 ∷ 9 ∷ []) ∷ (13 ∷ []) ∷ (11 ∷ []) ∷ (6 ∷ []) ∷ []

-- whether k is one of these
abbrev pub is_of : List ℕ → ℕ → Bool
is_of [] k = false
is_of (x ∷ xs) k = eqb x k || is_of xs k

-- whether one of these groups has k
abbrev pub is_in : List (List ℕ) → ℕ → Bool
is_in [] k = false
is_in (g ∷ gs) k = is_of g k || is_in gs k

-- how many groups are before the one that has k
abbrev pub group_of : List (List ℕ) → ℕ → ℕ
group_of [] k = 0
group_of (g ∷ gs) k = cond (is_of g k) 0 (suc (group_of gs k))

-- the turn of 12, by its place: at a line of a step text it is that line's
abbrev pub turn_of12 : ℕ → ℕ
turn_of12 zero = group_of order 12
turn_of12 (suc line) = group_of order 2

-- the turn of a check
abbrev pub turn : Check → ℕ
turn q = cond (eqb q.number 12) (turn_of12 q.place) (group_of order q.number)

-- the table has the check's number
abbrev pub InTable : Check → Type 0
InTable q = is_in order q.number ≡ true

-- ---- one before another

-- p comes before q: in an earlier turn; in the same turn at an earlier line or step; and there with a lower number
abbrev pub Precedes : Check → Check → Type 0
Precedes p q =
    (turn p < turn q) ⊎ ((turn p ≡ turn q) × ((p.place < q.place) ⊎ ((p.place ≡ q.place) × (p.number < q.number))))

-- the table has each check's number, and each check comes before the next
abbrev pub InTableOrder : List Check → Type 0
InTableOrder [] = Unit {0}
InTableOrder (p ∷ []) = InTable p
InTableOrder (p ∷ q ∷ qs) = InTable p × Precedes p q × InTableOrder (q ∷ qs)

-- ---- the first that fails

-- the first check that fails has this number and this place
abbrev pub FirstFails : List Check → ℕ → ℕ → Type 0
FirstFails [] number place = ⊥
FirstFails (q ∷ qs) number place = ((q.wants → ⊥) × (q.number ≡ number) × (q.place ≡ place)) ⊎ (q.wants × FirstFails qs number place)
