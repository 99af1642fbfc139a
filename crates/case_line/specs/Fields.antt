-- The fields after a line's word.
use Rattle.std.specs.Prelude.{Bool, true, false, cond, List, [], ◌∷◌, ℕ, eqb, Option, Some, None}
use Rattle.text_field.specs.Number.{numeral_of}

-- which of two letters a field is
unfoldable pub mark_of : ℕ → ℕ → List ℕ → Option Bool
mark_of p q [] = None
mark_of p q (b ∷ []) = cond (eqb b p) (Some true) (cond (eqb b q) (Some false) None)
mark_of p q (b ∷ c ∷ f) = None

-- the letters Z and I, Y and N
abbrev pub letter_z : ℕ
letter_z = 90

abbrev pub letter_i : ℕ
letter_i = 73

abbrev pub letter_y : ℕ
letter_y = 89

abbrev pub letter_n : ℕ
letter_n = 78

-- a class: Z or I
abbrev pub class_of : List ℕ → Option Bool
class_of = mark_of letter_z letter_i

-- a site: Y or N
abbrev pub site_of : List ℕ → Option Bool
site_of = mark_of letter_y letter_n

-- the value of the one field that there is, or w where there are none or more
unfoldable pub if_one_field : {A : Type 0} → A → (List ℕ → A) → List (List ℕ) → A
if_one_field w g [] = w
if_one_field w g (f ∷ []) = g f
if_one_field w g (f ∷ h ∷ fs) = w

-- the value v where there is no field, or w
unfoldable pub if_no_field : {A : Type 0} → A → A → List (List ℕ) → A
if_no_field w v [] = v
if_no_field w v (f ∷ fs) = w

-- one field, a number
abbrev pub one_number : List (List ℕ) → Option ℕ
one_number = if_one_field None numeral_of

-- one field, a site
abbrev pub one_site : List (List ℕ) → Option Bool
one_site = if_one_field None site_of
