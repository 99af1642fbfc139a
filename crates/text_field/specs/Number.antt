-- Numbers, with no leading zero except 0 itself: 1 to 4 digits where they are read, and 1 to 5 where they are written.
use Rattle.std.specs.Prelude.{Option, Some, None}
use Rattle.std.specs.Prelude.{Bool, cond, ◌&&◌, List, [], ◌∷◌, ◌++◌, ℕ, zero, suc, ◌+◌, ◌-◌, ◌*◌, ◌/◌, ◌%◌, ◌^◌, ltb, leb}

-- ---- read

-- a number that is read is below this: it has at most 4 digits
abbrev pub most_read : ℕ
most_read = 10 ^ 4

-- the byte is a digit
abbrev pub is_digit : ℕ → Bool
is_digit d = leb 48 d && leb d 57

-- a number so far takes one more digit when it is neither 0 nor of 4 digits
abbrev pub takes_digit : ℕ → ℕ → Bool
takes_digit v d = is_digit d && (ltb 0 v && ltb v (most_read / 10))

-- the number v so far, and the digits after it
unfoldable pub number_from : ℕ → List ℕ → Option ℕ
number_from v [] = Some v
number_from v (d ∷ s) = cond (takes_digit v d) (number_from (v * 10 + (d - 48)) s) None

-- the number that a field is: a digit, and those after it
unfoldable pub numeral_of : List ℕ → Option ℕ
numeral_of [] = None
numeral_of (d ∷ s) = cond (is_digit d) (number_from (d - 48) s) None

-- ---- written

-- a number that is written has at most so many digits
abbrev pub most_digits : ℕ
most_digits = 5

-- and is below this
abbrev pub most_printed : ℕ
most_printed = 10 ^ most_digits

-- a number below 10 ^ (k + 1) as text
unfoldable pub digits : ℕ → ℕ → List ℕ
digits zero n = (48 + n) ∷ []
digits (suc k) n = cond (ltb n 10) ((48 + n) ∷ []) (digits k (n / 10) ++ (48 + n % 10) ∷ [])

-- a number below most_printed as text
abbrev pub number_text : ℕ → List ℕ
number_text n = digits (most_digits - 1) n
