-- Fields and numbers: fields are separated by one tab; numbers are 1 to 4 digits, with no leading zero except 0 itself.
use Rattle.std.specs.Prelude.{Bool, true, false, List, [], ◌∷◌, ℕ, Option, Some, None}
use Prim.Native.String.{String}
use Rattle.text_field.specs.Split.{split, join, all_pieces, same, bytes, tab, PieceEnd}
use Rattle.text_field.specs.Number.{numeral_of, number_text}
use Rattle.tables.specs.Tables.{Right, Reads, Writes, Row, holds, fails}

-- ---- cut at tabs

-- lines, and their fields: a leading, doubled or trailing tab makes an empty one
abbrev pub cut_table : List (String × List (List ℕ))
cut_table =
    ("", bytes "" ∷ [])
    ∷ ("end", bytes "end" ∷ [])
    ∷ ("grid\t7", bytes "grid" ∷ bytes "7" ∷ [])
    ∷ ("grid 7", bytes "grid 7" ∷ [])
    ∷ ("bus\t1\tI\tY", bytes "bus" ∷ bytes "1" ∷ bytes "I" ∷ bytes "Y" ∷ [])
    ∷ ("a\t\tb", bytes "a" ∷ bytes "" ∷ bytes "b" ∷ [])
    ∷ ("a\t", bytes "a" ∷ bytes "" ∷ [])
    ∷ ("\ta", bytes "" ∷ bytes "a" ∷ [])
    ∷ []

-- every row is right
abbrev pub CutsRight : Type 0
CutsRight = Reads (λ l. all_pieces (split tab l)) cut_table

-- a line's fields put together again
abbrev pub join_table : List (List (List ℕ) × String)
join_table =
    (bytes "7" ∷ [], "grid\t7")
    ∷ ([], "grid")
    ∷ (bytes "" ∷ bytes "7" ∷ [], "grid\t\t7")
    ∷ []

-- every row is right
abbrev pub JoinsRight : Type 0
JoinsRight = Writes (join tab (bytes "grid")) join_table

-- whether two texts are the same
abbrev pub same_table : List ((String × String) × Bool)
same_table =
    (("plan", "plan"), true) ∷ (("plan", "pla"), false) ∷ (("pla", "plan"), false) ∷ (("Plan", "plan"), false) ∷ (("", ""), true) ∷ []

-- every row is right
abbrev pub SamesRight : Type 0
SamesRight = Right (λ q. same (bytes q.0) (bytes q.1)) same_table

-- where a field of `grid\t7` that starts at an index ends
abbrev pub piece_end_table : List Row
piece_end_table =
    holds (PieceEnd tab (bytes "grid\t7") 0 4)
    ∷ holds (PieceEnd tab (bytes "grid\t7") 5 6)
    ∷ holds (PieceEnd tab (bytes "grid\t7") 6 6)
    ∷ fails (PieceEnd tab (bytes "grid\t7") 0 6)
    ∷ fails (PieceEnd tab (bytes "grid\t7") 0 3)
    ∷ fails (PieceEnd tab (bytes "grid\t7") 5 4)
    ∷ []

-- ---- numbers

-- fields, and the number that each is
abbrev pub number_table : List (String × Option ℕ)
number_table =
    ("0", Some 0)
    ∷ ("7", Some 7)
    ∷ ("42", Some 42)
    ∷ ("9999", Some 9999)
    ∷ ("00", None)
    ∷ ("07", None)
    ∷ ("10000", None)
    ∷ ("", None)
    ∷ ("+1", None)
    ∷ ("-1", None)
    ∷ ("1 ", None)
    ∷ (" 1", None)
    ∷ ("1\r", None)
    ∷ ("1a", None)
    ∷ ("/", None)
    ∷ (":", None)
    ∷ []

-- every row is right
abbrev pub NumbersRight : Type 0
NumbersRight = Reads numeral_of number_table

-- numbers, and their texts
abbrev pub numeral_table : List (ℕ × String)
numeral_table = (0, "0") ∷ (7, "7") ∷ (10, "10") ∷ (42, "42") ∷ (100, "100") ∷ (1203, "1203") ∷ (9999, "9999") ∷ []

-- every row is right
abbrev pub NumeralsRight : Type 0
NumeralsRight = Writes number_text numeral_table
