-- A line of a case text, read as a record, one tab between fields: `grid n`, `bus number class site`, `line a b` of one circuit,
-- `line a b k` of k circuits, `pmu number` or `end`.
use Rattle.std.specs.Prelude.{Bool, cond, List, [], ◌∷◌, ℕ, ◌<◌, Option, Some, None}
use Rattle.text_field.specs.Split.{split, join, same, bytes, tab}
use Rattle.text_field.specs.Number.{most_read, numeral_of, number_text}
use Rattle.case_line.specs.Fields.{letter_z, letter_i, letter_y, letter_n, class_of, if_no_field, one_number, one_site}
use Rattle.case_line.specs.declared.Record.{Record}
use Rattle.case_line.specs.declared.Record.TheVariants.{Grid, Bus, Line, Circuits, Pmu, End, Wrong}
use Rattle.case_line.specs.declared.Word.{Word}
use Rattle.case_line.specs.declared.Word.TheVariants.{Grid as GridWord, Bus as BusWord, Line as LineWord}
use Rattle.case_line.specs.declared.Word.TheVariants.{Pmu as PmuWord, End as EndWord, Other}

-- the word that a field is
unfoldable pub record_word_of : List ℕ → Word
record_word_of f =
    cond (same f (bytes "grid")) GridWord
    (cond (same f (bytes "bus")) BusWord
    (cond (same f (bytes "line")) LineWord
    (cond (same f (bytes "pmu")) PmuWord
    (cond (same f (bytes "end")) EndWord
    Other))))

-- ---- the fields of each record

-- `grid n`
abbrev pub grid_record_of : Option ℕ → Record
grid_record_of (Some n) = Grid n
grid_record_of None = Wrong

-- `pmu number`
abbrev pub pmu_record_of : Option ℕ → Record
pmu_record_of (Some n) = Pmu n
pmu_record_of None = Wrong

-- `line a b`
abbrev pub line_record_of : Option ℕ → Option ℕ → Record
line_record_of (Some a) (Some b) = Line a b
line_record_of (Some a) None = Wrong
line_record_of None b = Wrong

-- `line a b k`
abbrev pub circuits_record_of : Option ℕ → Option ℕ → Option ℕ → Record
circuits_record_of (Some a) (Some b) (Some k) = Circuits a b k
circuits_record_of (Some a) (Some b) None = Wrong
circuits_record_of (Some a) None k = Wrong
circuits_record_of None b k = Wrong

-- `bus number class site`
abbrev pub bus_record_of : Option ℕ → Option Bool → Option Bool → Record
bus_record_of (Some n) (Some zero) (Some site) = Bus n zero site
bus_record_of (Some n) (Some zero) None = Wrong
bus_record_of (Some n) None site = Wrong
bus_record_of None class site = Wrong

-- the two or three fields of `line`
unfoldable pub line_fields : List (List ℕ) → Record
line_fields [] = Wrong
line_fields (a ∷ []) = Wrong
line_fields (a ∷ b ∷ []) = line_record_of (numeral_of a) (numeral_of b)
line_fields (a ∷ b ∷ k ∷ []) = circuits_record_of (numeral_of a) (numeral_of b) (numeral_of k)
line_fields (a ∷ b ∷ k ∷ f ∷ fs) = Wrong

-- the three fields of `bus`
unfoldable pub bus_fields : List (List ℕ) → Record
bus_fields [] = Wrong
bus_fields (n ∷ []) = Wrong
bus_fields (n ∷ class ∷ fs) = bus_record_of (numeral_of n) (class_of class) (one_site fs)

-- `end`, which no field follows
abbrev pub no_fields : List (List ℕ) → Record
no_fields = if_no_field Wrong End

-- the word, and the fields after it
abbrev pub by_word : Word → List (List ℕ) → Record
by_word GridWord fs = grid_record_of (one_number fs)
by_word BusWord fs = bus_fields fs
by_word LineWord fs = line_fields fs
by_word PmuWord fs = pmu_record_of (one_number fs)
by_word EndWord fs = no_fields fs
by_word Other fs = Wrong

-- the record that a line is
unfoldable pub record_of : List ℕ → Record
record_of l = by_word (record_word_of (split tab l).first) (split tab l).rest

-- ---- a record's text

-- the first letter or the second
abbrev pub letter_if : Bool → ℕ → ℕ → List ℕ
letter_if t p q = cond t (p ∷ []) (q ∷ [])

-- its word, and its fields
abbrev pub word_text : Record → List ℕ
word_text (Grid n) = bytes "grid"
word_text (Bus n zero site) = bytes "bus"
word_text (Line a b) = bytes "line"
word_text (Circuits a b k) = bytes "line"
word_text (Pmu n) = bytes "pmu"
word_text End = bytes "end"
word_text Wrong = []

abbrev pub field_texts : Record → List (List ℕ)
field_texts (Grid n) = number_text n ∷ []
field_texts (Bus n zero site) = number_text n ∷ letter_if zero letter_z letter_i ∷ letter_if site letter_y letter_n ∷ []
field_texts (Line a b) = number_text a ∷ number_text b ∷ []
field_texts (Circuits a b k) = number_text a ∷ number_text b ∷ number_text k ∷ []
field_texts (Pmu n) = number_text n ∷ []
field_texts End = []
field_texts Wrong = []

-- the line that a record is
unfoldable pub record_text : Record → List ℕ
record_text r = join tab (word_text r) (field_texts r)

-- a record that is read from a text: its numbers have 1 to 4 digits
abbrev pub Formed : Record → Type 0
Formed (Grid n) = n < most_read
Formed (Bus n zero site) = n < most_read
Formed (Line a b) = (a < most_read) × (b < most_read)
Formed (Circuits a b k) = (a < most_read) × (b < most_read) × (k < most_read)
Formed (Pmu n) = n < most_read
Formed End = Unit {0}
Formed Wrong = ⊥
