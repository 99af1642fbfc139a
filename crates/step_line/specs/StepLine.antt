-- A line of a step text: `step bus O`, `step bus N p`, `step bus Z w` or `end`, with fields separated by one tab.
use Rattle.std.specs.Prelude.{cond, List, [], ◌∷◌, ℕ, Option, Some, None}
use Rattle.text_field.specs.Split.{split, join, same, bytes, tab}
use Rattle.text_field.specs.Number.{numeral_of, number_text}
use Rattle.step.specs.declared.Reason.{Reason}
use Rattle.step.specs.declared.Step as step
use Rattle.step.specs.Reasons.{letter_of, named_by, reason_of}
use Rattle.case_line.specs.Fields.{if_no_field, one_number}
use Rattle.step_line.specs.declared.StepWord.{StepWord}
use Rattle.step_line.specs.declared.StepWord.TheVariants.{Step as TheStep, End as EndWord, Other as OtherWord}
use Rattle.step_line.specs.declared.StepLine.{StepLine}
use Rattle.step_line.specs.declared.StepLine.TheVariants.{Step, End, Wrong}

-- ---- words

-- the word that a field is
unfoldable pub step_word_of : List ℕ → StepWord
step_word_of f =
    cond (same f (bytes "step")) TheStep
    (cond (same f (bytes "end")) EndWord
    OtherWord)

-- ---- the fields of each line

-- the reason with the letter l that names the bus of this number
abbrev pub numbered_reason : ℕ → Option ℕ → Option Reason
numbered_reason l None = None
numbered_reason l (Some b) = reason_of l (Some b)

-- the reason with the letter l: no field follows it, or the number of the bus that it names
unfoldable pub lettered_fields : ℕ → List (List ℕ) → Option Reason
lettered_fields l [] = reason_of l None
lettered_fields l (f ∷ fs) = numbered_reason l (one_number (f ∷ fs))

-- the letter, which is one byte, and the fields after it
abbrev pub by_letter : List ℕ → List (List ℕ) → Option Reason
by_letter [] fs = None
by_letter (l ∷ []) fs = lettered_fields l fs
by_letter (l ∷ m ∷ f) fs = None

-- the fields after the bus
unfoldable pub reason_fields : List (List ℕ) → Option Reason
reason_fields [] = None
reason_fields (f ∷ fs) = by_letter f fs

-- a bus and its reason
abbrev pub step_of : Option ℕ → Option Reason → Option step.Step
step_of (Some b) (Some reason) = Some (record { bus = b; reason = reason })
step_of (Some b) None = None
step_of None reason = None

-- the fields after `step`
unfoldable pub step_fields : List (List ℕ) → Option step.Step
step_fields [] = None
step_fields (b ∷ fs) = step_of (numeral_of b) (reason_fields fs)

-- `end`, which no field follows
abbrev pub end_fields : List (List ℕ) → StepLine
end_fields = if_no_field Wrong End

-- the line of a step, if there is one
abbrev pub line_of : Option step.Step → StepLine
line_of None = Wrong
line_of (Some x) = Step x

-- the word, and the fields after it
abbrev pub by_step_word : StepWord → List (List ℕ) → StepLine
by_step_word TheStep fs = line_of (step_fields fs)
by_step_word EndWord fs = end_fields fs
by_step_word OtherWord fs = Wrong

-- the step that a line is
unfoldable pub step_line_of : List ℕ → StepLine
step_line_of l = by_step_word (step_word_of (split tab l).first) (split tab l).rest

-- ---- a step's text

-- the number of the bus that is named, if one is
abbrev pub named_texts : Option ℕ → List (List ℕ)
named_texts None = []
named_texts (Some b) = number_text b ∷ []

-- the fields of a reason
abbrev pub reason_texts : Reason → List (List ℕ)
reason_texts r = (letter_of r ∷ []) ∷ named_texts (named_by r)

-- the line that a step is
unfoldable pub step_text : step.Step → List ℕ
step_text x = join tab (bytes "step") (number_text x.bus ∷ reason_texts x.reason)
