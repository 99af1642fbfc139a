-- What the programs print, and what a call that prints into lent bytes promises.
use Rattle.std.specs.Prelude.{◌≡◌, List, [], ◌∷◌, ◌++◌, ℕ, ◌≤◌, ◌<◌, length, drop, Result, Ok, Err}
use Rattle.text_field.specs.Split.{join, bytes, tab, line_feed}
use Rattle.text_field.specs.Number.{number_text}
use Rattle.refusals.specs.Refusals.{number_of, place_of, Is, Check, check_that}
use Rattle.refusals.specs.Calls.{Call, Refuses}
use Rattle.refusals.specs.declared.Refusal.{Refusal}

-- ---- lines

-- a printed line: its word and its fields, separated by tabs, and a line feed
abbrev pub printed_line : List ℕ → List (List ℕ) → List ℕ
printed_line word fields = join tab word fields ++ line_feed ∷ []

-- `refused number place`
unfoldable pub refused_text : Refusal → List ℕ
refused_text q = printed_line (bytes "refused") (number_text (number_of q) ∷ number_text (place_of q) ∷ [])

-- t is that line
abbrev pub IsRefusedText : Refusal → List ℕ → Type 0
IsRefusedText q t = t ≡ refused_text q

-- ---- the bytes lent

-- a text that P asks for is in the bytes lent, k bytes long, and the rest of them stays
pub record Printed (P : List ℕ → Type 0) (lent left : List ℕ) (k : ℕ) : Type 0 where
  pub text : List ℕ
  pub asked : P text
  pub room : length text ≤ length lent
  pub count : k ≡ length text
  pub written : left ≡ text ++ drop (length text) lent

-- a text that P asks for is longer than the bytes lent: 6, and every byte stays
pub record NotPrinted (P : List ℕ → Type 0) (lent left : List ℕ) (r : Refusal) : Type 0 where
  pub text : List ℕ
  pub asked : P text
  pub more : length lent < length text
  pub refusal : Is 6 0 r
  pub kept : left ≡ lent

-- the text that P asks for is printed into the bytes lent
abbrev pub PrintedReply : (List ℕ → Type 0) → List ℕ → List ℕ → Result ℕ Refusal → Type 0
PrintedReply P lent left (Ok k) = Printed P lent left k
PrintedReply P lent left (Err r) = NotPrinted P lent left r

-- ---- a call that prints

-- every text that P asks for has room, or 6
abbrev pub print_checks : (List ℕ → Type 0) → List ℕ → List Check
print_checks P lent = check_that ((t : List ℕ) → P t → length t ≤ length lent) 6 0 ∷ []

-- the call that prints, into the bytes lent, the text that P asks for of a text
abbrev pub printing_call : (List ℕ → List ℕ → Type 0) → Call
printing_call P = record {
  Input = List ℕ;
  Lent = List ℕ;
  Reply = Result ℕ Refusal;
  promise = λ text lent left r. PrintedReply (P text) lent left r;
  checks = λ text lent. print_checks (P text) lent;
  refuses = Refuses Err;
}
