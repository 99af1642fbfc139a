-- A text put into a buffer: what lies past the buffer's end is counted, and not written.
use Rattle.std.specs.Prelude.{◌≡◌, List, ◌++◌, ℕ, ◌+◌, ◌^◌, ◌≤◌, ◌<◌, length, drop, Option, Some, None}
use Rattle.std.specs.Borrow.{MutBor}
use Rattle.std.proofs.lemmas.List.Edits.{sets}

-- ---- indices so low that none after them wraps

-- an item is put below this
abbrev pub far_byte : ℕ
far_byte = 2 ^ 32

-- a field, which is a word, a number or a letter
abbrev pub far_field : ℕ
far_field = 2 ^ 31

-- a word and a number
abbrev pub far_tagged : ℕ
far_tagged = 2 ^ 30

-- a line
abbrev pub far_line : ℕ
far_line = 2 ^ 29

-- and a word is shorter than this
abbrev pub long_word : ℕ
long_word = 2 ^ 28

-- ---- what is put

-- l with the text t from index at is m, and r is the index after it (a store past the end of a list changes nothing)
pub record Put {A : Type 0} (l : List A) (at : ℕ) (t m : List A) (r : ℕ) : Type 0 where
  pub put : m ≡ sets l at t
  pub next : r ≡ at + length t

-- whatever is lent, a call puts the text t from the first place on, where `gives` is what is known of what it gives
abbrev pub PutsText : {A : Type 0} → (MutBor (List A) → ℕ → MutBor (List A) → Type 0) → List A → Type 0
PutsText {A} gives t = (lent left : MutBor (List A)) (k : ℕ) → gives lent k left → Put lent.now 0 t left.now k

-- t, k places long, stands first in m, and the rest of l stays; or t is longer than l, and all of l stays
abbrev pub PutWhole : {A : Type 0} → List A → List A → List A → Option ℕ → Type 0
PutWhole t l m (Some k) = (length t ≤ length l) × (k ≡ length t) × (m ≡ t ++ drop (length t) l)
PutWhole t l m None = (length l < length t) × (m ≡ l)
