-- The word that holds a set: its type, the word of no bus, and a word with one bus more.
use Rattle.std.specs.Prelude.{◌≡◌, Bool, cond, ℕ, ◌/◌}
use Rattle.busset.specs.Sets.{add, set_of}

-- a machine word that holds a set
abbrev pub SetWord : Type 0
SetWord = ℕ

-- the word that holds the set with no bus
abbrev pub empty_word : SetWord
empty_word = 0

-- the word that holds the set s
unfoldable pub word_of : ℕ → SetWord
word_of s = s / 2

-- w is the word of the set that it holds: no other word is
abbrev pub IsWord : SetWord → Type 0
IsWord w = w ≡ word_of (set_of w)

-- the word of w's set with bus b
unfoldable pub hold : SetWord → ℕ → SetWord
hold w b = word_of (add (set_of w) b)

-- with bus b where t, and w itself otherwise
abbrev pub hold_if : Bool → SetWord → ℕ → SetWord
hold_if t w b = cond t (hold w b) w
