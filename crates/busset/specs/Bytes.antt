-- The bytes of the word that holds a set: lowest bus in the lowest bit of the first byte.
use Rattle.std.specs.Prelude.{List, [], ◌∷◌, ℕ, zero, suc, ◌/◌, ◌%◌, ◌^◌}
use Rattle.busset.specs.Sets.{width}
use Rattle.busset.specs.Held.{SetWord}

-- byte i of the word, counted from 0 at the lowest
unfoldable pub byte_of : SetWord → ℕ → ℕ
byte_of w i = w / 256 ^ i % 256

-- how many bytes hold a set: eight buses in each
abbrev pub set_length : ℕ
set_length = width / 8

-- k bytes of the word, from byte i on
unfoldable pub bytes_from : ℕ → ℕ → SetWord → List ℕ
bytes_from i zero w = []
bytes_from i (suc k) w = byte_of w i ∷ bytes_from (suc i) k w

-- all its bytes, the lowest first
abbrev pub set_bytes : SetWord → List ℕ
set_bytes w = bytes_from 0 set_length w
