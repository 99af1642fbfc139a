-- A text cut at each byte c: fields are cut at tabs, lines at line feeds.
use Rattle.std.specs.Prelude.{◌≡◌, Bool, cond, List, [], ◌∷◌, ◌++◌, ℕ, suc, ◌-◌, ◌≤◌, length, take, drop, eqb, ltb}
use Rattle.std.specs.Str.{bytes_eq}
use Prim.Native.Char.{code}
use Prim.Native.String.{String}

-- what parts the fields of a line
abbrev pub tab : ℕ
tab = 9

-- what ends a line
abbrev pub line_feed : ℕ
line_feed = 10

-- ---- cut and put together

-- the piece before the first c, and the pieces after it
pub record Pieces : Type 0 where
  pub first : List ℕ
  pub rest : List (List ℕ)

-- all of them
abbrev pub all_pieces : Pieces → List (List ℕ)
all_pieces x = x.first ∷ x.rest

-- s cut at each byte c: where it has none, one piece
unfoldable pub split : ℕ → List ℕ → Pieces
split c [] = record { first = []; rest = [] }
split c (x ∷ s) =
    cond (eqb x c) (record { first = []; rest = all_pieces (split c s) })
    (record { first = x ∷ (split c s).first; rest = (split c s).rest })

-- pieces put together again, with c between them
unfoldable pub join : ℕ → List ℕ → List (List ℕ) → List ℕ
join c p [] = p
join c p (q ∷ ps) = p ++ c ∷ join c q ps

-- ---- a piece by its place in the text

-- the bytes of s from index a up to index e
abbrev pub part : List ℕ → ℕ → ℕ → List ℕ
part s a e = take (e - a) (drop a s)

-- the pieces after the one that ends at index e
unfoldable pub after : ℕ → List ℕ → ℕ → List (List ℕ)
after c s e = cond (ltb e (length s)) (all_pieces (split c (drop (suc e) s))) []

-- the piece that starts at index a ends at index e
pub record PieceEnd (c : ℕ) (s : List ℕ) (a e : ℕ) : Type 0 where
  pub low : a ≤ e
  pub high : e ≤ length s
  pub cut : split c (drop a s) ≡ record { first = part s a e; rest = after c s e }

-- ---- bytes

-- whether two texts are the same
abbrev pub same : List ℕ → List ℕ → Bool
same = bytes_eq

-- a quoted text's bytes
abbrev pub bytes : String → List ℕ
bytes String.[] = []
bytes (String.◌∷◌ c s) = code c ∷ bytes s
