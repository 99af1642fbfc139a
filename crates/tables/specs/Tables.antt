-- The form of the tables: a row has what is asked, and the answer that document 01 gives.
use Rattle.std.specs.Prelude.{◌≡◌, cond, List, [], ◌∷◌, ◌++◌, map, ℕ, eqb, Result, Ok}
use Rattle.std.specs.Result.{result_and}
use Prim.Native.String.{String}
use Rattle.text_field.specs.Split.{bytes, tab, line_feed}
use Rattle.refusals.specs.declared.Refusal.{Refusal}

-- ---- rows that are computed

-- every row is right: f gives the answer for what is asked
abbrev pub Right : {A B : Type 0} → (A → B) → List (A × B) → Type 0
Right f rows = map (λ r. f r.0) rows ≡ map (λ r. r.1) rows

-- the same, where a text is asked
abbrev pub Reads : {B : Type 0} → (List ℕ → B) → List (String × B) → Type 0
Reads f rows = Right (λ s. f (bytes s)) rows

-- the same, where the answer is a text
abbrev pub Writes : {A : Type 0} → (A → List ℕ) → List (A × String) → Type 0
Writes f rows = map (λ r. f r.0) rows ≡ map (λ r. bytes r.1) rows

-- whether there is an answer: nothing more, or the refusal
abbrev pub said : {A : Type 0} → Result A Refusal → Result (Unit {0}) Refusal
said r = result_and r (Ok tt)

-- ---- rows that are proved

-- a statement that holds, or one that does not
pub data Row : Type 1 where
  holds : Type 0 → Row
  fails : Type 0 → Row

-- every row is right
abbrev pub AllRight : List Row → Type 0
AllRight [] = Unit {0}
AllRight (holds p ∷ rows) = p × AllRight rows
AllRight (fails p ∷ rows) = (p → ⊥) × AllRight rows

-- ---- document 01's blocks

-- the text of a block: a blank stands for a tab, and each line is ended by a line feed
abbrev pub block : List String → List ℕ
block [] = []
block (l ∷ ls) = map (λ c. cond (eqb c 32) tab c) (bytes l) ++ line_feed ∷ block ls
