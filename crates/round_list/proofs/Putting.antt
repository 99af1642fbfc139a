-- The buses of a word, put one after another: what is left to put is what is left of the word. And the word of a round.
use mathlib.Core.Path.{◌≡◌, refl, ap, ◌∙◌, subst⁻¹}
use mathlib.Core.List.{List, [], ◌∷◌, ◌++◌}
use Prim.Native.Nat.{ℕ, ◌<◌}
use lib.ListN.{length, get_or}
use Rattle.std.proofs.lemmas.List.{get_or_default}
use Rattle.busset.specs.Sets.{Lowest, Without, empty, set_of}
use Rattle.busset.specs.Held.{SetWord, empty_word}
use Rattle.text_put.specs.Put.{Put}
use Rattle.text_put.proofs.Left.{Left, left-more, left-all}
use Rattle.rules.proofs.Rising.{members-none, members-next}
use Rattle.round_list.specs.Rounds.{HoldsBuses, each_bus, HeldRounds}

-- of the pieces of these buses, those of the word's are left to put
pub record BusesLeft (piece : ℕ → List ℕ) (l : List ℕ) (at : ℕ) (buses m : List ℕ) (k : ℕ) (left : SetWord) : Type 0 where
  pub rest : List ℕ
  pub members : HoldsBuses left rest
  pub put : Left l at (each_bus piece buses) m k (each_bus piece rest)

pub buses-more : {piece : ℕ → List ℕ} {l m o buses : List ℕ} {at k q b n : ℕ} {v w : SetWord} → BusesLeft piece l at buses m k v
    → Lowest n (set_of v) b → Put m k (piece b) o q → Without (set_of v) b (set_of w)
    → BusesLeft piece l at buses o q w
buses-more {piece} {b = b} {w = w} a low p without =
    let next = members-next {t = set_of w} a.rest a.members low without in
    record { rest = next.rest; members = next.others; put = left-more a.put (ap (each_bus piece) next.is ∙ first next.rest) p }
  where
    first : (rest : List ℕ) → each_bus piece (b ∷ rest) ≡ piece b ++ each_bus piece rest
    first rest = unfold each_bus in refl

pub buses-all : {piece : ℕ → List ℕ} {l m buses : List ℕ} {at k : ℕ} {w : SetWord} → BusesLeft piece l at buses m k w → set_of w ≡ empty
    → Put l at (each_bus piece buses) m k
buses-all {piece} a e = left-all a.put (ap (each_bus piece) (members-none e a.members) ∙ none)
  where
    none : each_bus piece [] ≡ []
    none = unfold each_bus in refl

-- the word at i, as a loop over the words reads it, holds the round at i
pub held-round : {sets : List SetWord} {rounds : List (List ℕ)} {i : ℕ} {w : SetWord} → HeldRounds sets rounds → i < length sets
    → w ≡ get_or sets i w → HoldsBuses w (get_or rounds i [])
held-round {sets} {rounds} {i} {w} h l is =
    subst⁻¹ (λ (v : SetWord). HoldsBuses v (get_or rounds i [])) (is ∙ get_or_default sets i w empty_word l) (h.each i l)
