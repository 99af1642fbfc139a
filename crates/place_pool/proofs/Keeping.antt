-- The pool after a group is kept: each word is that of the group, or was there.
use Rattle.std.proofs.lemmas.Grind.{elements}
use Rattle.std.proofs.lemmas.List.Elements.{All-drop, All-replicate}
use Rattle.std.specs.List.{All}
use mathlib.Core.Path.{◌≡◌, ap, ◌∙◌, subst⁻¹}
use mathlib.Core.Logic.{◌⊎◌, ⊎_elim}
use mathlib.Core.List.{List, [], ◌∷◌, ◌++◌}
use Prim.Native.Nat.{ℕ}
use native.Mathlib.Omega.{arith}
use lib.ListN.{drop, replicate}
use Rattle.busset.specs.Sets.{empty, set_of}
use Rattle.busset.specs.Held.{SetWord, empty_word}
use Rattle.busset.proofs.Words.{set-empty}
use Rattle.rules.specs.Grids.{Grid}
use Rattle.place_light.specs.Ways.{Group}
use Rattle.place_pool.specs.Pool.{KeptGroups, KeptWith}

all-pushed : (P : SetWord → Type 0) (xs : List SetWord) (w : SetWord) → All P xs → P w → All P (xs ++ (w ∷ []))
all-pushed P xs w a p = grind (arith, elements)

-- the oldest goes where there is no room
module _ (pool stays : List SetWord) (from : (stays ≡ pool) ⊎ (stays ≡ drop 1 pool)) where
  stay : (P : SetWord → Type 0) → All P pool → All P stays
  stay P a = ⊎_elim (λ e. subst⁻¹ (All P) e a) (λ e. subst⁻¹ (All P) e (All-drop P 1 pool a)) from

  -- an empty one is not put
  pub kept-stays : (w : ℕ) → KeptWith pool w stays
  kept-stays w = record {
    keeps = λ g gives items kept group.
        record { groups = stay (λ x. (set_of x ≡ empty → ⊥) → Group g gives items (set_of x)) kept.groups };
  }

  -- a group is put last
  pub kept-pushed : (w : SetWord) → KeptWith pool (set_of w) (stays ++ (w ∷ []))
  kept-pushed w = record {
    keeps = λ g gives items kept group.
        let P = λ (x : SetWord). (set_of x ≡ empty → ⊥) → Group g gives items (set_of x) in
        record { groups = all-pushed P stays w (stay P kept.groups) group };
  }

-- nothing is kept at first
pub kept-none : (g : Grid) (gives : ℕ → ℕ) (items m : ℕ) {w : SetWord} → w ≡ empty_word → KeptGroups g gives items (replicate m w)
kept-none g gives items m {w} e = record {
  groups =
      All-replicate (λ x. (set_of x ≡ empty → ⊥) → Group g gives items (set_of x)) m w
      (λ some. absurd (some (ap set_of e ∙ set-empty)));
}
