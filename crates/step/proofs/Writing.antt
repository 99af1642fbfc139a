-- A list written into room lent, one element after another.
use mathlib.Core.Path.{◌≡◌, sym, ap, ◌∙◌}
use mathlib.Core.List.{List, ◌++◌}
use Prim.Native.Nat.{ℕ, suc, ◌+◌, ◌<◌}
use native.Mathlib.Numerals.{add-one}
use native.Mathlib.Omega.{arith}
use lib.ListN.{length, take, drop, get_or, set, length-set}
use lib.Seq.{drop-cons, set_at, take-suc, length-take-le, append_snoc}

-- i elements of the list are written over the room as it was lent
pub record WrittenSoFar {A : Type 0} (list lent room : List A) (i : ℕ) : Type 0 where
  pub is : room ≡ take i list ++ drop i lent
  pub long : length room ≡ length lent

pub written_none : {A : Type 0} (list lent : List A) → WrittenSoFar list lent lent 0
written_none list lent = record { is = cc; long = cc }

-- d is whatever stands past the end of a list
pub written-more : {A : Type 0} (d : A) {list lent room : List A} {i : ℕ} → WrittenSoFar list lent room i → i < length list
    → i < length lent
    → WrittenSoFar list lent (set room i (get_or list i d)) (i + 1)
written-more {A} d {list} {lent} {room} {i} w hl hr = record {
  is = ap (λ (r : List A). set r i (get_or list i d)) w.is ∙ turn ∙ ap (λ (k : ℕ). take k list ++ drop k lent) (sym (add-one i));
  long = simp length-set w.long;
}
  where
    turn : set (take i list ++ drop i lent) i (get_or list i d) ≡ take (suc i) list ++ drop (suc i) lent
    turn =
        ap (λ (r : List A). set (take i list ++ r) i (get_or list i d)) (drop-cons lent i d hr)
        ∙ set_at (take i list) (get_or lent i d) (drop (suc i) lent) (get_or list i d) i (length-take-le i list (omega arith))
        ∙ sym (append_snoc (take i list) (get_or list i d) (drop (suc i) lent))
        ∙ ap (λ (r : List A). r ++ drop (suc i) lent) (sym (take-suc list i d hl))
