-- Rising lists: all that something holds of, rising, is one list; and the buses of a set are such a list.
use mathlib.Core.Path.{◌≡◌, refl, ap, ap₂, ◌∙◌, subst, subst⁻¹}
use mathlib.Core.Logic.{◌⊎◌, inl, inr, ⊎_elim}
use mathlib.Core.List.{List, [], ◌∷◌}
use Prim.Native.Nat.{ℕ, zero, suc, ◌+◌, ◌≤◌, ◌<◌}
use native.Mathlib.Nat.{le_antisymm}
use native.Mathlib.Omega.{arith}
use lib.ListN.{length}
use Rattle.basics.specs.Lists.{Some}
use Rattle.basics.proofs.Tests.{same_or, below_or}
use Rattle.busset.specs.Sets.{bit, In, Out, Within, Lowest, Without, empty, add, size}
use Rattle.busset.proofs.Digits.{bit-zero}
use Rattle.busset.proofs.Members.{in_or, sub_of, sub_antisym, add-here, add-there}
use Rattle.busset.proofs.Sizes.{size-add, size-empty}
use Rattle.rules.specs.Placing.{Rising, placed}
use Rattle.rules.specs.Rounds.{AllRising}
use Rattle.rules.proofs.Covering.{rising-to, placed_of, placed_max}

-- ---- rising lists

-- each of a rising list is above where it starts, and so the first is its lowest
above_low : (P : ℕ → Type 0) (low b : ℕ) (xs : List ℕ) → Rising P low xs → Some (λ y. y ≡ b) xs → low < b
above_low P low b [] r h = absurd h
above_low P low b (x ∷ xs) r h =
    ⊎_elim (λ (e : x ≡ b). omega (arith, r.0)) (λ (k : Some (λ y. y ≡ b) xs). omega (arith, r.0, above_low P x b xs r.2 k)) h

first-lowest : (P : ℕ → Type 0) (low x b : ℕ) (xs : List ℕ) → Rising P low (x ∷ xs) → Some (λ y. y ≡ b) (x ∷ xs) → x ≤ b
first-lowest P low x b xs r (inl e) = omega arith
first-lowest P low x b xs r (inr h) = omega (arith, above_low P x b xs r.2 h)

-- a number above the first is one of the others
later : (x b : ℕ) (xs : List ℕ) → x < b → Some (λ y. y ≡ b) (x ∷ xs) → Some (λ y. y ≡ b) xs
later x b xs l (inl e) = absurd (omega arith)
later x b xs l (inr h) = h

one-rising : {P : ℕ → Type 0} (low : ℕ) (xs ys : List ℕ) → Rising P low xs → Rising P low ys
    → ((b : ℕ) → low < b → P b → Some (λ x. x ≡ b) xs) → ((b : ℕ) → low < b → P b → Some (λ x. x ≡ b) ys) → xs ≡ ys
one-rising low [] [] p q h k = refl
one-rising low [] (y ∷ ys) p q h k = absurd (h y q.0 q.1)
one-rising low (x ∷ xs) [] p q h k = absurd (k x p.0 p.1)
one-rising {P} low (x ∷ xs) (y ∷ ys) p q h k =
    let e : x ≡ y = le_antisymm (first-lowest P low x y xs p (h y q.0 q.1)) (first-lowest P low y x ys q (k x p.0 p.1)) in
    ap₂ (λ (z : ℕ) (zs : List ℕ). z ∷ zs) e
    (one-rising x xs ys p.2 (subst⁻¹ (λ (z : ℕ). Rising P z ys) e q.2)
    (λ b l a. later x b xs l (h b (omega (arith, p.0)) a))
    (λ b l a. later y b ys (omega arith) (k b (omega (arith, p.0)) a)))

-- all that P holds of, rising, is one list
pub rising-unique : {P : ℕ → Type 0} (xs ys : List ℕ) → AllRising P xs → AllRising P ys → xs ≡ ys
rising-unique xs ys p q = one-rising 0 xs ys p.rising q.rising (λ b l. p.all b) (λ b l. q.all b)

-- where Q holds of the same
pub rising-same : {P Q : ℕ → Type 0} {xs : List ℕ} → ((b : ℕ) → P b → Q b) → ((b : ℕ) → Q b → P b) → AllRising P xs → AllRising Q xs
rising-same {xs = xs} to from a =
    record { rising = rising-to 0 0 xs (omega arith) (λ b l. to b) a.rising; all = λ b h. a.all b (from b h) }

-- ---- a set, and its buses

-- what is one of a list is in a set with its numbers
some-placed : (xs : List ℕ) (s b : ℕ) → Some (λ x. x ≡ b) xs → In (placed s xs) b
some-placed [] s b h = absurd h
some-placed (x ∷ xs) s b (inl e) = omega (arith, placed_max xs (add s x) b, subst (In (add s x)) e (add-here s x))
some-placed (x ∷ xs) s b (inr h) = some-placed xs (add s x) b h

-- numbers that are not in s, each once
pub size-rising : (low : ℕ) (xs : List ℕ) (s : ℕ) → Rising (Out s) low xs → size (placed s xs) ≡ size s + length xs
size-rising low [] s r = omega arith
size-rising low (x ∷ xs) s r =
    omega (
      arith,
      size-rising x xs (add s x) (rising-to x x xs (omega arith) (λ y l o. add-there s x y (λ e. omega arith) ∙ o) r.2),
      size-add s x r.1,
    )

pub members-set : (s : ℕ) (xs : List ℕ) → AllRising (In s) xs → placed empty xs ≡ s
members-set s xs a =
    sub_antisym (placed empty xs) s
    (sub_of (placed empty xs) s (placed_of 0 xs empty a.rising (λ b h. absurd (omega (arith, bit-zero b)))))
    (sub_of s (placed empty xs) (λ b h. some-placed xs empty b (a.all b h)))

pub members-size : (s : ℕ) (xs : List ℕ) → AllRising (In s) xs → length xs ≡ size s
members-size s xs a =
    omega (
      arith,
      ap size (members-set s xs a),
      size-rising 0 xs empty (rising-to 0 0 xs (omega arith) (λ b l h. bit-zero b) a.rising),
      size-empty,
    )

pub members-none : {s : ℕ} {xs : List ℕ} → s ≡ empty → AllRising (In s) xs → xs ≡ []
members-none {s} {xs} e a =
    rising-unique xs [] a (record { rising = tt; all = λ b h. absurd (omega (arith, ap (λ (t : ℕ). bit t b) e, bit-zero b)) })

-- the buses of s: b, its lowest, and those of t, which is s without b
pub record LowestFirst (b t : ℕ) (xs : List ℕ) : Type 0 where
  pub rest : List ℕ
  pub is : xs ≡ b ∷ rest
  pub others : AllRising (In t) rest

pub members-next : {n s b t : ℕ} (xs : List ℕ) → AllRising (In s) xs → Lowest n s b → Without s b t → LowestFirst b t xs
members-next {b = b} [] a low w = absurd (a.all b low.has)
members-next {s = s} {b = b} {t = t} (x ∷ xs) a low w = record {
  rest = xs;
  is = ap (λ (y : ℕ). y ∷ xs) same;
  others = record {
    rising = rising-to x 0 xs (omega arith) (λ y l h. omega (arith, w.there y (λ e. omega (arith, same)))) a.rising.2;
    all = λ y h. other y h (same_or y b);
  };
}
  where
    same : x ≡ b
    same =
        le_antisymm (first-lowest (In s) 0 x b xs a.rising (a.all b low.has))
        (⊎_elim (λ (l : x < b). absurd (omega (arith, low.below x l, a.rising.1))) (λ (l : b ≤ x). l) (below_or x b))

    other : (y : ℕ) → In t y → (y ≡ b) ⊎ (y ≡ b → ⊥) → Some (λ z. z ≡ y) xs
    other y h (inl e) = absurd (omega (arith, w.here, subst (In t) e h))
    other y h (inr ne) =
        let more : x ≤ y = first-lowest (In s) 0 x y xs a.rising (a.all y (omega (arith, w.there y ne))) in
        let l : x < y = ⊎_elim (λ (l : x < y). l) (λ (l : y ≤ x). absurd (ne (omega (arith, same)))) (below_or x y) in
        later x y xs l (a.all y (omega (arith, w.there y ne)))

-- the buses of s above k and up to k + m
record Above (s k m : ℕ) : Type 0 where
  pub list : List ℕ
  pub rising : Rising (In s) k list
  pub all : (b : ℕ) → k < b → b ≤ k + m → In s b → Some (λ x. x ≡ b) list

above : (s m k : ℕ) → Above s k m
above s zero k = record { list = []; rising = tt; all = λ b l u h. absurd (omega arith) }
above s (suc m) k = go (above s m (suc k)) (in_or s (suc k))
  where
    go : Above s (suc k) m → In s (suc k) ⊎ Out s (suc k) → Above s k (suc m)
    go r (inl h) = record {
      list = suc k ∷ r.list;
      rising = (omega arith, h, r.rising);
      all = λ b l u i.
          ⊎_elim (λ (e : suc k ≡ b). inl e) (λ (ne : suc k ≡ b → ⊥). inr (r.all b (omega (arith, ne)) (omega arith) i))
          (same_or (suc k) b);
    }
    go r (inr o) = record {
      list = r.list;
      rising = rising-to (suc k) k r.list (omega arith) (λ b l h. h) r.rising;
      all = λ b l u i.
          ⊎_elim (λ (e : suc k ≡ b). absurd (omega (arith, subst (Out s) e o, i)))
          (λ (ne : suc k ≡ b → ⊥). r.all b (omega (arith, ne)) (omega arith) i)
          (same_or (suc k) b);
    }

-- a set of buses 1 to n has such a list
pub record Listing (s : ℕ) : Type 0 where
  pub list : List ℕ
  pub members : AllRising (In s) list

pub listing : (n s : ℕ) → Within n s → Listing s
listing n s w = record {
  list = (above s n 0).list;
  members = record {
    rising = (above s n 0).rising;
    all = λ b h. (above s n 0).all b (omega (arith, (w b h).some)) (omega (arith, (w b h).most)) h;
  };
}
