-- A text cut at a byte.
use mathlib.Core.Path.{◌≡◌, refl, sym, ap, ap₂, ◌∙◌}
use mathlib.Core.Bool.{Bool, true, false, cond}
use mathlib.Core.List.{List, [], ◌∷◌, ◌++◌}
use Prim.Native.Nat.{ℕ, suc, ◌+◌, ◌-◌, ◌≤◌, ◌<◌}
use native.Mathlib.Numerals.{add-one}
use native.Mathlib.Omega.{arith}
use borrow.Author.Tests.{eq-eqb, ne_eqb, eqb-true, lt-ltb, le-ltb, ltb-true, ltb-false}
use lib.Dec.{eqb, ltb}
use lib.ListN.{length, take, drop, length-drop}
use lib.Seq.{drop-drop}
use Rattle.std.specs.Prelude.{Option, Some, None, not, ◌==◌, unwrap_or, position}
use Rattle.std.specs.List.{position_or_len}
use Rattle.std.proofs.lemmas.List.Sums.{prefix_len-le-length}
use Rattle.std.proofs.lemmas.Slice.Eq.{bytes_eq-Decides}
use Rattle.text_field.specs.Split.{Pieces, all_pieces, split, part, after, PieceEnd, same, join}

-- c does not stand in s
abbrev pub FreeOf : ℕ → List ℕ → Type 0
FreeOf c [] = Unit {0}
FreeOf c (x ∷ s) = (x ≡ c → ⊥) × FreeOf c s

pub free_append : (c : ℕ) (s t : List ℕ) → FreeOf c s → FreeOf c t → FreeOf c (s ++ t)
free_append c [] t f g = g
free_append c (x ∷ s) t f g = (f.0, free_append c s t f.1 g)

pub split-cut : (c : ℕ) (s t : List ℕ) → FreeOf c s → split c (s ++ c ∷ t) ≡ record { first = s; rest = all_pieces (split c t) }
unfolding split
split-cut c [] t f = rw (eq-eqb c c refl)
split-cut c (x ∷ s) t f = rw (ne_eqb x c f.0, split-cut c s t f.1)

pub split-last : (c : ℕ) (s : List ℕ) → FreeOf c s → split c s ≡ record { first = s; rest = [] }
unfolding split
split-last c [] f = refl
split-last c (x ∷ s) f = rw (ne_eqb x c f.0, split-last c s f.1)

-- how many bytes stand before the first c: all of them where there is none
abbrev before : ℕ → List ℕ → ℕ
before c s = position_or_len (λ x. x == c) s

before-le : (c : ℕ) (s : List ℕ) → before c s ≤ length s
before-le c s = prefix_len-le-length (λ x. not (x == c)) s

before_unwrapped : (c : ℕ) (s : List ℕ) → unwrap_or (position (λ x. x == c) s) (length s) ≡ before c s
before_unwrapped c s = go (ltb (before c s) (length s)) refl
  where
    go : (b : Bool) → ltb (before c s) (length s) ≡ b → unwrap_or (cond b (Some (before c s)) None) (length s) ≡ before c s
    go true e = refl
    go false e = omega (arith, ltb-false _ _ e, before-le c s)

after_dropped : (c : ℕ) (s : List ℕ) (a i : ℕ) → a ≤ length s → after c (drop a s) i ≡ after c s (a + i)
unfolding after
after_dropped c s a i h = go (ltb (a + i) (length s)) refl
  where
    go : (b : Bool) → ltb (a + i) (length s) ≡ b → after c (drop a s) i ≡ after c s (a + i)
    go true e =
        let k = ltb-true _ _ e in
        let j : a + suc i ≡ suc (a + i) = omega arith in
        rw (e, lt-ltb i (length (drop a s)) (simp length-drop (omega arith)), drop-drop (suc i) a s, j) refl
    go false e =
        let k = ltb-false _ _ e in
        rw (e, le-ltb i (length (drop a s)) (simp length-drop (omega arith))) refl

split-before : (c : ℕ) (s : List ℕ) → split c s ≡ record { first = take (before c s) s; rest = after c s (before c s) }
unfolding split after
split-before c [] = refl
split-before c (x ∷ s) = go (eqb x c) refl (split-before c s)
  where
    go : (b : Bool) → eqb x c ≡ b → split c s ≡ record { first = take (before c s) s; rest = after c s (before c s) }
        → split c (x ∷ s) ≡ record { first = take (before c (x ∷ s)) (x ∷ s); rest = after c (x ∷ s) (before c (x ∷ s)) }
    go true e h = rw (e, lt-ltb 0 (suc (length s)) (omega arith)) refl
    go false e h =
        let j : 1 + before c s ≡ suc (before c s) = omega arith in
        rw (e, h, after_dropped c (x ∷ s) 1 (before c s) (omega arith), j) refl

-- the piece ends at the first c
pub piece-found : {c : ℕ} {s rest : List ℕ} {a r : ℕ} {o : Option ℕ} → a ≤ length s → rest ≡ drop a s → o ≡ position (λ x. x == c) rest
    → r ≡ unwrap_or o (length rest) → PieceEnd c s a (a + r)
piece-found {c} {s} {rest} {a} {r} {o} h d e f =
    let i : r ≡ before c (drop a s) = f ∙ rw (e, d) (before_unwrapped c (drop a s)) in
    let j : (a + before c (drop a s)) - a ≡ before c (drop a s) = omega arith in
    rw i record {
      low = omega arith;
      high = omega (arith, before-le c (drop a s), length-drop a s);
      cut = rw (split-before c (drop a s), after_dropped c s a (before c (drop a s)) h, j) refl;
    }

-- ---- how many pieces

-- at most as many after the first as there are bytes
pub rest-few : (c : ℕ) (s : List ℕ) → length (split c s).rest ≤ length s
unfolding split
rest-few c [] = omega arith
rest-few c (x ∷ s) = go (eqb x c) (split c s) (rest-few c s)
  where
    go : (b : Bool) (p : Pieces) → length p.rest ≤ length s →
        length (cond {A = Pieces} b (record { first = []; rest = all_pieces p }) (record { first = x ∷ p.first; rest = p.rest })).rest
        ≤ suc (length s)
    go true p h = omega arith
    go false p h = omega arith

-- ---- the pieces after index e

-- ---- two texts compared

pub same-is : (s t : List ℕ) → same s t ≡ true → s ≡ t
same-is s t = (bytes_eq-Decides s t).0

-- ---- cut and put together

join_onto : (c x : ℕ) (p : List ℕ) (ps : List (List ℕ)) → join c (x ∷ p) ps ≡ x ∷ join c p ps
unfolding join
join_onto c x p [] = refl
join_onto c x p (q ∷ ps) = refl

joined : (c x : ℕ) (s : List ℕ) (b : Bool) → eqb x c ≡ b → join c (split c s).first (split c s).rest ≡ s →
    join c (split c (x ∷ s)).first (split c (x ∷ s)).rest ≡ x ∷ s
unfolding split join
joined c x s true e h = rw e (ap₂ ◌∷◌ (sym (eqb-true x c e)) h)
joined c x s false e h = rw e (join_onto c x (split c s).first (split c s).rest ∙ ap (λ (t : List ℕ). x ∷ t) h)

pub join-split : (c : ℕ) (s : List ℕ) → join c (split c s).first (split c s).rest ≡ s
unfolding split join
join-split c [] = refl
join-split c (x ∷ s) = joined c x s (eqb x c) refl (join-split c s)

-- c stands in none of the pieces
abbrev pub AllFree : ℕ → List (List ℕ) → Type 0
AllFree c [] = Unit {0}
AllFree c (p ∷ ps) = FreeOf c p × AllFree c ps

pub split-join : (c : ℕ) (p : List ℕ) (ps : List (List ℕ)) → FreeOf c p → AllFree c ps
    → split c (join c p ps) ≡ record { first = p; rest = ps }
unfolding join
split-join c p [] f g = split-last c p f
split-join c p (q ∷ ps) f g =
    split-cut c p (join c q ps) f ∙ ap (λ (x : Pieces). record { first = p; rest = all_pieces x }) (split-join c q ps g.0 g.1)

pub free-join : (c d : ℕ) (p : List ℕ) (ps : List (List ℕ)) → (d ≡ c → ⊥) → FreeOf c p → AllFree c ps → FreeOf c (join d p ps)
unfolding join
free-join c d p [] n f g = f
free-join c d p (q ∷ ps) n f g = free_append c p (d ∷ join d q ps) f (n, free-join c d q ps n g.0 g.1)
