-- The reasons by their letters and turns: there and back, and what the reasons of one turn are.
-- A later reason adds one line to each of `there_and_back`, `turn-letter` and `turn-most`, and one that says what its turn has.
use Rattle.std.specs.Prelude.{Option, Some, None}
use mathlib.Core.Path.{◌≡◌, refl, sym, ap, ◌∙◌}
use Prim.Native.Nat.{ℕ, ◌<◌}
use native.Mathlib.Omega.{arith}
use borrow.Author.Tests.{eq-eqb, ne_eqb}
use lib.ListN.{length, get_or}
use Rattle.step.specs.Reasons.{letter_of, named_by, if_letter, reason_of, letters, turn_of}
use Rattle.step.specs.declared.Reason.{Reason}
use Rattle.step.specs.declared.Reason.TheVariants.{OwnUnit, NeighbourOf, ZeroInjection}

-- ---- letters

there_and_back : (r : Reason) → reason_of (letter_of r) (named_by r) ≡ Some r
there_and_back OwnUnit = refl
there_and_back (NeighbourOf p) = refl
there_and_back (ZeroInjection w) = refl

-- a reason is known by its letter and the bus that it names
pub reason-unique : (q r : Reason) → letter_of q ≡ letter_of r → named_by q ≡ named_by r → q ≡ r
reason-unique q r l b = let e : Some q ≡ Some r = sym (there_and_back q) ∙ rw (l, b) (there_and_back r) in cc

-- ---- turns

turn-letter : (r : Reason) → get_or letters (turn_of r) 0 ≡ letter_of r
turn-letter OwnUnit = refl
turn-letter (NeighbourOf p) = refl
turn-letter (ZeroInjection w) = refl

pub turn-most : (r : Reason) → turn_of r < length letters
turn-most OwnUnit = omega arith
turn-most (NeighbourOf p) = omega arith
turn-most (ZeroInjection w) = omega arith

-- the turn determines the letter
pub same-letter : (q r : Reason) → turn_of q ≡ turn_of r → letter_of q ≡ letter_of r
same-letter q r e = sym (turn-letter q) ∙ ap (λ (k : ℕ). get_or letters k 0) e ∙ turn-letter r

-- ---- the reasons of one turn

-- no other reason has the turn of q
pub record Alone (q : Reason) : Type 0 where
  pub only : (r : Reason) → turn_of r ≡ turn_of q → r ≡ q

-- r is one of the reasons f
pub record OfTurn (f : ℕ → Reason) (r : Reason) : Type 0 where
  pub bus : ℕ
  pub is : r ≡ f bus

-- the reasons f name a bus each, and no other reason has their turn
pub record Naming (f : ℕ → Reason) : Type 0 where
  pub names : (p : ℕ) → named_by (f p) ≡ Some p
  pub turn : (p : ℕ) → turn_of (f p) ≡ turn_of (f 0)
  pub only : (r : Reason) → turn_of r ≡ turn_of (f 0) → OfTurn f r

given-same : {q r : Reason} → Some q ≡ Some r → r ≡ q
given-same e = cc

given-wrong : {r : Reason} → None ≡ Some r → ⊥
given-wrong e = let z : ◌≡◌ {A = ℕ} 0 1 = cc in omega arith

-- what the turn of q has, by the bus that is named
by_turn : (q r : Reason) → turn_of r ≡ turn_of q → reason_of (letter_of q) (named_by r) ≡ Some r
by_turn q r e = rw (← same-letter r q e) (there_and_back r)

alone : (q : Reason) → reason_of (letter_of q) None ≡ Some q → ((p : ℕ) → reason_of (letter_of q) (Some p) ≡ None) → Alone q
alone q none some = record { only = λ r e. go r (named_by r) (by_turn q r e) }
  where
    go : (r : Reason) (x : Option ℕ) → reason_of (letter_of q) x ≡ Some r → r ≡ q
    go r None e = given-same (sym none ∙ e)
    go r (Some p) e = absurd (given-wrong (sym (some p) ∙ e))

naming : (f : ℕ → Reason) → ((p : ℕ) → named_by (f p) ≡ Some p) → ((p : ℕ) → letter_of (f p) ≡ letter_of (f 0))
    → reason_of (letter_of (f 0)) None ≡ None → ((p : ℕ) → reason_of (letter_of (f 0)) (Some p) ≡ Some (f p))
    → Naming f
naming f names letter none some = record {
  names = names;
  turn = λ p. rw (letter p);
  only = λ r e. go r (named_by r) (by_turn (f 0) r e);
}
  where
    go : (r : Reason) (x : Option ℕ) → reason_of (letter_of (f 0)) x ≡ Some r → OfTurn f r
    go r None e = absurd (given-wrong (sym none ∙ e))
    go r (Some p) e = record { bus = p; is = given-same (sym (some p) ∙ e) }

pub own_turn : Alone OwnUnit
own_turn = alone OwnUnit refl (λ p. refl)

pub neighbour-turn : Naming NeighbourOf
neighbour-turn = naming NeighbourOf (λ p. refl) (λ p. refl) refl (λ p. refl)

pub zero_turn : Naming ZeroInjection
zero_turn = naming ZeroInjection (λ w. refl) (λ w. refl) refl (λ w. refl)
