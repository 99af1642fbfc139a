-- What follows from a call's answer, which stands first in each equation, as a contract has it.
use mathlib.Core.Path.{◌≡◌, sym, ap, ap₂, ◌∙◌}
use mathlib.Core.Bool.{Bool, true, false, not, cond}
use borrow.Author.Tests.{not-true, not-false}

-- two things known of one answer
pub told : {A : Type 0} {r a b : A} → r ≡ a → r ≡ b → a ≡ b
told e f = sym e ∙ f

-- an answer of f, where an earlier answer is f's argument
module _ {A B : Type 0} (f : A → B) where
  pub via : {r : B} {a b : A} → r ≡ f a → a ≡ b → r ≡ f b
  via h e = h ∙ ap f e

module _ {A B C : Type 0} (f : A → B → C) where
  pub via₂ : {r : C} {a x : A} {b y : B} → r ≡ f a b → a ≡ x → b ≡ y → r ≡ f x y
  via₂ h e i = h ∙ ap₂ f e i

  -- in the arm v of a match on the answer w
  pub in-arm : {r : C} {w u v : A} {b : B} → w ≡ u → w ≡ v → r ≡ f v b → r ≡ f u b
  in-arm i e h = rw (← i, e) h

-- the answer b of the test t: in an `if b` that returns, and past it; the same for `if !b`
module _ {A : Type 0} {t b : Bool} (x y : A) (i : b ≡ t) where
  pub hit : b ≡ true → x ≡ cond t x y
  hit e = rw (told i e)

  pub miss : {z : A} → b ≡ false → z ≡ y → z ≡ cond t x y
  miss e h = rw (told i e) h

  pub stop : not b ≡ true → y ≡ cond t x y
  stop e = rw (told i (not-true b e))

  pub pass : {z : A} → not b ≡ false → z ≡ x → z ≡ cond t x y
  pass e h = rw (told i (not-false b e)) h
