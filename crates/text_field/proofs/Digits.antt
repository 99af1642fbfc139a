-- A number's text is read as the number, and a text that is read as a number is that number's text.
use Rattle.std.specs.Prelude.{Option, Some, None}
use mathlib.Core.Path.{◌≡◌, refl, sym, ap, ap₂, ◌∙◌}
use mathlib.Core.Bool.{Bool, true, false, cond}
use mathlib.Core.List.{List, [], ◌∷◌, ◌++◌, append_assoc, append-nil}
use mathlib.Core.Logic.{◌⊎◌, inl, inr, ⊎_elim}
use Prim.Native.Nat.{ℕ, suc, zero, ◌+◌, ◌-◌, ◌*◌, ◌/◌, ◌%◌, ◌^◌, ◌≤◌, ◌<◌}
use native.Mathlib.Omega.{arith}
use borrow.Author.Tests.{le-leb, lt-ltb, le-ltb, ltb-true, ltb-false}
use lib.Dec.{ltb}
use lib.ListN.{length, length-append}
use Rattle.text_field.specs.Number.{most_read, is_digit, takes_digit, number_from}
use Rattle.text_field.specs.Number.{numeral_of, most_digits, most_printed, digits, number_text}
use Rattle.text_field.proofs.Numbers.{Digit, DigitTaken, digit-of, taken_of}
use Rattle.text_field.proofs.Cutting.{FreeOf, free_append}

digit-is : {d : ℕ} → Digit d → is_digit d ≡ true
digit-is {d} h = rw (le-leb 48 d h.low, le-leb d 57 h.high)

takes-is : {v d : ℕ} → DigitTaken v d → takes_digit v d ≡ true
takes-is {v} {d} h = rw (digit-is h.digit, lt-ltb 0 v h.some, lt-ltb v (most_read / 10) h.small)

-- the two ways a number's text is made
digits-few : (k n : ℕ) → n < 10 → digits k n ≡ (48 + n) ∷ []
unfolding digits
digits-few zero n h = refl
digits-few (suc k) n h = rw (lt-ltb n 10 h)

digits-many : (k n : ℕ) → 10 ≤ n → digits (suc k) n ≡ digits k (n / 10) ++ (48 + n % 10) ∷ []
unfolding digits
digits-many k n h = rw (le-ltb n 10 h)

few_or_many : (n : ℕ) → (n < 10) ⊎ (10 ≤ n)
few_or_many n = go (ltb n 10) refl
  where
    go : (b : Bool) → ltb n 10 ≡ b → (n < 10) ⊎ (10 ≤ n)
    go true e = inl (ltb-true n 10 e)
    go false e = inr (ltb-false n 10 e)

-- what is shown of one digit, and of one digit more, holds of the numbers that are written
by_digits : (P : ℕ → Type 0) → ((n : ℕ) → n < 10 → P n) → ((n : ℕ) → 10 ≤ n → n < most_printed → P (n / 10) → P n) → (n : ℕ)
    → n < most_printed → P n
by_digits P one more n h = below (most_digits - 1) n h h
  where
    below : (k n : ℕ) → n < 10 ^ suc k → n < most_printed → P n
    below zero n l h = one n (omega arith)
    below (suc k) n l h =
        ⊎_elim (λ (s : n < 10). one n s) (λ (m : 10 ≤ n). more n m h (below k (n / 10) (omega arith) (omega arith))) (few_or_many n)

-- a digit more than a number has changes nothing
fuel : (k n : ℕ) → n < 10 ^ suc k → digits k n ≡ digits (suc k) n
fuel zero n h = digits-few 0 n (omega arith) ∙ sym (digits-few 1 n (omega arith))
fuel (suc k) n h =
    ⊎_elim
    (λ (s : n < 10). digits-few (suc k) n s ∙ sym (digits-few (suc (suc k)) n s))
    (λ (l : 10 ≤ n). digits-many k n l ∙ ap (λ (t : List ℕ). t ++ (48 + n % 10) ∷ []) (fuel k (n / 10) (omega arith))
    ∙ sym (digits-many (suc k) n l))
    (few_or_many n)

pub text-few : (n : ℕ) → n < 10 → number_text n ≡ (48 + n) ∷ []
text-few = digits-few (most_digits - 1)

pub text-many : (n : ℕ) → 10 ≤ n → n < most_printed → number_text n ≡ number_text (n / 10) ++ (48 + n % 10) ∷ []
text-many n h l =
    digits-many (most_digits - 2) n h ∙ ap (λ (t : List ℕ). t ++ (48 + n % 10) ∷ []) (fuel (most_digits - 2) (n / 10) (omega arith))

-- ---- a number that was read passed its tests

tested : (b : Bool) (x : Option ℕ) (n : ℕ) → cond b x None ≡ Some n → (b ≡ true) × (x ≡ Some n)
tested true x n e = (refl, e)
tested false x n e = let z : ◌≡◌ {A = ℕ} 0 1 = cc in absurd (omega arith)

from_cons : (v d n : ℕ) (s : List ℕ) → number_from v (d ∷ s) ≡ Some n
    → (takes_digit v d ≡ true) × (number_from (v * 10 + (d - 48)) s ≡ Some n)
unfolding number_from
from_cons v d n s e = tested (takes_digit v d) _ n e

of_cons : (d n : ℕ) (s : List ℕ) → numeral_of (d ∷ s) ≡ Some n → (is_digit d ≡ true) × (number_from (d - 48) s ≡ Some n)
unfolding numeral_of
of_cons d n s e = tested (is_digit d) _ n e

of_nil : (n : ℕ) → numeral_of [] ≡ Some n → ⊥
unfolding numeral_of
of_nil n e = let z : ◌≡◌ {A = ℕ} 0 1 = cc in omega arith

-- ---- written, then read

from_snoc : (v w d : ℕ) (s : List ℕ) → number_from v s ≡ Some w → DigitTaken w d → number_from v (s ++ d ∷ []) ≡ Some (w * 10 + (d - 48))
unfolding number_from
from_snoc v w d [] e t = let f : v ≡ w = cc in rw (f, takes-is t)
from_snoc v w d (x ∷ s) e t = let p = from_cons v x w s e in rw p.0 (from_snoc (v * 10 + (x - 48)) w d s p.1 t)

of_snoc : (w d : ℕ) (s : List ℕ) → numeral_of s ≡ Some w → DigitTaken w d → numeral_of (s ++ d ∷ []) ≡ Some (w * 10 + (d - 48))
unfolding numeral_of
of_snoc w d [] e t = absurd (of_nil w e)
of_snoc w d (x ∷ s) e t = let p = of_cons x w s e in rw p.0 (from_snoc (x - 48) w d s p.1 t)

read-digit : (n : ℕ) → n < 10 → numeral_of (number_text n) ≡ Some n
unfolding numeral_of number_from
read-digit n h =
    let e : (48 + n) - 48 ≡ n = omega arith in
    let d : Digit (48 + n) = record { low = omega arith; high = omega arith } in
    rw (text-few n h, digit-is d, e)

pub read_number : (n : ℕ) → n < most_read → numeral_of (number_text n) ≡ Some n
read_number n h = by_digits (λ n. n < most_read → numeral_of (number_text n) ≡ Some n) (λ n l i. read-digit n l) more n (omega arith) h
  where
    more : (n : ℕ) → 10 ≤ n → n < most_printed → (n / 10 < most_read → numeral_of (number_text (n / 10)) ≡ Some (n / 10)) → n < most_read
        → numeral_of (number_text n) ≡ Some n
    more n h l p i =
        let t : DigitTaken (n / 10) (48 + n % 10) =
        record { digit = record { low = omega arith; high = omega arith }; some = omega arith; small = omega arith } in
        let e : n / 10 * 10 + ((48 + n % 10) - 48) ≡ n = omega arith in
        rw (text-many n h l) (of_snoc (n / 10) (48 + n % 10) (number_text (n / 10)) (p (omega arith)) t ∙ ap Some e)

-- ---- read, then written

text_snoc : (v d : ℕ) → DigitTaken v d → number_text (v * 10 + (d - 48)) ≡ number_text v ++ d ∷ []
text_snoc v d t =
    let e : (v * 10 + (d - 48)) / 10 ≡ v = omega arith in
    let f : 48 + (v * 10 + (d - 48)) % 10 ≡ d = omega arith in
    text-many (v * 10 + (d - 48)) (omega arith) (omega arith) ∙ ap₂ (λ (x y : ℕ). number_text x ++ y ∷ []) e f

pub record NumberWritten (n : ℕ) (s : List ℕ) : Type 0 where
  pub small : n < most_read
  pub text : number_text n ≡ s

from-written : (v n : ℕ) (s : List ℕ) → v < most_read → number_from v s ≡ Some n → NumberWritten n (number_text v ++ s)
unfolding number_from
from-written v n [] h e =
    let f : v ≡ n = cc in
    record { small = omega arith; text = sym (ap number_text f) ∙ sym (append-nil (number_text v)) }
from-written v n (d ∷ s) h e =
    let p = from_cons v d n s e in
    let t = taken_of v d p.0 in
    let w = from-written (v * 10 + (d - 48)) n s (omega (arith, t)) p.1 in
    record { small = w.small; text = w.text ∙ ap (λ (x : List ℕ). x ++ s) (text_snoc v d t) ∙ append_assoc (number_text v) (d ∷ []) s }

pub written-number : (s : List ℕ) (n : ℕ) → numeral_of s ≡ Some n → NumberWritten n s
written-number [] n e = absurd (of_nil n e)
written-number (d ∷ s) n e =
    let p = of_cons d n s e in
    let g = digit-of d p.0 in
    let f : 48 + (d - 48) ≡ d = omega (arith, g) in
    let w = from-written (d - 48) n s (omega (arith, g)) p.1 in
    record {
      small = w.small;
      text = w.text ∙ ap (λ (x : List ℕ). x ++ s) (text-few (d - 48) (omega (arith, g)) ∙ ap (λ (x : ℕ). x ∷ []) f);
    }

-- ---- a number's text has digits alone

pub number-free : (c n : ℕ) → c < 48 → n < most_printed → FreeOf c (number_text n)
number-free c n h = by_digits (λ n. FreeOf c (number_text n)) one more n
  where
    one : (n : ℕ) → n < 10 → FreeOf c (number_text n)
    one n l = rw (text-few n l) ((λ e. omega arith), tt)

    more : (n : ℕ) → 10 ≤ n → n < most_printed → FreeOf c (number_text (n / 10)) → FreeOf c (number_text n)
    more n l u f = rw (text-many n l u) (free_append c (number_text (n / 10)) ((48 + n % 10) ∷ []) f ((λ e. omega arith), tt))

-- ---- and at most so many of them

digits_length : (k n : ℕ) → length (digits k n) ≤ suc k
digits_length zero n = unfold digits in omega arith
digits_length (suc k) n =
    ⊎_elim
    (λ (s : n < 10). rw (digits-few (suc k) n s) (omega arith))
    (λ (l : 10 ≤ n). rw (digits-many k n l, length-append) (omega (arith, digits_length k (n / 10))))
    (few_or_many n)

pub text_length : (n : ℕ) → length (number_text n) ≤ most_digits
text_length n = digits_length (most_digits - 1) n

-- no more than a number needs
digits-few_enough : (k m n : ℕ) → n < 10 ^ suc k → length (digits m n) ≤ suc k
digits-few_enough zero m n h = rw (digits-few m n (omega arith)) (omega arith)
digits-few_enough (suc k) zero n h = omega (arith, digits_length zero n)
digits-few_enough (suc k) (suc m) n h =
    ⊎_elim
    (λ (s : n < 10). rw (digits-few (suc m) n s) (omega arith))
    (λ (l : 10 ≤ n). rw (digits-many m n l, length-append) (omega (arith, digits-few_enough k m (n / 10) (omega arith))))
    (few_or_many n)

pub text-short : (k n : ℕ) → n < 10 ^ suc k → length (number_text n) ≤ suc k
text-short k n = digits-few_enough k (most_digits - 1) n

-- two of them below a hundred
pub text-two : (n : ℕ) → n < 100 → length (number_text n) ≤ 2
text-two n h = text-short 1 n h
