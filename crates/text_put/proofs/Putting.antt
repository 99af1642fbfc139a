-- Texts put one after another.
use mathlib.Core.Path.{◌≡◌, refl, sym, ap, ◌∙◌}
use mathlib.Core.List.{List, [], ◌∷◌, ◌++◌}
use Prim.Native.Nat.{ℕ, suc, ◌+◌, ◌/◌, ◌%◌, ◌≤◌, ◌<◌}
use native.Mathlib.Nat.{add-zero}
use native.Mathlib.Numerals.{add-one}
use native.Mathlib.Omega.{arith}
use lib.ListN.{length, set, get_or, take, length-append}
use lib.Seq.{sets, take-suc, length-sets}
use Rattle.text_field.specs.Number.{most_digits, most_printed, number_text}
use Rattle.text_field.proofs.Digits.{text-few, text-many, text_length}
use Rattle.text_put.specs.Put.{Put}

pub sets_append : (l t u : List ℕ) (i : ℕ) → sets (sets l i t) (i + length t) u ≡ sets l i (t ++ u)
sets_append l [] u i = rw add-zero refl
sets_append l (x ∷ t) u i =
    let e : i + suc (length t) ≡ suc i + length t = omega arith in
    rw e (sets_append (set l i x) t u (suc i))

pub put-none : {l : List ℕ} {at : ℕ} → Put l at [] l at
put-none {l} {at} = record { put = refl; next = omega arith }

pub put_then : {l t m u n : List ℕ} {at r q : ℕ} → Put l at t m r → Put m r u n q → Put l at (t ++ u) n q
put_then {l} {t} {m} {u} {n} {at} {r} {q} p o =
    record {
      put = o.put ∙ rw (p.put, p.next) (sets_append l t u at);
      next = omega (arith, length-append t u);
    }

pub put_same : {l t u m : List ℕ} {at r : ℕ} → t ≡ u → Put l at t m r → Put l at u m r
put_same {l} {t} {u} {m} {at} {r} e p = rw (← e) p

-- how far a text of at most b bytes reaches
pub put-near : {l t m : List ℕ} {at r b : ℕ} → Put l at t m r → length t ≤ b → r ≤ at + b
put-near p h = omega (arith, p.next)

pub tagged_near : {l m : List ℕ} {at r : ℕ} (w : List ℕ) (n : ℕ) → Put l at (w ++ number_text n) m r → r ≤ at + length w + most_digits
tagged_near w n p = omega (arith, p.next, length-append w (number_text n), text_length n)

pub put_length : {l t m : List ℕ} {at r : ℕ} → Put l at t m r → length m ≡ length l
put_length {l} {t} {m} {at} p = ap length p.put ∙ length-sets l at t

-- the first i bytes of s are put, and then one byte more
pub put_more : {l m n : List ℕ} {at r q i : ℕ} (s : List ℕ) → Put l at (take i s) m r → i < length s → Put m r (get_or s i 0 ∷ []) n q
    → Put l at (take (i + 1) s) n q
put_more {i = i} s p h o = put_same (sym (rw add-one (take-suc s i 0 h))) (put_then p o)

pub put-digit : {l m : List ℕ} {at d r : ℕ} (n : ℕ) → n < 10 → d ≡ 48 + n → Put l at (d ∷ []) m r → Put l at (number_text n) m r
put-digit n h e p = put_same (ap (λ (x : ℕ). x ∷ []) e ∙ sym (text-few n h)) p

pub put-digits : {l m o : List ℕ} {at d r q : ℕ} (n : ℕ) → 10 ≤ n → n < most_printed → d ≡ 48 + n % 10 →
    Put l at (number_text (n / 10)) m r → Put m r (d ∷ []) o q → Put l at (number_text n) o q
put-digits n h k e p w = put_same (ap (λ (x : ℕ). number_text (n / 10) ++ x ∷ []) e ∙ sym (text-many n h k)) (put_then p w)
