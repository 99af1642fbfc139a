-- Membership: what is in `add`, `meet`, `lack`, `less` and `up_to`, and in what `With` and `Without` give.
use mathlib.Core.Path.{◌≡◌, sym, ◌∙◌, subst, subst⁻¹}
use mathlib.Core.Bool.{Bool}
use mathlib.Core.Logic.{◌⊎◌, inl, inr, ⊎_elim}
use Prim.Native.Nat.{ℕ, zero, suc, ◌-◌, ◌^◌, ◌≤◌, ◌<◌, min}
use native.Mathlib.Nat.{eq-zero-or-pos, le_antisymm}
use native.Mathlib.Omega.{arith}
use Rattle.basics.specs.Deciding.{Decides}
use Rattle.busset.specs.Sets.{Bus, bit, In, Out, Sub, Within, empty, add, meet, lack, less, up_to, Both, Minus, With, Without, All}
use Rattle.basics.proofs.Tests.{below_or, same_or, decides-by}
use Rattle.busset.proofs.Digits.{bit-or, bit-and, bit-less, bit-zero, bit_mod, bit_mod_out, bit-one-same, bit-one-other, ext}

-- ---- cases

pub bus-more : {n m b : ℕ} → Bus n b → n ≤ m → Bus m b
bus-more h l = record { some = h.some; most = omega (arith, h.most) }

pub in_or : (s b : ℕ) → In s b ⊎ Out s b
in_or s b = ⊎_elim (λ e. inr e) (λ h. inl (omega arith)) (eq-zero-or-pos (bit s b))

-- not in is out
pub out_of : (s b : ℕ) → (In s b → ⊥) → Out s b
out_of s b n = ⊎_elim (λ (p : In s b). absurd (n p)) (λ (p : Out s b). p) (in_or s b)

-- the same set under another name
pub decides_in : (b : ℕ) {s t : ℕ} {r : Bool} → s ≡ t → Decides (In s b) r → Decides (In t b) r
decides_in b e d = decides-by (λ h. subst (λ (x : ℕ). In x b) e h) (λ h. subst⁻¹ (λ (x : ℕ). In x b) e h) d

pub sub_of : (s t : ℕ) → ((b : ℕ) → In s b → In t b) → Sub s t
sub_of s t h b = ⊎_elim (λ (p : In s b). omega (arith, h b p)) (λ (p : Out s b). omega arith) (in_or s b)

pub sub_antisym : (s t : ℕ) → Sub s t → Sub t s → s ≡ t
sub_antisym s t p q = ext s t (λ b. le_antisymm (p b) (q b))

pub empty_sub : (t : ℕ) → Sub empty t
empty_sub t b = omega (arith, bit-zero b)

-- a set that is not empty has some bus: a set with none is empty
pub empty_of : (s : ℕ) → ((b : ℕ) → Out s b) → s ≡ empty
empty_of s h = ext s 0 (λ b. h b ∙ sym (bit-zero b))

-- ---- s with b

pub add-here : (s b : ℕ) → In (add s b) b
unfolding add
add-here s b = omega (arith, bit-or s (2 ^ b) b, bit-one-same b)

pub add-there : (s b a : ℕ) → (a ≡ b → ⊥) → bit (add s b) a ≡ bit s a
unfolding add
add-there s b a ne = omega (arith, bit-or s (2 ^ b) a, bit-one-other b a (λ e. ne (sym e)))

pub add-grows : (s b : ℕ) → Sub s (add s b)
unfolding add
add-grows s b a = omega (arith, bit-or s (2 ^ b) a)

-- what holds of b and of the buses of s holds of those of s with b
pub add-of : {P : ℕ → Type 0} (s b : ℕ) → P b → ((a : ℕ) → In s a → P a) → (a : ℕ) → In (add s b) a → P a
add-of {P} s b p h a m =
    ⊎_elim (λ (e : a ≡ b). subst⁻¹ P e p) (λ (ne : a ≡ b → ⊥). h a (omega (arith, add-there s b a ne))) (same_or a b)

pub add_sub : (s t b : ℕ) → Sub s t → In t b → Sub (add s b) t
add_sub s t b sub h = sub_of (add s b) t (add-of {P = λ a. In t a} s b h (λ a m. omega (arith, sub a)))

pub add-both : (s t b : ℕ) → Sub s t → Sub (add s b) (add t b)
add-both s t b sub = add_sub s (add t b) b (λ a. omega (arith, sub a, add-grows t b a)) (add-here t b)

-- a bus that is there already changes nothing
pub add_again : (s b : ℕ) → In s b → add s b ≡ s
add_again s b h = sub_antisym (add s b) s (add_sub s s b (λ a. omega arith) h) (add-grows s b)

pub with-add : {s b r : ℕ} → With s b r → r ≡ add s b
with-add {s} {b} {r} w =
    ext r (add s b)
    (λ a. ⊎_elim
    (λ (e : a ≡ b). subst⁻¹ (λ (x : ℕ). bit r x ≡ bit (add s b) x) e (omega (arith, w.here, add-here s b)))
    (λ (ne : a ≡ b → ⊥). omega (arith, w.there a ne, add-there s b a ne))
    (same_or a b))

-- ---- the buses of both, of one alone, all but one, and those up to n

pub lack-at : (s t b : ℕ) → bit (lack s t) b ≡ bit s b - bit t b
unfolding lack
lack-at s t b = bit-less s t b

pub minus-lack : {s t r : ℕ} → Minus s t r → r ≡ lack s t
minus-lack {s} {t} {r} m = ext r (lack s t) (λ b. m.at b ∙ sym (lack-at s t b))

pub less-here : (s b : ℕ) → Out (less s b) b
unfolding less
less-here s b = omega (arith, lack-at s (2 ^ b) b, bit-one-same b)

pub less-there : (s b a : ℕ) → (a ≡ b → ⊥) → bit (less s b) a ≡ bit s a
unfolding less
less-there s b a ne = omega (arith, lack-at s (2 ^ b) a, bit-one-other b a (λ e. ne (sym e)))

pub less_sub : (s b : ℕ) → Sub (less s b) s
unfolding less
less_sub s b a = omega (arith, lack-at s (2 ^ b) a)

pub meet-at : (s t b : ℕ) → bit (meet s t) b ≡ min (bit s b) (bit t b)
unfolding meet
meet-at s t b = bit-and s t b

pub both_meet : {s t r : ℕ} → Both s t r → r ≡ meet s t
both_meet {s} {t} {r} h = ext r (meet s t) (λ b. h.at b ∙ sym (meet-at s t b))

pub up_to_in : (n s b : ℕ) → b ≤ n → bit (up_to n s) b ≡ bit s b
unfolding up_to
up_to_in n s b l = bit_mod (suc n) s b (omega arith)

pub up_to-out : (n s b : ℕ) → n < b → Out (up_to n s) b
unfolding up_to
up_to-out n s b l = bit_mod_out (suc n) s b l

pub up_to_sub : (n s : ℕ) → Sub (up_to n s) s
up_to_sub n s b =
    ⊎_elim (λ (l : n < b). omega (arith, up_to-out n s b l)) (λ (l : b ≤ n). omega (arith, up_to_in n s b l)) (below_or n b)

pub both-up_to : {n s a r : ℕ} → All n a → Out s 0 → Both s a r → r ≡ up_to n s
both-up_to {n} {s} {a} {r} al z h = ext r (up_to n s) (λ b. ⊎_elim (in_it b) (past_it b) (below_or n b))
  where
    in_it : (b : ℕ) → n < b → bit r b ≡ bit (up_to n s) b
    in_it b l =
        let o = out_of a b (λ p. let q = (al.only b p).most in omega arith) in
        omega (arith, h.at b, up_to-out n s b l)

    has_it : (b : ℕ) → b ≤ n → In a b ⊎ Out s b
    has_it zero l = inr z
    has_it (suc b) l = inl (al.has (suc b) (record { some = omega arith; most = l }))

    past_it : (b : ℕ) → b ≤ n → bit r b ≡ bit (up_to n s) b
    past_it b l =
        ⊎_elim (λ (p : In a b). omega (arith, h.at b, up_to_in n s b l)) (λ (p : Out s b). omega (arith, h.at b, up_to_in n s b l))
        (has_it b l)

-- ---- what is left once b is taken out of s

-- what holds of b, and of every bus outside s, holds of every bus outside what is left
pub without-of : {P : ℕ → Type 0} {s b r : ℕ} → Without s b r → P b → ((a : ℕ) → Out s a → P a) → (a : ℕ) → Out r a → P a
without-of {P} {s} {b} {r} w p h a z =
    ⊎_elim (λ (e : a ≡ b). subst⁻¹ P e p) (λ (ne : a ≡ b → ⊥). h a (omega (arith, w.there a ne))) (same_or a b)

pub without-less : {s b r : ℕ} → Without s b r → r ≡ less s b
without-less {s} {b} {r} w =
    ext r (less s b)
    (λ a. ⊎_elim
    (λ (e : a ≡ b). subst⁻¹ (λ (x : ℕ). bit r x ≡ bit (less s b) x) e (omega (arith, w.here, less-here s b)))
    (λ (ne : a ≡ b → ⊥). omega (arith, w.there a ne, less-there s b a ne))
    (same_or a b))

pub without_sub : {s b r : ℕ} → Without s b r → Sub r s
without_sub {s} {b} {r} w a =
    ⊎_elim (λ (e : a ≡ b). subst⁻¹ (λ (x : ℕ). bit r x ≤ bit s x) e (omega (arith, w.here)))
    (λ (ne : a ≡ b → ⊥). omega (arith, w.there a ne)) (same_or a b)

-- ---- the buses 1 to n

pub within-test : (s : ℕ) {n a : ℕ} {r : Bool} → All n a → Decides (Sub s a) r → Decides (Within n s) r
within-test s {n} {a} al d =
    decides-by (λ sub b h. al.only b (omega (arith, sub b))) (λ w. sub_of s a (λ b h. al.has b (w b h))) d
