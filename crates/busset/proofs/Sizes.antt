-- How many buses a set has: against another set, with one more, with exactly one.
use mathlib.Core.Path.{◌≡◌, refl, sym, ap, ◌∙◌, subst⁻¹}
use mathlib.Core.Logic.{⊎_elim}
use Prim.Native.Nat.{ℕ, zero, suc, ◌+◌, ◌-◌, ◌*◌, ◌/◌, ◌^◌, ◌≤◌, ◌<◌}
use native.Mathlib.Nat.{lt_of_lt_of_le}
use native.Mathlib.Omega.{arith}
use lib.Pow.{pow_mono}
use lib.Count.{ones, ones_step, ones-ones}
use Rattle.busset.specs.Sets.{Bus, bit, In, Out, Sub, Within, empty, add, lack, less, size}
use Rattle.basics.proofs.Tests.{below_or, same_or}
use Rattle.busset.proofs.Digits.{below_pow, bit_in, bit_suc, bit_ones, bit-one-same, bit-one-other, ext}
use Rattle.busset.proofs.Sums.{sum, sum-le, sum_ap, sum_plus, sum_one, sum-two, sum-single, ones_sum}
use Rattle.busset.proofs.Members.{out_of, sub_of, lack-at, add-here, add-there, less-here, less-there}

-- a width with room for a set
room : (s k : ℕ) → s ≤ k → s < 2 ^ k
room s k l = lt_of_lt_of_le (below_pow s) (pow_mono l)

-- the size as a sum of digits, over any width with room for the set
size-sum : (s k : ℕ) → s ≤ k → size s ≡ sum k (bit s)
size-sum s k l = ones_sum k s (room s k l)

pub size-empty : size empty ≡ 0
unfolding ones
size-empty = refl

pub size-le : (s t : ℕ) → Sub s t → size s ≤ size t
size-le s t sub =
    omega (arith, size-sum s (s + t) (omega arith), size-sum t (s + t) (omega arith), sum-le (s + t) {f = bit s} {g = bit t} (λ b l. sub b))

-- the parts of a set add up
pub size-parts : (s t r : ℕ) → ((b : ℕ) → bit s b ≡ bit t b + bit r b) → size s ≡ size t + size r
size-parts s t r e =
    let k = s + t + r in
    size-sum s k (omega arith) ∙ sum_ap k (λ b l. e b) ∙ sum_plus k (bit t) (bit r)
    ∙ omega (arith, size-sum t k (omega arith), size-sum r k (omega arith))

pub size-single : (s b : ℕ) → In s b → ((a : ℕ) → (a ≡ b → ⊥) → Out s a) → size s ≡ 1
size-single s b h none = size-sum s s (omega arith) ∙ sum-single s (bit s) b (bit_in s b (below_pow s) h) h none

-- a set of one bus has no two
pub size-one : (s a b : ℕ) → size s ≡ 1 → In s a → In s b → a ≡ b
size-one s a b e ha hb =
    ⊎_elim
    (λ (l : a < b). absurd (two a b l ha hb))
    (λ (l : b ≤ a). ⊎_elim (λ (m : b < a). absurd (two b a m hb ha)) (λ (m : a ≤ b). omega arith) (below_or b a))
    (below_or a b)
  where
    two : (i j : ℕ) → i < j → In s i → In s j → ⊥
    two i j l hi hj = omega (arith, sum-two s (bit s) i j l (bit_in s j (below_pow s) hj), size-sum s s (omega arith))

pub size-some : (s b : ℕ) → In s b → 0 < size s
size-some s b h = omega (arith, sum_one s (bit s) b (bit_in s b (below_pow s) h), size-sum s s (omega arith))

only-size : (b : ℕ) → size (2 ^ b) ≡ 1
only-size b = size-single (2 ^ b) b (bit-one-same b) (λ a ne. bit-one-other b a (λ e. ne (sym e)))

-- a set with one bus more than another, which lacks it
pub one_more : (s t b : ℕ) → In t b → Out s b → ((a : ℕ) → (a ≡ b → ⊥) → bit t a ≡ bit s a) → size t ≡ suc (size s)
one_more s t b h o there =
    size-parts t s (2 ^ b)
    (λ a. ⊎_elim
    (λ (e : a ≡ b). subst⁻¹ (λ (x : ℕ). bit t x ≡ bit s x + bit (2 ^ b) x) e (omega (arith, bit-one-same b)))
    (λ (ne : a ≡ b → ⊥). omega (arith, there a ne, bit-one-other b a (λ e. ne (sym e))))
    (same_or a b))
    ∙ omega (arith, only-size b)

pub size-add : (s b : ℕ) → Out s b → size (add s b) ≡ suc (size s)
size-add s b o = one_more s (add s b) b (add-here s b) o (add-there s b)

pub size_less : (s b : ℕ) → In s b → size s ≡ suc (size (less s b))
size_less s b h = one_more (less s b) s b h (less-here s b) (λ a ne. sym (less-there s b a ne))

-- a set that holds another and is not larger is the same
pub size_same : (s t : ℕ) → Sub s t → size t ≤ size s → s ≡ t
size_same s t sub l = ext s t (λ b. omega (arith, gone b, lack-at t s b, sub b))
  where
    rest : size t ≡ size s + size (lack t s)
    rest = size-parts t s (lack t s) (λ b. omega (arith, lack-at t s b, sub b))

    gone : (b : ℕ) → Out (lack t s) b
    gone b = out_of (lack t s) b (λ h. let some : 0 < size (lack t s) = size-some (lack t s) b h in omega (arith, rest))

-- a set that holds another and is not the same is larger
pub size_lt : (s t : ℕ) → Sub s t → (t ≡ s → ⊥) → size s < size t
size_lt s t sub ne =
    ⊎_elim (λ (l : size s < size t). l) (λ (l : size t ≤ size s). absurd (ne (sym (size_same s t sub l)))) (below_or (size s) (size t))

-- ---- the buses 1 to n are n

pub size_double : (w : ℕ) → size (2 * w) ≡ size w
size_double w = ones_step (2 * w) ∙ omega (arith, ap ones (half w))
  where
    half : (w : ℕ) → 2 * w / 2 ≡ w
    half w = omega arith

pub size-most : (n s : ℕ) → Within n s → size s ≤ n
size-most n s h =
    let all = 2 * (2 ^ n - 1) in
    omega (arith, size-le s all (sub_of s all (λ b p. has b (h b p))), size_double (2 ^ n - 1), ones-ones n)
  where
    has : (b : ℕ) → Bus n b → In (2 * (2 ^ n - 1)) b
    has zero bus = absurd (omega (arith, bus.some))
    has (suc b) bus = bit_suc (2 * (2 ^ n - 1)) b ∙ ap (λ (x : ℕ). bit x b) (half (2 ^ n - 1)) ∙ bit_ones n b (omega (arith, bus.most))
      where
        half : (w : ℕ) → 2 * w / 2 ≡ w
        half w = omega arith
