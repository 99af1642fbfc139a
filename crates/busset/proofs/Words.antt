-- The set that a word holds, and what each operation on the word does to it. Over any width k.
use Rattle.std.specs.Prelude.{nat_eq}
use mathlib.Core.Path.{◌≡◌, refl, sym, ap, ap₂, ◌∙◌, subst⁻¹}
use mathlib.Core.Bool.{Bool}
use mathlib.Core.Logic.{⊎_elim}
use Prim.Native.Nat.{ℕ, zero, suc, ◌+◌, ◌-◌, ◌*◌, ◌/◌, ◌%◌, ◌^◌, ◌≤◌, ◌<◌, max, min}
use native.Mathlib.Nat.{one-mul, mod-eq_of_lt, div-lt_iff_lt-mul, pow-suc}
use native.Mathlib.Numerals.{add-one}
use native.Mathlib.Omega.{arith}
use lib.Bits.{bit_and, bit_or, and_mask}
use lib.Count.{count_trailing_zeros, under, count_leading_zeros, leading_top}
use lib.Dec.{eqb}
use lib.Pow.{pow-lt, pow_pos, ones_lt}
use Rattle.busset.specs.Held.{SetWord, empty_word}
use Rattle.basics.specs.Deciding.{Decides}
use Rattle.busset.specs.Sets.{Bus, bit, In, Out, Sub, empty, size, set_of, Union, Both, Minus, With, Without, Lowest, Highest, All}
use Rattle.basics.proofs.Tests.{decides_eq, decides-by, below_or}
use Rattle.busset.proofs.Digits.{bit_suc, bit-low, bit-or, bit-and, and_not, bit_in}
use Rattle.busset.proofs.Digits.{bit-zero, bit_ones, bit-one-same, bit-one-other, half_lt}
use Rattle.busset.proofs.Members.{empty_of, out_of}
use Rattle.busset.proofs.Sizes.{one_more, size_double, size-most}

-- ---- the word and its set

-- bus 0 is in no word
pub set-zero : (w : ℕ) → Out (set_of w) 0
unfolding set_of
set-zero w = omega (arith, bit-low (2 * w))

-- bus i + 1 is bit i
pub set_suc : (w i : ℕ) → bit (set_of w) (suc i) ≡ bit w i
unfolding set_of
set_suc w i = bit_suc (2 * w) i ∙ ap (λ (x : ℕ). bit x i) (half w)
  where
    half : (w : ℕ) → 2 * w / 2 ≡ w
    half w = omega arith

pub set-at : (w b : ℕ) → 1 ≤ b → bit (set_of w) b ≡ bit w (b - 1)
set-at w zero l = absurd (omega arith)
set-at w (suc i) l = set_suc w i ∙ ap (bit w) (omega arith)

pub set_inj : (v w : ℕ) → set_of v ≡ set_of w → v ≡ w
unfolding set_of
set_inj v w e = omega arith

pub set-empty : set_of empty_word ≡ empty
unfolding set_of
set-empty = refl

pub empty-set : {w : SetWord} → w ≡ empty_word → set_of w ≡ empty
empty-set e = ap set_of e ∙ set-empty

-- a word of k bits holds buses 1 to k
pub set-bus : (k : ℕ) {w : ℕ} (b : ℕ) → w < 2 ^ k → In (set_of w) b → Bus k b
set-bus k {w} zero h p = absurd (omega (arith, set-zero w))
set-bus k {w} (suc i) h p = record { some = omega arith; most = bit_in k i h (sym (set_suc w i) ∙ p) }

-- so it holds at most k
pub set-size : (k : ℕ) {w : ℕ} → w < 2 ^ k → size (set_of w) ≤ k
set-size k {w} h = size-most k (set_of w) (λ b p. set-bus k b h p)

-- an equation of sets is one of words
pub decides-set : {r : Bool} (v w : ℕ) → Decides (v ≡ w) r → Decides (set_of v ≡ set_of w) r
decides-set v w d = decides-by (λ e. ap set_of e) (set_inj v w) d

-- and so `==` of two words
pub same-test : (v w : ℕ) {r : Bool} → r ≡ nat_eq v w → Decides (set_of v ≡ set_of w) r
same-test v w e = rw e (decides-set v w (decides_eq v w))

-- ---- the operations, digit by digit

-- an operation that gives 0 of bus 0, and of bus i + 1 what it gives of bit i
by_bit : (f : ℕ → ℕ → ℕ) (v w r : ℕ) → f 0 0 ≡ 0 → ((i : ℕ) → bit r i ≡ f (bit v i) (bit w i)) → (b : ℕ)
    → bit (set_of r) b ≡ f (bit (set_of v) b) (bit (set_of w) b)
by_bit f v w r z e zero = set-zero r ∙ sym z ∙ ap₂ f (sym (set-zero v)) (sym (set-zero w))
by_bit f v w r z e (suc i) = set_suc r i ∙ e i ∙ ap₂ f (sym (set_suc v i)) (sym (set_suc w i))

pub union_law : (v w : ℕ) → Union (set_of v) (set_of w) (set_of (bit_or v w))
union_law v w = record { at = by_bit max v w (bit_or v w) refl (bit-or v w) }

pub both_law : (v w : ℕ) → Both (set_of v) (set_of w) (set_of (bit_and v w))
both_law v w = record { at = by_bit min v w (bit_and v w) refl (bit-and v w) }

pub minus_law : (k : ℕ) {v w : ℕ} → v < 2 ^ k → w < 2 ^ k → Minus (set_of v) (set_of w) (set_of (bit_and v ((2 ^ k - 1) - w)))
minus_law k {v} {w} hv hw = record { at = by_bit ◌-◌ v w (bit_and v ((2 ^ k - 1) - w)) refl (and_not k hv hw) }

-- ---- tests

pub has_test : (w b : ℕ) → 1 ≤ b → Decides (In (set_of w) b) (eqb (bit_and (w / 2 ^ (b - 1)) 1) 1)
has_test w b l =
    let e = and_mask (w / 2 ^ (b - 1)) 1 in
    decides-by (λ q. set-at w b l ∙ sym e ∙ q) (λ p. e ∙ sym (set-at w b l) ∙ p) (decides_eq _ 1)

pub subset_test : (k : ℕ) {v w : ℕ} → v < 2 ^ k → w < 2 ^ k → Decides (Sub (set_of v) (set_of w)) (eqb (bit_and v ((2 ^ k - 1) - w)) 0)
subset_test k {v} {w} hv hw =
    let d = bit_and v ((2 ^ k - 1) - w) in
    let m = minus_law k hv hw in
    decides-by
    (λ e b. omega (arith, m.at b, ap (λ (x : ℕ). bit (set_of x) b) e, ap (λ (x : ℕ). bit x b) set-empty, bit-zero b))
    (λ sub. set_inj d 0 (empty_of (set_of d) (λ b. omega (arith, m.at b, sub b)) ∙ sym set-empty))
    (decides_eq d 0)

-- ---- one bus

one_shifted : (k i : ℕ) → i < k → (1 * 2 ^ i) % 2 ^ k ≡ 2 ^ i
one_shifted k i l = ap (λ (x : ℕ). x % 2 ^ k) (one-mul (2 ^ i)) ∙ mod-eq_of_lt (pow-lt l)

-- the word with bit b - 1 alone holds bus b
only_law : (b : ℕ) → 1 ≤ b → With empty b (set_of (2 ^ (b - 1)))
only_law b l = record {
  here = set-at (2 ^ (b - 1)) b l ∙ bit-one-same (b - 1);
  there = λ a ne. other a ne ∙ sym (bit-zero a);
}
  where
    other : (a : ℕ) → (a ≡ b → ⊥) → Out (set_of (2 ^ (b - 1))) a
    other zero ne = set-zero (2 ^ (b - 1))
    other (suc i) ne = set_suc (2 ^ (b - 1)) i ∙ bit-one-other (b - 1) i (λ e. ne (omega arith))

pub with_law : (k w : ℕ) {b : ℕ} → Bus k b → With (set_of w) b (set_of (bit_or w ((1 * 2 ^ (b - 1)) % 2 ^ k)))
with_law k w {b} bus =
    let o = only_law b bus.some in
    let u = union_law w (2 ^ (b - 1)) in
    subst⁻¹ (λ (x : ℕ). With (set_of w) b (set_of (bit_or w x))) (one_shifted k (b - 1) (omega (arith, bus.some, bus.most)))
    (record {
      here = omega (arith, u.at b, o.here);
      there = λ a ne. omega (arith, u.at a, o.there a ne, bit-zero a);
    })

pub without_law : {s b z o r : ℕ} → z ≡ empty → With z b o → Minus s o r → Without s b r
without_law {s} {b} {z} {o} {r} e w m = record {
  here = omega (arith, m.at b, w.here);
  there = there;
  fewer = λ h. one_more r s b h (omega (arith, m.at b, w.here)) (λ a ne. sym (there a ne));
}
  where
    there : (a : ℕ) → (a ≡ b → ⊥) → bit r a ≡ bit s a
    there a ne = omega (arith, m.at a, w.there a ne, ap (λ (x : ℕ). bit x a) e, bit-zero a)

-- ---- the lowest bus

-- the digit at t is the lowest of w that is 1
record Low (w t : ℕ) : Type 0 where
  has : In w t
  below : (j : ℕ) → j < t → Out w j

low_digit : (k w : ℕ) → 0 < w → w < 2 ^ k → Low w (count_trailing_zeros k w)
unfolding count_trailing_zeros
low_digit zero w p h = absurd (omega (arith, h))
low_digit (suc k) w p h = go (w % 2) refl (λ q. low_digit k (w / 2) q (half_lt k h))
  where
    go : (r : ℕ) → w % 2 ≡ r → (0 < w / 2 → Low (w / 2) (count_trailing_zeros k (w / 2))) → Low w (under r (count_trailing_zeros k (w / 2)))
    go zero e ih =
        let l = ih (omega arith) in
        record { has = bit_suc w (count_trailing_zeros k (w / 2)) ∙ l.has; below = under_it l }
      where
        under_it : Low (w / 2) (count_trailing_zeros k (w / 2)) → (j : ℕ) → j < suc (count_trailing_zeros k (w / 2)) → Out w j
        under_it l zero m = bit-low w ∙ e
        under_it l (suc j) m = bit_suc w j ∙ l.below j (omega arith)
    go (suc zero) e ih = record { has = bit-low w ∙ e; below = λ j l. absurd (omega arith) }
    go (suc (suc r)) e ih = absurd (omega arith)

-- a word whose set is not empty is not 0
some_word : (w : ℕ) → (set_of w ≡ empty → ⊥) → 0 < w
some_word zero n = absurd (n set-empty)
some_word (suc v) n = omega arith

pub lowest_law : (k w : ℕ) → (set_of w ≡ empty → ⊥) → w < 2 ^ k → Lowest k (set_of w) (count_trailing_zeros k w + 1)
lowest_law k w ne h =
    let t = count_trailing_zeros k w in
    let l = low_digit k w (some_word w ne) h in
    subst⁻¹ (Lowest k (set_of w)) (add-one t)
    (record { has = set_suc w t ∙ l.has; below = below l; bus = set-bus k (suc t) h (set_suc w t ∙ l.has) })
  where
    below : Low w (count_trailing_zeros k w) → (a : ℕ) → a < suc (count_trailing_zeros k w) → Out (set_of w) a
    below l zero m = set-zero w
    below l (suc j) m = set_suc w j ∙ l.below j (omega arith)

-- ---- the highest bus

-- the digit at j of a number from 2 ^ j to below 2 ^ (j + 1)
top_digit : (w j : ℕ) → 2 ^ j ≤ w → w < 2 ^ suc j → In w j
top_digit w j low high =
    let two = (div-lt_iff_lt-mul {k = 2 ^ j} {x = w} {y = 2} (pow_pos j)).1 (omega (arith, pow-suc 2 j)) in
    ⊎_elim
    (λ (l : w / 2 ^ j < 1). absurd (omega (arith, (div-lt_iff_lt-mul {k = 2 ^ j} {x = w} {y = 1} (pow_pos j)).0 l)))
    (λ (l : 1 ≤ w / 2 ^ j). omega arith)
    (below_or (w / 2 ^ j) 1)

pub highest_law : (k w : ℕ) → (set_of w ≡ empty → ⊥) → w < 2 ^ k → Highest k (set_of w) (k - count_leading_zeros k w)
highest_law k w ne h =
    let t = leading_top k w (some_word w ne) h in
    let has = set_suc w t.0 ∙ top_digit w t.0 t.2 t.3 in
    subst⁻¹ (Highest k (set_of w)) (omega (arith, t.1))
    (record {
      has = has;
      above = λ a l. out_of (set_of w) a (λ i. omega (arith, (set-bus (suc t.0) a t.3 i).most));
      bus = set-bus k (suc t.0) h has;
    })

-- ---- the buses 1 to n

pub all_law : (n : ℕ) → All n (set_of (2 ^ n - 1))
all_law n = record {
  has = λ b bus. set-at (2 ^ n - 1) b bus.some ∙ bit_ones n (b - 1) (omega (arith, bus.some, bus.most));
  only = λ b p. set-bus n b (ones_lt n) p;
}

-- the machine's ones, shifted from 1
pub all_shifted : (k n : ℕ) → n < k → All n (set_of ((1 * 2 ^ n) % 2 ^ k - 1))
all_shifted k n l = subst⁻¹ (λ (x : ℕ). All n (set_of (x - 1))) (one_shifted k n l) (all_law n)

pub shifted_some : (k n : ℕ) → n < k → 1 ≤ (1 * 2 ^ n) % 2 ^ k
shifted_some k n l = subst⁻¹ (λ (x : ℕ). 1 ≤ x) (one_shifted k n l) (pow_pos n)

-- ---- the count

pub count_law : (w : ℕ) → size w ≡ size (set_of w)
unfolding set_of
count_law w = sym (size_double w)
