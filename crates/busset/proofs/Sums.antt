-- Sums of f over the numbers below k, and the count of a number's ones as the sum of its digits.
use mathlib.Core.Path.{◌≡◌, refl, sym, ap, ap₂, ◌∙◌, subst}
use mathlib.Core.Logic.{⊎_elim}
use Prim.Native.Nat.{ℕ, zero, suc, ◌+◌, ◌/◌, ◌%◌, ◌^◌, ◌≤◌, ◌<◌, zero-le}
use native.Mathlib.Nat.{mod-lt, le_antisymm, add_comm, mod-eq_of_lt}
use native.Mathlib.Numerals.{one-add}
use native.Mathlib.Omega.{arith}
use lib.Arith.{lt-one}
use lib.Pow.{pow_pos, shr_lt, split}
use lib.Count.{ones, ones_cat}
use Rattle.busset.specs.Sets.{bit}
use Rattle.basics.proofs.Tests.{below_or}
use Rattle.busset.proofs.Digits.{bit_mod}

-- the sum of f below k
unfoldable pub sum : ℕ → (ℕ → ℕ) → ℕ
sum zero f = 0
sum (suc k) f = sum k f + f k

pub sum-le : (k : ℕ) {f g : ℕ → ℕ} → ((i : ℕ) → i < k → f i ≤ g i) → sum k f ≤ sum k g
unfolding sum
sum-le zero h = zero-le
sum-le (suc k) h = omega (arith, sum-le k (λ i l. h i (omega arith)), h k (omega arith))

pub sum_ap : (k : ℕ) {f g : ℕ → ℕ} → ((i : ℕ) → i < k → f i ≡ g i) → sum k f ≡ sum k g
sum_ap k h = le_antisymm (sum-le k (λ i l. omega (arith, h i l))) (sum-le k (λ i l. omega (arith, h i l)))

pub sum_plus : (k : ℕ) (f g : ℕ → ℕ) → sum k (λ i. f i + g i) ≡ sum k f + sum k g
unfolding sum
sum_plus zero f g = refl
sum_plus (suc k) f g = omega (arith, sum_plus k f g)

pub sum_one : (k : ℕ) (f : ℕ → ℕ) (i : ℕ) → i < k → f i ≤ sum k f
unfolding sum
sum_one zero f i h = absurd (omega arith)
sum_one (suc k) f i h =
    ⊎_elim (λ (l : i < k). omega (arith, sum_one k f i l)) (λ (l : k ≤ i). let e : i ≡ k = omega arith in omega (arith, ap f e))
    (below_or i k)

pub sum-two : (k : ℕ) (f : ℕ → ℕ) (i j : ℕ) → i < j → j < k → f i + f j ≤ sum k f
unfolding sum
sum-two zero f i j l h = absurd (omega arith)
sum-two (suc k) f i j l h =
    ⊎_elim
    (λ (l' : j < k). omega (arith, sum-two k f i j l l'))
    (λ (l' : k ≤ j). let e : j ≡ k = omega arith in omega (arith, sum_one k f i (omega arith), ap f e))
    (below_or j k)

pub sum-none : (k : ℕ) {f : ℕ → ℕ} → ((i : ℕ) → i < k → f i ≡ 0) → sum k f ≡ 0
unfolding sum
sum-none zero h = refl
sum-none (suc k) h = omega (arith, sum-none k (λ i l. h i (omega arith)), h k (omega arith))

pub sum-single : (k : ℕ) (f : ℕ → ℕ) (t : ℕ) → t < k → f t ≡ 1 → ((i : ℕ) → (i ≡ t → ⊥) → f i ≡ 0) → sum k f ≡ 1
unfolding sum
sum-single zero f t l h e = absurd (omega arith)
sum-single (suc k) f t l h e =
    ⊎_elim
    (λ (l' : t < k). omega (arith, sum-single k f t l' h e, e k (λ q. omega arith)))
    (λ (l' : k ≤ t). let q : t ≡ k = omega arith in omega (arith, sum-none k {f = f} (λ i m. e i (λ p. omega arith)), ap f q))
    (below_or t k)

-- ---- the count of ones

ones_small : (d : ℕ) → d < 2 → ones d ≡ d
unfolding ones
ones_small zero h = refl
ones_small (suc zero) h = refl
ones_small (suc (suc d)) h = absurd (omega arith)

pub ones_sum : (k s : ℕ) → s < 2 ^ k → ones s ≡ sum k (bit s)
unfolding ones sum
ones_sum zero s h = ap ones (lt-one h)
ones_sum (suc k) s h =
    let top : s / 2 ^ k < 2 = shr_lt 1 k (subst (λ (x : ℕ). s < 2 ^ x) (sym (one-add k)) h) in
    let lo = mod-lt s (pow_pos k) in
    ap ones (sym (split s k)) ∙ ones_cat k (s / 2 ^ k) (s % 2 ^ k) lo
    ∙ ap₂ (λ (x y : ℕ). x + y) (ones_small (s / 2 ^ k) top ∙ sym (mod-eq_of_lt top))
    (ones_sum k (s % 2 ^ k) lo ∙ sum_ap k (λ i l. bit_mod k s i l))
    ∙ add_comm (bit s k) (sum k (bit s))
