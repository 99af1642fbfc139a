-- The digits of a number: of the three operations, of a power of two, of a remainder, and that they determine the number. Over any width k.
use mathlib.Core.Path.{◌≡◌, refl, sym, ap, ◌∙◌, subst}
use mathlib.Core.Logic.{⊎_elim}
use Prim.Native.Nat.{ℕ, zero, suc, ◌+◌, ◌-◌, ◌*◌, ◌/◌, ◌%◌, ◌^◌, ◌≤◌, ◌<◌, min, max}
use native.Mathlib.Nat.{div-eq_of_lt, zero-div, div-one, div_self, lt_of_lt_of_le, le_refl, pow-suc, mul-mod_left, mod-eq_of_lt, mod-lt}
use native.Mathlib.Numerals.{add-one, one-add}
use native.Mathlib.Omega.{arith}
use lib.Arith.{digits_mod, digits_div, lt-one}
use lib.Pow.{field, mod-mod-pow, pow_pos, pow_mono, pow-lt, pow-add, high, ones_split, shr-shr, shr_lt, ones_lt, shl-shr}
use lib.Bits.{bit_and, bit_or, and_step, or_step, and_shr, or_shr, and_mask, and_le_l, and_comm}
use Rattle.busset.specs.Sets.{bit}
use Rattle.basics.proofs.Tests.{below_or}

-- ---- the lowest digit and the rest

pub bit-low : (a : ℕ) → bit a 0 ≡ a % 2
bit-low a = ap (λ (x : ℕ). x % 2) (div-one a)

pub bit_suc : (a i : ℕ) → bit a (suc i) ≡ bit (a / 2) i
bit_suc a i = ap (λ (n : ℕ). a / 2 ^ n % 2) (sym (one-add i)) ∙ ap (λ (x : ℕ). x % 2) (sym (shr-shr a 1 i))

pub half_lt : (k : ℕ) {n : ℕ} → n < 2 ^ suc k → n / 2 < 2 ^ k
half_lt k {n} h = shr_lt k 1 (subst (λ (x : ℕ). n < 2 ^ x) (sym (add-one k)) h)

-- ---- the operations

or_odd : (a b : ℕ) → bit_or a b % 2 ≡ max (a % 2) (b % 2)
or_odd a b = ap (λ (x : ℕ). x % 2) (or_step a b) ∙ digits_mod (bit_or (a / 2) (b / 2)) (omega arith)

and_odd : (a b : ℕ) → bit_and a b % 2 ≡ min (a % 2) (b % 2)
and_odd a b = ap (λ (x : ℕ). x % 2) (and_step a b) ∙ digits_mod (bit_and (a / 2) (b / 2)) (omega arith)

pub bit-or : (a b i : ℕ) → bit (bit_or a b) i ≡ max (bit a i) (bit b i)
bit-or a b i = ap (λ (x : ℕ). x % 2) (or_shr a b i) ∙ or_odd (a / 2 ^ i) (b / 2 ^ i)

pub bit-and : (a b i : ℕ) → bit (bit_and a b) i ≡ min (bit a i) (bit b i)
bit-and a b i = ap (λ (x : ℕ). x % 2) (and_shr a b i) ∙ and_odd (a / 2 ^ i) (b / 2 ^ i)

-- a number less what it shares with another
less-step : (a b : ℕ) → a - bit_and a b ≡ (a / 2 - bit_and (a / 2) (b / 2)) * 2 + (a % 2 - b % 2)
less-step a b = go (a / 2) (bit_and (a / 2) (b / 2)) refl (and_le_l (a / 2) (b / 2)) (and_step a b)
  where
    go : (h q : ℕ) → h ≡ a / 2 → q ≤ h → bit_and a b ≡ q * 2 + min (a % 2) (b % 2) → a - bit_and a b ≡ (h - q) * 2 + (a % 2 - b % 2)
    go h q d l e = omega arith

pub bit-less : (a b i : ℕ) → bit (a - bit_and a b) i ≡ bit a i - bit b i
bit-less a b zero =
    bit-low (a - bit_and a b) ∙ ap (λ (x : ℕ). x % 2) (less-step a b) ∙ digits_mod (a / 2 - bit_and (a / 2) (b / 2)) (omega arith)
    ∙ omega (arith, bit-low a, bit-low b)
bit-less a b (suc i) =
    bit_suc (a - bit_and a b) i ∙ ap (λ (x : ℕ). bit (x / 2) i) (less-step a b)
    ∙ ap (λ (x : ℕ). bit x i) (digits_div (a / 2 - bit_and (a / 2) (b / 2)) (omega arith)) ∙ bit-less (a / 2) (b / 2) i
    ∙ omega (arith, bit_suc a i, bit_suc b i)

-- ---- outside the width

pub bit-out : (k : ℕ) {a : ℕ} (i : ℕ) → a < 2 ^ k → k ≤ i → bit a i ≡ 0
bit-out k i h l = ap (λ (x : ℕ). x % 2) (div-eq_of_lt (lt_of_lt_of_le h (pow_mono l)))

pub bit_in : (k : ℕ) {a : ℕ} (i : ℕ) → a < 2 ^ k → bit a i ≡ 1 → i < k
bit_in k i h e = ⊎_elim (λ l. l) (λ g. absurd (omega (arith, bit-out k i h g))) (below_or i k)

pub bit-zero : (i : ℕ) → bit 0 i ≡ 0
bit-zero i = ap (λ (x : ℕ). x % 2) (zero-div (2 ^ i))

-- the k low digits are those of the number
pub bit_mod : (k s i : ℕ) → i < k → bit (s % 2 ^ k) i ≡ bit s i
bit_mod k s i h =
    let j = k - suc i in
    let e : k ≡ (j + 1) + i = omega arith in
    ap (λ (x : ℕ). s % 2 ^ x / 2 ^ i % 2) e ∙ ap (λ (x : ℕ). x % 2) (field s (j + 1) i) ∙ mod-mod-pow (s / 2 ^ i) j 1

pub bit_mod_out : (k s i : ℕ) → k ≤ i → bit (s % 2 ^ k) i ≡ 0
bit_mod_out k s i l = bit-out k i (mod-lt s (pow_pos k)) l

-- ---- all ones, and the complement within the width

odd_ones : (j : ℕ) → (2 ^ suc j - 1) % 2 ≡ 1
odd_ones j = ap (λ (x : ℕ). (x - 1) % 2) (pow-suc 2 j) ∙ omega (arith, pow_pos j)

pub bit_ones : (k i : ℕ) → i < k → bit (2 ^ k - 1) i ≡ 1
bit_ones k i h =
    let j = k - suc i in
    let e : k ≡ suc j + i = omega arith in
    ap (λ (x : ℕ). (2 ^ x - 1) / 2 ^ i % 2) e ∙ ap (λ (x : ℕ). x / 2 ^ i % 2) (ones_split (suc j) i)
    ∙ ap (λ (x : ℕ). x % 2) (high (2 ^ suc j - 1) i (ones_lt i)) ∙ odd_ones j

-- within the width the complement is what is left of all ones
pub and_not : (k : ℕ) {a b : ℕ} → a < 2 ^ k → b < 2 ^ k → (i : ℕ) → bit (bit_and a ((2 ^ k - 1) - b)) i ≡ bit a i - bit b i
and_not k {a} {b} ha hb i =
    ⊎_elim
    (λ (l : i < k). omega (arith, bit-and a ((2 ^ k - 1) - b) i, not_at l))
    (λ (l : k ≤ i). omega (arith, bit-and a ((2 ^ k - 1) - b) i, bit-out k i ha l))
    (below_or i k)
  where
    shared : bit_and (2 ^ k - 1) b ≡ b
    shared = and_mask_left b k ∙ mod-eq_of_lt hb
      where
        and_mask_left : (n k : ℕ) → bit_and (2 ^ k - 1) n ≡ n % 2 ^ k
        and_mask_left n k = and_comm (2 ^ k - 1) n ∙ and_mask n k

    not_at : i < k → bit ((2 ^ k - 1) - b) i ≡ 1 - bit b i
    not_at l = ap (λ (x : ℕ). bit ((2 ^ k - 1) - x) i) (sym shared) ∙ omega (arith, bit-less (2 ^ k - 1) b i, bit_ones k i l)

-- ---- one element

pub bit-one-same : (i : ℕ) → bit (2 ^ i) i ≡ 1
bit-one-same i = ap (λ (x : ℕ). x % 2) (div_self (pow_pos i))

pub bit-one-other : (i j : ℕ) → (i ≡ j → ⊥) → bit (2 ^ i) j ≡ 0
bit-one-other i j ne = ⊎_elim (λ (l : i < j). bit-out j j (pow-lt l) (le_refl j)) above (below_or i j)
  where
    above : j ≤ i → bit (2 ^ i) j ≡ 0
    above l =
        let d = i - suc j in
        let e : i ≡ suc d + j = omega arith in
        ap (λ (x : ℕ). 2 ^ x / 2 ^ j % 2) e ∙ ap (λ (x : ℕ). x / 2 ^ j % 2) (pow-add 2 (suc d) j)
        ∙ ap (λ (x : ℕ). x % 2) (shl-shr (2 ^ suc d) j) ∙ ap (λ (x : ℕ). x % 2) (pow-suc 2 d) ∙ mul-mod_left (2 ^ d) 2

-- ---- the digits determine the number

pub below_pow : (n : ℕ) → n < 2 ^ n
below_pow zero = omega arith
below_pow (suc n) = subst (λ (x : ℕ). suc n < x) (sym (pow-suc 2 n)) (omega (arith, below_pow n))

within : (k : ℕ) {a b : ℕ} → a < 2 ^ k → b < 2 ^ k → ((i : ℕ) → bit a i ≡ bit b i) → a ≡ b
within zero ha hb e = lt-one ha ∙ sym (lt-one hb)
within (suc k) {a} {b} ha hb e =
    let rest : a / 2 ≡ b / 2 =
    within k (half_lt k ha) (half_lt k hb) (λ i. sym (bit_suc a i) ∙ e (suc i) ∙ bit_suc b i) in
    omega (arith, e 0, bit-low a, bit-low b)

pub ext : (a b : ℕ) → ((i : ℕ) → bit a i ≡ bit b i) → a ≡ b
ext a b e =
    within (a + b) (lt_of_lt_of_le (below_pow a) (pow_mono (omega arith))) (lt_of_lt_of_le (below_pow b) (pow_mono (omega arith))) e
