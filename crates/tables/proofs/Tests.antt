-- Tests of a grid that is written out, which the checker computes: each is a number that is 0 where it passes.
use mathlib.Core.Path.{◌≡◌, refl, sym, ap, ◌∙◌, subst, subst⁻¹}
use mathlib.Core.Logic.{⊎_elim}
use Prim.Native.Nat.{ℕ, zero, suc, ◌+◌, ◌-◌, ◌≤◌, ◌<◌, zero-le}
use native.Mathlib.Omega.{arith}
use Rattle.std.specs.Int.{abs_diff}
use Rattle.busset.specs.Sets.{Bus, bit, In, Out, Sub, Within, lack, up_to, size}
use Rattle.basics.proofs.Tests.{same_or, below_or}
use Rattle.busset.proofs.Digits.{ext}
use Rattle.busset.proofs.Members.{in_or, sub_of, empty_of, lack-at, up_to_in, up_to-out}
use Rattle.busset.proofs.Sizes.{size-empty, size-some, one_more}
use Rattle.rules.specs.Grids.{Grid, Proper, total}
use Rattle.rules.specs.Observation.{Closed}
use Rattle.rules.proofs.Firing.{fired-by}

-- ---- sums of tests over the buses

pub total-same : (n : ℕ) {f g : ℕ → ℕ} → ((b : ℕ) → f b ≡ g b) → total n f ≡ total n g
unfolding total
total-same zero e = refl
total-same (suc n) e = omega (arith, total-same n e, e (suc n))

total-more : (f : ℕ → ℕ) (n m : ℕ) → n ≤ m → total n f ≤ total m f
unfolding total
total-more f zero m l = zero-le
total-more f (suc n) zero l = absurd (omega arith)
total-more f (suc n) (suc m) l =
    ⊎_elim
    (λ (h : n < m). omega (arith, total-more f (suc n) m h))
    (λ (h : m ≤ n). let e : n ≡ m = omega arith in subst (λ (k : ℕ). total (suc n) f ≤ total (suc k) f) e (omega arith))
    (below_or n m)

-- what is 0 past m sums up to m
pub total-past : (f : ℕ → ℕ) (m n : ℕ) → ((b : ℕ) → m < b → f b ≡ 0) → total n f ≤ total m f
unfolding total
total-past f m zero z = zero-le
total-past f m (suc n) z =
    ⊎_elim (λ (l : m < suc n). omega (arith, total-past f m n z, z (suc n) l)) (λ (l : suc n ≤ m). total-more f (suc n) m l)
    (below_or m (suc n))

pub total-none : (n : ℕ) (f : ℕ → ℕ) → total n f ≡ 0 → (b : ℕ) → Bus n b → f b ≡ 0
unfolding total
total-none zero f e b h = absurd (let l = h.most in let m = h.some in omega arith)
total-none (suc n) f e b h =
    ⊎_elim
    (λ (l : b < suc n). total-none n f (omega arith) b (record { some = h.some; most = omega arith }))
    (λ (l : suc n ≤ b). let q : b ≡ suc n = let m = h.most in omega arith in omega (arith, ap f q))
    (below_or b (suc n))

-- two numbers that are not apart are the same
pub gap-none : (m n : ℕ) → abs_diff m n ≡ 0 → m ≡ n
gap-none m n e = omega arith

-- 1 at 1, and 0 elsewhere
unfoldable pub is_one : ℕ → ℕ
is_one n = 1 - abs_diff n 1

is_one_not : (n : ℕ) → is_one n ≡ 0 → n ≡ 1 → ⊥
unfolding is_one
is_one_not n e q = omega arith

-- ---- sets

-- the buses of s above x
unfoldable pub above : ℕ → ℕ → ℕ
above x s = lack s (up_to x s)

pub after_in : (x s b : ℕ) → x < b → bit (above x s) b ≡ bit s b
unfolding above
after_in x s b l = omega (arith, lack-at s (up_to x s) b, up_to-out x s b l)

pub after-out : (x s b : ℕ) → b ≤ x → Out (above x s) b
unfolding above
after-out x s b l = omega (arith, lack-at s (up_to x s) b, up_to_in x s b l)

-- the buses of s are 1 to n: there is none above n
unfoldable pub within_test : ℕ → ℕ → ℕ
within_test n s = size (above n s)

pub within_passes : (n s : ℕ) → Out s 0 → within_test n s ≡ 0 → Within n s
unfolding within_test
within_passes n s o e zero h = absurd (omega arith)
within_passes n s o e (suc b) h =
    ⊎_elim
    (λ (l : n < suc b). absurd (omega (arith, size-some (above n s) (suc b) (omega (arith, after_in n s (suc b) l)))))
    (λ (l : suc b ≤ n). record { some = omega arith; most = l })
    (below_or n (suc b))

-- how many buses of s are 1 to n
pub size-up_to : (n s : ℕ) → Out s 0 → size (up_to n s) ≡ total n (bit s)
unfolding total
size-up_to zero s o = ap size (empty_of (up_to zero s) none) ∙ size-empty
  where
    none : (b : ℕ) → Out (up_to zero s) b
    none zero = up_to_in zero s zero (omega arith) ∙ o
    none (suc b) = up_to-out zero s (suc b) (omega arith)
size-up_to (suc n) s o =
    ⊎_elim
    (λ (h : In s (suc n)). one_more (up_to n s) (up_to (suc n) s) (suc n) (up_to_in (suc n) s (suc n) (omega arith) ∙ h)
    (up_to-out n s (suc n) (omega arith)) there ∙ omega (arith, size-up_to n s o))
    (λ (h : Out s (suc n)). ap size (ext (up_to (suc n) s) (up_to n s) (λ b. ⊎_elim
    (λ (e : b ≡ suc n). subst⁻¹ (λ (x : ℕ). bit (up_to (suc n) s) x ≡ bit (up_to n s) x) e
    (up_to_in (suc n) s (suc n) (omega arith) ∙ h ∙ sym (up_to-out n s (suc n) (omega arith))))
    (λ (ne : b ≡ suc n → ⊥). there b ne)
    (same_or b (suc n)))) ∙ omega (arith, size-up_to n s o))
    (in_or s (suc n))
  where
    there : (b : ℕ) → (b ≡ suc n → ⊥) → bit (up_to (suc n) s) b ≡ bit (up_to n s) b
    there b ne =
        ⊎_elim
        (λ (l : n < b). up_to-out (suc n) s b (let d = above_it b l ne in omega arith) ∙ sym (up_to-out n s b l))
        (λ (l : b ≤ n). up_to_in (suc n) s b (omega arith) ∙ sym (up_to_in n s b l))
        (below_or n b)
      where
        above_it : (b : ℕ) → n < b → (b ≡ suc n → ⊥) → suc n < b
        above_it b l ne = omega arith

-- s has all of the buses m
unfoldable pub sub_test : ℕ → ℕ → ℕ → ℕ
sub_test n m s = total n (λ b. bit m b - bit s b)

pub sub_passes : (n m s : ℕ) → Within n m → sub_test n m s ≡ 0 → Sub m s
unfolding sub_test
sub_passes n m s w e = sub_of m s (λ b h. omega (arith, total-none n (λ b. bit m b - bit s b) e b (w b h)))

-- x at 0, y elsewhere
unfoldable pub pick : ℕ → ℕ → ℕ → ℕ
pick zero x y = x
pick (suc d) x y = y

-- x where d is not 0
abbrev pub given : ℕ → ℕ → ℕ
given d x = pick d 0 x

pub given_passes : (d x : ℕ) → 0 < d → given d x ≡ 0 → x ≡ 0
unfolding pick
given_passes zero x l e = absurd (omega arith)
given_passes (suc d) x l e = e

-- ---- what a step names

-- b is a bus 1 to n
abbrev pub bus_test : ℕ → ℕ → ℕ
bus_test n b = (1 - b) + (b - n)

pub bus_passes : (n b : ℕ) → bus_test n b ≡ 0 → Bus n b
bus_passes n b e = record { some = omega arith; most = omega arith }

pub total_pass : (n : ℕ) (f : ℕ → ℕ) → ((b : ℕ) → f b ≡ 0) → total n f ≡ 0
unfolding total
total_pass zero f h = refl
total_pass (suc n) f h = omega (arith, total_pass n f h, h (suc n))

-- ---- the two rules

-- s satisfies O1 and O2
unfoldable pub closed_test : Grid → ℕ → ℕ
closed_test g s =
    sub_test g.n g.units s + total g.n (λ b. given (bit g.units b) (sub_test g.n (g.neighbours b) s))
    + total g.n (λ w. given (bit g.zeros w) (given (bit s w) (is_one (size (lack (g.neighbours w) s)))))

pub closed_passes : (g : Grid) (s : ℕ) → Proper g → closed_test g s ≡ 0 → Closed g s
unfolding closed_test
closed_passes g s v e = record {
  direct = record {
    own = λ b h. omega (arith, sub_passes g.n g.units s v.units (omega arith) b);
    near = λ b h.
        sub_passes g.n (g.neighbours b) s (λ a j. (v.lines b a j).to)
        (given_passes (bit g.units b) (sub_test g.n (g.neighbours b) s) (omega arith)
        (total-none g.n (λ b. given (bit g.units b) (sub_test g.n (g.neighbours b) s)) (omega arith) b (v.units b h)));
  };
  zeros = record {
    o2 = λ w z o.
        let f : ℕ → ℕ = λ w. given (bit g.zeros w) (given (bit s w) (is_one (size (lack (g.neighbours w) s)))) in
        fired-by (g.neighbours w) s
        (is_one_not (size (lack (g.neighbours w) s))
        (given_passes (bit s w) (is_one (size (lack (g.neighbours w) s))) (omega arith)
        (given_passes (bit g.zeros w) (given (bit s w) (is_one (size (lack (g.neighbours w) s)))) (omega arith)
        (total-none g.n f (omega arith) w (v.zeros w z)))));
  };
}
