-- The counts of circuits by their digits: what the checks of the sets say of the counts.
use mathlib.Core.Path.{◌≡◌, sym, ap, ◌∙◌}
use mathlib.Core.Logic.{⊎_elim}
use Prim.Native.Nat.{ℕ, ◌+◌, ◌*◌, ◌<◌}
use native.Mathlib.Omega.{arith}
use Rattle.busset.specs.Sets.{bit, In, Out, empty, Union, Both}
use Rattle.busset.proofs.Digits.{bit-zero, ext}
use Rattle.busset.proofs.Members.{in_or, empty_of}
use Rattle.grid.specs.Rows.{bus_sets, Rows, set_at, neighbours, circuits}
use Rattle.grid.specs.Cases.{JoinedCounted, OthersUncounted, CountedAlike}
use Rattle.grid.specs.Counting.{DigitsMirrored, CountsAt}
use Rattle.grid.proofs.Rows.{row-set}

-- ---- counted: the highest digit stands alone, and the buses with a digit are the neighbours

-- the digits of bus b
pub record DigitSets (rows : Rows) (b one two three four : ℕ) : Type 0 where
  pub first : one ≡ set_at rows b 1
  pub second : two ≡ set_at rows b 2
  pub third : three ≡ set_at rows b 3
  pub fourth : four ≡ set_at rows b 4

pub digit_sets : {rows : Rows} {b one two three four : ℕ} → one ≡ set_at rows b 1 → two ≡ set_at rows b 2 → three ≡ set_at rows b 3
    → four ≡ set_at rows b 4 → DigitSets rows b one two three four
digit_sets first second third fourth = record { first = first; second = second; third = third; fourth = fourth }

module _ {rows : Rows} {b one two three four : ℕ} (q : DigitSets rows b one two three four) where
  count_is : (a : ℕ) → circuits rows b a ≡ bit one a + 2 * (bit two a + 2 * (bit three a + 2 * bit four a))
  unfolding circuits
  count_is a =
      let at : (s t : ℕ) → s ≡ t → bit s a ≡ bit t a = λ s t e. ap (λ (x : ℕ). bit x a) e in
      omega (arith, at _ _ q.first, at _ _ q.second, at _ _ q.third, at _ _ q.fourth)

  module _ {pairs low shared : ℕ} (u : Union one two pairs) (v : Union pairs three low) (w : Both low four shared) where
    pub counted_apart : JoinedCounted rows b → OthersUncounted rows b → shared ≡ empty
    counted_apart joined others =
        empty_of shared (λ a. ⊎_elim
        (λ (h : In (neighbours rows b) a). omega (arith, u.at a, v.at a, w.at a, count_is a, (joined a h).most))
        (λ (o : Out (neighbours rows b) a). omega (arith, u.at a, v.at a, w.at a, count_is a, others a o))
        (in_or (neighbours rows b) a))

    module _ {near all : ℕ} (row : near ≡ neighbours rows b) (x : Union low four all) where
      near_is : (a : ℕ) → bit near a ≡ bit (neighbours rows b) a
      near_is a = ap (λ (y : ℕ). bit y a) row

      pub counted_same : JoinedCounted rows b → OthersUncounted rows b → near ≡ all
      counted_same joined others =
          ext near all (λ a. ⊎_elim
          (λ (h : In (neighbours rows b) a).
          omega (arith, near_is a, u.at a, v.at a, x.at a, count_is a, (joined a h).some))
          (λ (o : Out (neighbours rows b) a). omega (arith, near_is a, u.at a, v.at a, x.at a, count_is a, others a o))
          (in_or (neighbours rows b) a))

      pub same_counted : shared ≡ empty → near ≡ all → JoinedCounted rows b × OthersUncounted rows b
      same_counted e f = (
        (λ a h. record {
          some = omega (arith, here a, near_is a, u.at a, v.at a, x.at a, count_is a);
          most = omega (arith, none a, u.at a, v.at a, w.at a, count_is a);
        }),
        (λ a o. omega (arith, here a, near_is a, u.at a, v.at a, x.at a, count_is a)),
      )
        where
          here : (a : ℕ) → bit near a ≡ bit all a
          here a = ap (λ (y : ℕ). bit y a) f

          none : (a : ℕ) → bit shared a ≡ 0
          none a = ap (λ (y : ℕ). bit y a) e ∙ bit-zero a

-- ---- alike from both ends: each digit is mirrored

both_ways : (s t x y : ℕ) → (In s x → In t y) → (In t y → In s x) → bit s x ≡ bit t y
both_ways s t x y to back =
    ⊎_elim (λ (h : In s x). h ∙ sym (to h))
    (λ (o : Out s x). ⊎_elim (λ (h : In t y). absurd (omega (arith, back h))) (λ (p : Out t y). o ∙ sym p) (in_or t y))
    (in_or s x)

pub mirrored-alike : {rows : Rows} {a b : ℕ} → DigitsMirrored rows a → DigitsMirrored rows b → circuits rows a b ≡ circuits rows b a
unfolding circuits
mirrored-alike {rows} {a} {b} p q =
    omega (
      arith,
      both_ways (set_at rows a 1) (set_at rows b 1) b a (p.first b) (q.first a),
      both_ways (set_at rows a 2) (set_at rows b 2) b a (p.second b) (q.second a),
      both_ways (set_at rows a 3) (set_at rows b 3) b a (p.third b) (q.third a),
      both_ways (set_at rows a 4) (set_at rows b 4) b a (p.fourth b) (q.fourth a),
    )

pub alike-mirrored : {rows : Rows} {a : ℕ} → CountedAlike rows a → DigitsMirrored rows a
unfolding circuits
alike-mirrored {rows} {a} p = record {
  first = λ b h. omega (arith, p b);
  second = λ b h. omega (arith, p b);
  third = λ b h. omega (arith, p b);
  fourth = λ b h. omega (arith, p b);
}

-- ---- a number whose sets are empty counts nothing

pub bare-counts : {rows : Rows} {b : ℕ} → ((i : ℕ) → i < bus_sets → set_at rows b i ≡ empty) → CountsAt rows b
unfolding circuits
bare-counts {rows} {b} none = record {
  joined = λ a h. absurd (omega (arith, ap (λ (s : ℕ). bit s a) (row-set rows b), out 0 (omega arith) a));
  others = λ a o. omega (arith, out 1 (omega arith) a, out 2 (omega arith) a, out 3 (omega arith) a, out 4 (omega arith) a);
  mirrored = record {
    first = λ a h. absurd (omega (arith, out 1 (omega arith) a));
    second = λ a h. absurd (omega (arith, out 2 (omega arith) a));
    third = λ a h. absurd (omega (arith, out 3 (omega arith) a));
    fourth = λ a h. absurd (omega (arith, out 4 (omega arith) a));
  };
}
  where
    out : (i : ℕ) → i < bus_sets → (a : ℕ) → Out (set_at rows b i) a
    out i l a = ap (λ (s : ℕ). bit s a) (none i l) ∙ bit-zero a
