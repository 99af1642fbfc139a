-- Sets of listed buses: that of all, and what is said of every bus from those up to n.
use mathlib.Core.Logic.{⊎_elim}
use mathlib.Core.Path.{◌≡◌, sym, ap, ap₂, ◌∙◌, subst⁻¹}
use Prim.Native.Nat.{ℕ, zero, suc, ◌≤◌, ◌<◌}
use native.Mathlib.Omega.{arith}
use Rattle.std.specs.Int.{abs_diff}
use Rattle.busset.specs.Sets.{Bus, bit, In, Within, size, All}
use Rattle.basics.proofs.Tests.{same_or, below_or}
use Rattle.busset.proofs.Digits.{bit-zero}
use Rattle.busset.proofs.Words.{set-empty}
use Rattle.busset.proofs.Sizes.{size-empty, size-add}
use Rattle.busset.proofs.Members.{out_of}
use Rattle.busset.proofs.Holding.{set-hold, hold-here, hold-there}
use Rattle.rules.specs.Grids.{total}
use Rattle.tables.proofs.Tests.{total-none}
use Rattle.tables.specs.Starred.{word_with, buses_to}
use Rattle.tables.specs.Drawings.{set}

-- it has the buses 1 to n, and no other
pub all-buses : (n : ℕ) → All n (set (buses_to n))
all-buses zero = record {
  has = λ b h. absurd (omega (arith, h.some, h.most));
  only = λ b h. absurd (omega (arith, ap (λ (s : ℕ). bit s b) set-empty, bit-zero b));
}
all-buses (suc n) = record {
  has = λ b h. ⊎_elim
      (λ (e : b ≡ suc n). subst⁻¹ (In (set (buses_to (suc n)))) e (hold-here (word_with (buses_to n)) (suc n) (omega arith)))
      (λ (ne : b ≡ suc n → ⊥). hold-there (word_with (buses_to n)) (suc n) b (omega arith) ne
      ∙ (all-buses n).has b (record { some = h.some; most = let l = h.most in let d = differ b n ne l in omega arith }))
      (same_or b (suc n));
  only = λ b h. ⊎_elim
      (λ (e : b ≡ suc n). record { some = omega arith; most = omega arith })
      (λ (ne : b ≡ suc n → ⊥). let l = (all-buses n).only b (sym (hold-there (word_with (buses_to n)) (suc n) b (omega arith) ne) ∙ h) in
      record { some = l.some; most = let m = l.most in omega arith })
      (same_or b (suc n));
}
  where
    differ : (b n : ℕ) → (b ≡ suc n → ⊥) → b ≤ suc n → b ≤ n
    differ b n ne l = omega arith

-- they are n
pub size-buses : (n : ℕ) → size (set (buses_to n)) ≡ n
size-buses zero = ap size set-empty ∙ size-empty
size-buses (suc n) =
    ap size (set-hold (word_with (buses_to n)) (suc n) (omega arith))
    ∙ size-add (set (buses_to n)) (suc n) (out_of (set (buses_to n)) (suc n) (λ h. omega (arith, ((all-buses n).only (suc n) h).most)))
    ∙ ap suc (size-buses n)

-- an operation that gives 0 of two digits 0, where all buses are 1 to n: its digit at every bus, from those at 1 to n
module _ (n : ℕ) (f : ℕ → ℕ → ℕ) (s t r : ℕ) (none : f 0 0 ≡ 0) (ws : Within n s) (wt : Within n t) (wr : Within n r)
    (same : total n (λ b. abs_diff (bit r b) (f (bit s b) (bit t b))) ≡ 0) where
  outside : (b : ℕ) → (Bus n b → ⊥) → bit r b ≡ f (bit s b) (bit t b)
  outside b off =
      out_of r b (λ h. off (wr b h)) ∙ sym none ∙ ap₂ f (sym (out_of s b (λ h. off (ws b h)))) (sym (out_of t b (λ h. off (wt b h))))

  pub by_bus : (b : ℕ) → bit r b ≡ f (bit s b) (bit t b)
  by_bus zero = outside zero (λ h. omega (arith, h.some))
  by_bus (suc b) =
      ⊎_elim
      (λ (l : n < suc b). outside (suc b) (λ h. omega (arith, h.most)))
      (λ (l : suc b ≤ n). omega (
        arith,
        total-none n (λ b. abs_diff (bit r b) (f (bit s b) (bit t b))) same (suc b) (record { some = omega arith; most = l }),
      ))
      (below_or n (suc b))
