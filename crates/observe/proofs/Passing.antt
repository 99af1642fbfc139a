-- The passes, over the Z buses that are left: how a turn keeps what they promise, and how they end in the observed set.
use mathlib.Core.Path.{◌≡◌, sym, ap, ◌∙◌, subst}
use Prim.Native.Nat.{ℕ}
use native.Mathlib.Omega.{arith}
use Rattle.busset.specs.Sets.{bit, In, Out, Sub, Without}
use Rattle.busset.proofs.Digits.{ext}
use Rattle.busset.proofs.Members.{without-of, without_sub}
use Rattle.rules.specs.Observation.{Fired, ZeroRules}
use Rattle.observe.specs.Passes.{Fires}

-- ---- a sweep of O2, Z bus after Z bus

pub record Sweeping (nbr : ℕ → ℕ) (zeros s r left : ℕ) : Type 0 where
  pub zero : Sub left zeros
  pub seen : Sub left s
  pub grows : Sub s r
  pub sound : (t : ℕ) → Sub s t → ZeroRules nbr zeros t → Sub r t
  pub settled : r ≡ s → (w : ℕ) → Out left w → In zeros w → In s w → Fired (nbr w) s

pub sweeping-more : {nbr : ℕ → ℕ} {zeros s r left w m r' rest : ℕ} → Sweeping nbr zeros s r left → In left w → m ≡ nbr w → Fires m r r'
    → Without left w rest → Sweeping nbr zeros s r' rest
sweeping-more {nbr} {zeros} {s} {r} {left} {w} {m} {r'} {rest} inv here e f o = record {
  zero = λ b. omega (arith, without_sub o b, inv.zero b);
  seen = λ b. omega (arith, without_sub o b, inv.seen b);
  grows = λ b. omega (arith, inv.grows b, f.grows b);
  sound =
      λ t sub full. f.sound t (inv.sound t sub full)
      (subst (λ (x : ℕ). Fired x t) (sym e) (full.o2 w (omega (arith, inv.zero w)) (omega (arith, inv.seen w, sub w))));
  settled = λ q. still q (ext r s (λ b. omega (arith, inv.grows b, f.grows b, ap (λ (x : ℕ). bit x b) q)));
}
  where
    -- neither this turn nor those before it changed anything, if nothing changed over all of them
    still : r' ≡ s → r ≡ s → (v : ℕ) → Out rest v → In zeros v → In s v → Fired (nbr v) s
    still q p =
        without-of {P = λ v. In zeros v → In s v → Fired (nbr v) s} o
        (λ hz hs. subst (λ (x : ℕ). Fired x s) e (subst (Fired m) p (f.settled (q ∙ sym p)))) (λ v. inv.settled p v)

-- ---- sweep after sweep

-- t holds s, and no more than Z buses give
pub record Spreading (nbr : ℕ → ℕ) (zeros s t : ℕ) : Type 0 where
  pub grows : Sub s t
  pub sound : (v : ℕ) → Sub s v → ZeroRules nbr zeros v → Sub t v

-- ---- from what the units give by O1
