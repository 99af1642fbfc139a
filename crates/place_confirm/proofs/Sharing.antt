-- Cross-validation, unit after unit: a unit that confirms the one at p stands within two lines of p.
use mathlib.Core.Path.{◌≡◌, sym, ap, ◌∙◌, subst}
use mathlib.Core.Bool.{Bool}
use Prim.Native.Nat.{ℕ}
use native.Mathlib.Omega.{arith}
use Rattle.basics.specs.Deciding.{Decides}
use Rattle.busset.specs.Sets.{bit, In, Out, Sub, empty, less, Both, Without}
use Rattle.basics.proofs.Tests.{decides-by}
use Rattle.busset.proofs.Digits.{bit-zero}
use Rattle.busset.proofs.Members.{out_of, sub_of, empty_of, less-here, less-there}
use Rattle.rules.specs.Confirming.{Confirm, joined, share, Unconfirmed}
use Rattle.grid.specs.Cases.{Lines}
use Rattle.grid.specs.Near.{WithNeighbours}

-- ---- one unit

module _ {n : ℕ} {nbr : ℕ → ℕ} {units p m near others both : ℕ}
    (lines : Lines n nbr) (unit : In units p) (e : m ≡ nbr p) (s : WithNeighbours nbr m near) (w : Without units p others)
    (h : Both near others both) where
  -- a bus next to p, or next to a neighbour of p, is near
  confirm_near : (a : ℕ) → Confirm nbr a p → In near a
  confirm_near a (joined j) = omega (arith, s.own a, ap (λ (s : ℕ). bit s a) e, (lines a p j).back)
  confirm_near a (share c j k) = omega (arith, s.near c (ap (λ (s : ℕ). bit s c) e ∙ k) a, (lines a c j).back)

  -- and no other bus is
  near_confirm : (a : ℕ) → (Confirm nbr a p → ⊥) → In near a → ⊥
  near_confirm a lone h = omega (arith, s.least (less near a) own next a, less-here near a)
    where
      kept : (b : ℕ) → In near b → (b ≡ a → ⊥) → In (less near a) b
      kept b i ne = less-there near a b ne ∙ i

      own : Sub m (less near a)
      own = sub_of m (less near a) (λ b i. kept b (omega (arith, s.own b))
          (λ q. lone (joined (lines p a (subst (λ (x : ℕ). In (nbr p) x) q (sym (ap (λ (s : ℕ). bit s b) e) ∙ i))).back)))

      next : (c : ℕ) → In m c → Sub (nbr c) (less near a)
      next c k = sub_of (nbr c) (less near a) (λ b i. kept b (omega (arith, s.near c k b))
          (λ q. lone (share c (lines c a (subst (λ (x : ℕ). In (nbr c) x) q i)).back (sym (ap (λ (s : ℕ). bit s c) e) ∙ k))))

  pub unconfirmed-test : {r : Bool} → Decides (both ≡ empty) r → Decides (Unconfirmed nbr units p) r
  unconfirmed-test d = decides-by there back d
    where
      there : both ≡ empty → Unconfirmed nbr units p
      there z = record {
        unit = unit;
        none = λ a u ne k. omega (arith, h.at a, w.there a ne, confirm_near a k, ap (λ (s : ℕ). bit s a) z, bit-zero a);
      }

      other : (a : ℕ) → In both a → a ≡ p → ⊥
      other a i q = omega (arith, h.at a, w.here, ap (λ (b : ℕ). bit others b) q)

      back : Unconfirmed nbr units p → both ≡ empty
      back lone = empty_of both (λ a. out_of both a (λ i.
          near_confirm a (lone.none a (omega (arith, h.at a, w.there a (other a i))) (other a i)) (omega (arith, h.at a))))

-- ---- unit after unit: alone is those that no other confirms, of the units that are not still to come

pub record Sifted (nbr : ℕ → ℕ) (units alone left : ℕ) : Type 0 where
  pub all : (b : ℕ) → Out left b → Unconfirmed nbr units b → In alone b
  pub only : (b : ℕ) → In alone b → Unconfirmed nbr units b

pub sifted-none : (nbr : ℕ → ℕ) (units : ℕ) {alone : ℕ} → alone ≡ empty → Sifted nbr units alone units
sifted-none nbr units {alone} e = record {
  all = λ b o u. absurd (omega (arith, u.unit));
  only = λ b h. absurd (omega (arith, ap (λ (s : ℕ). bit s b) e, bit-zero b));
}
