-- The checks of validity: bus after bus, and at each bus neighbour after neighbour.
use mathlib.Core.Path.{◌≡◌, ap, ◌∙◌, subst, subst⁻¹}
use mathlib.Core.Bool.{Bool}
use mathlib.Core.Logic.{⊎_elim}
use Prim.Native.Nat.{ℕ, ◌+◌, ◌≤◌, ◌<◌}
use native.Mathlib.Omega.{arith}
use Rattle.basics.specs.Deciding.{Decides}
use Rattle.busset.specs.Sets.{Bus, bit, In, Out, Sub, Within, empty, set_of, Without}
use Rattle.basics.proofs.Tests.{below_or, decides-by}
use Rattle.busset.proofs.Digits.{bit-zero}
use Rattle.busset.proofs.Members.{without-of, without_sub}
use Rattle.rules.specs.Grids.{Line, line_count}
use Rattle.grid.specs.Limits.{most_buses, most_lines}
use Rattle.grid.specs.Rows.{neighbours}
use Rattle.grid.specs.Cases.{LinesAt, Lines, Valid}
use Rattle.grid.specs.Counting.{CountsAt}
use Rattle.grid.specs.declared.Case.{Case}
use Rattle.grid.proofs.Counting.{mirrored-alike, alike-mirrored}

-- ---- one line

-- ---- over the buses of a set: what is not left any more has been found to be P

pub record Checked (P : ℕ → Type 0) (s left : ℕ) : Type 0 where
  pub of : Sub left s
  pub each : (a : ℕ) → Out left a → In s a → P a

module _ {P : ℕ → Type 0} where
  pub checked_none : {s left : ℕ} → left ≡ s → Checked P s left
  checked_none {s} {left} e = record {
    of = λ a. omega (arith, ap (λ (t : ℕ). bit t a) e);
    each = λ a o h. absurd (omega (arith, ap (λ (t : ℕ). bit t a) e));
  }

  pub checked_more : {s left a rest : ℕ} → Checked P s left → P a → Without left a rest → Checked P s rest
  checked_more {s} {left} {a} {rest} c p w = record {
    of = λ i. omega (arith, without_sub w i, c.of i);
    each = without-of {P = λ i. In s i → P i} w (λ h. p) c.each;
  }

  pub checked_all : {s left : ℕ} → Checked P s left → left ≡ empty → (a : ℕ) → In s a → P a
  checked_all c e a h = c.each a (ap (λ (t : ℕ). bit t a) e ∙ bit-zero a) h

  -- one that is not P
  pub checked_fails : {s left a : ℕ} → Checked P s left → In left a → (P a → ⊥) → ((b : ℕ) → In s b → P b) → ⊥
  checked_fails {left = left} {a = a} c h lacks all = lacks (all a (omega (arith, c.of a)))

-- ---- over the buses below b

pub record CheckedBelow (P : ℕ → Type 0) (b : ℕ) : Type 0 where
  pub each : (a : ℕ) → a < b → P a

module _ {P : ℕ → Type 0} where
  pub below_first : P 0 → CheckedBelow P 1
  below_first p = record { each = λ a l. subst⁻¹ P (omega arith) p }

  pub below_next : {b : ℕ} → CheckedBelow P b → P b → CheckedBelow P (b + 1)
  below_next {b} c p = record {
    each = λ a m. ⊎_elim (λ (k : a < b). c.each a k) (λ (k : b ≤ a). subst⁻¹ P (omega arith) p) (below_or a b);
  }

  pub below_all : {b : ℕ} → CheckedBelow P b → ((a : ℕ) → b ≤ a → P a) → (a : ℕ) → P a
  below_all {b} c past a = ⊎_elim (λ (k : a < b). c.each a k) (λ (k : b ≤ a). past a k) (below_or a b)

-- a bus with no neighbour has no line to check
pub bare-lines : {n : ℕ} {nbr : ℕ → ℕ} {b : ℕ} → nbr b ≡ empty → LinesAt n nbr b
bare-lines e a h = absurd (omega (arith, ap (λ (s : ℕ). bit s a) e, bit-zero a))

-- ---- all the clauses of refusal 5

pub valid-counts : {c : Case} → Valid c → (b : ℕ) → CountsAt c.nbr b
valid-counts v b = record { joined = v.joined b; others = v.others b; mirrored = alike-mirrored (v.alike b) }

pub valid-test : {c : Case} {k : ℕ} {r : Bool} → Bus most_buses c.n → Within c.n (set_of c.zero) → Within c.n (set_of c.site)
    → Within c.n (set_of c.units)
    → Lines c.n (neighbours c.nbr) → ((b : ℕ) → CountsAt c.nbr b) → k ≡ line_count c.n (neighbours c.nbr)
    → Decides (k ≤ most_lines) r → Decides (Valid c) r
valid-test buses zeros sites units lines counts e d =
    decides-by
    (λ l. record {
      buses = buses;
      proper = record { lines = lines; zeros = zeros; sites = sites; units = units };
      few = omega (arith, e);
      joined = λ a. (counts a).joined;
      others = λ a. (counts a).others;
      alike = λ a b. mirrored-alike (counts a).mirrored (counts b).mirrored;
    })
    (λ v. let few = v.few in omega (arith, e)) d
