-- The firing figure of a bus towards a neighbour: 1 or 0, less the other neighbours that are not observed.
-- So on k + 2 buses it runs from -k
-- to 1, and it is 1 exactly when the bus and all its other neighbours are observed.
use mathlib.Core.Path.{◌≡◌, refl, sym, ap, ◌∙◌, subst⁻¹}
use mathlib.Core.Logic.{⊎_elim}
use Prim.Native.Nat.{ℕ, zero, suc, ◌+◌, ◌≤◌}
use native.Mathlib.Numerals.{one-add}
use native.Mathlib.Omega.{arith}
use lib.Dec.{le→leb}
use lib.IntN.{ℤ, pos, neg_ℤ, ◌+ℤ◌, ◌-ℤ◌, +ℤ_assoc, +ℤ_comm, +ℤ_idl, +ℤ_invr, neg_ℤ-+ℤ, pos-+ℤ-pos}
use lib.Signed.{◌≤ℤ◌}
use Rattle.busset.specs.Sets.{Bus, bit, In, Out, Within, add, size, less, meet, lack}
use Rattle.basics.proofs.Tests.{same_or}
use Rattle.busset.proofs.Members.{in_or, out_of, add-of, add-there, less-here, less-there, lack-at, meet-at, empty_of}
use Rattle.busset.proofs.Sizes.{size-empty, size_less, size-parts, size-most, size-some, size-add}
use Rattle.rules.specs.Grids.{Grid, Line, Proper}
use Rattle.rules.specs.Observation.{AllBut}
use Rattle.rules.specs.Figures.{figure, Runs}

-- how many neighbours of i other than j are not observed
abbrev unknown : (ℕ → ℕ) → ℕ → ℕ → ℕ → ℕ
unknown nbr s i j = size (lack (less (nbr i) j) s)

-- ---- the sum

one_less : (n : ℕ) → pos 1 -ℤ pos (suc n) ≡ neg_ℤ (pos n)
one_less n =
    ap (λ (z : ℤ). pos 1 +ℤ neg_ℤ z) (ap pos (sym (one-add n)) ∙ sym (pos-+ℤ-pos 1 n))
    ∙ ap (λ (z : ℤ). pos 1 +ℤ z) (neg_ℤ-+ℤ (pos 1) (pos n))
    ∙ sym (+ℤ_assoc (pos 1) (neg_ℤ (pos 1)) (neg_ℤ (pos n))) ∙ ap (λ (z : ℤ). z +ℤ neg_ℤ (pos n)) (+ℤ_invr (pos 1)) ∙ +ℤ_idl (neg_ℤ (pos n))

-- what is added and taken away again is gone
cancel : (o k b : ℤ) → neg_ℤ (o +ℤ k) +ℤ b +ℤ o ≡ b -ℤ k
cancel o k b =
    ap (λ (z : ℤ). z +ℤ b +ℤ o) (neg_ℤ-+ℤ o k) ∙ +ℤ_comm (neg_ℤ o +ℤ neg_ℤ k +ℤ b) o ∙ sym (+ℤ_assoc o (neg_ℤ o +ℤ neg_ℤ k) b)
    ∙ ap (λ (z : ℤ). z +ℤ b) (sym (+ℤ_assoc o (neg_ℤ o) (neg_ℤ k)) ∙ ap (λ (z : ℤ). z +ℤ neg_ℤ k) (+ℤ_invr o) ∙ +ℤ_idl (neg_ℤ k))
    ∙ +ℤ_comm (neg_ℤ k) b

-- the other neighbours are those that are observed and those that are not
others : (nbr : ℕ → ℕ) (s i j : ℕ) → size (less (nbr i) j) ≡ size (less (meet (nbr i) s) j) + unknown nbr s i j
others nbr s i j =
    size-parts (less (nbr i) j) (less (meet (nbr i) s) j) (lack (less (nbr i) j) s)
    (λ b. ⊎_elim
    (λ (e : b ≡ j).
    subst⁻¹ (λ (x : ℕ). bit (less (nbr i) j) x ≡ bit (less (meet (nbr i) s) j) x + bit (lack (less (nbr i) j) s) x) e
    (omega (arith, less-here (nbr i) j, less-here (meet (nbr i) s) j, lack-at (less (nbr i) j) s j)))
    (λ (ne : b ≡ j → ⊥).
    omega (arith, less-there (nbr i) j b ne, less-there (meet (nbr i) s) j b ne, meet-at (nbr i) s b, lack-at (less (nbr i) j) s b))
    (same_or b j))

pub figure-is : (nbr : ℕ → ℕ) (s i j : ℕ) → In (nbr i) j → figure nbr s i j ≡ pos (bit s i) -ℤ pos (unknown nbr s i j)
unfolding figure
figure-is nbr s i j joined =
    let o = size (less (meet (nbr i) s) j) in
    let k = unknown nbr s i j in
    let degree : size (nbr i) ≡ suc (o + k) = size_less (nbr i) j joined ∙ ap suc (others nbr s i j) in
    ap (λ (d : ℕ). pos 1 -ℤ pos d +ℤ pos (bit s i) +ℤ pos o) degree ∙ ap (λ (z : ℤ). z +ℤ pos (bit s i) +ℤ pos o) (one_less (o + k))
    ∙ ap (λ (z : ℤ). neg_ℤ z +ℤ pos (bit s i) +ℤ pos o) (sym (pos-+ℤ-pos o k)) ∙ cancel (pos o) (pos k) (pos (bit s i))

-- ---- its range

-- 1, or minus a number
data Told (k : ℕ) : ℕ → ℤ → Type 0 where
  one : k ≡ 0 → Told k 1 (pos 1)
  minus : {b : ℕ} (m : ℕ) → m ≤ k → Told k b (neg_ℤ (pos m))

told : (b k : ℕ) → b ≤ 1 → Told k b (pos b -ℤ pos k)
told zero k l = subst⁻¹ (Told k 0) (+ℤ_idl (neg_ℤ (pos k))) (minus k (omega arith))
told (suc zero) zero l = one refl
told (suc zero) (suc k) l = subst⁻¹ (Told (suc k) 1) (one_less k) (minus k (omega arith))
told (suc (suc b)) k l = absurd (omega arith)

runs-minus : (k m : ℕ) → m ≤ k → Runs k (neg_ℤ (pos m))
runs-minus k zero l = record { low = from_none k; high = record { le = tt } }
  where
    from_none : (k : ℕ) → neg_ℤ (pos k) ≤ℤ pos 0
    from_none zero = record { le = tt }
    from_none (suc k) = record { le = tt }
runs-minus zero (suc m) l = absurd (omega arith)
runs-minus (suc k) (suc m) l = record { low = record { le = le→leb m k (omega arith) }; high = record { le = tt } }

runs-one : (k : ℕ) → Runs k (pos 1)
runs-one zero = record { low = record { le = tt }; high = record { le = tt } }
runs-one (suc k) = record { low = record { le = tt }; high = record { le = tt } }

runs-told : {u b : ℕ} {z : ℤ} (k : ℕ) → u ≤ k → Told u b z → Runs k z
runs-told k l (one e) = runs-one k
runs-told k l (minus m h) = runs-minus k m (omega arith)

-- the other neighbours are buses other than i and j
other-neighbours : (g : Grid) (k s i j : ℕ) → Proper g → g.n ≤ k + 2 → In (g.neighbours i) j → unknown g.neighbours s i j ≤ k
other-neighbours g k s i j v most joined =
    let u = lack (less (g.neighbours i) j) s in
    omega (arith, size-add u i no_i, size-add (add u i) j no_j, size-most g.n (add (add u i) j) within)
  where
    line : Line g.n g.neighbours i j
    line = v.lines i j joined

    neighbour : (b : ℕ) → In (lack (less (g.neighbours i) j) s) b → In (g.neighbours i) b × (b ≡ j → ⊥)
    neighbour b h =
        let m : In (less (g.neighbours i) j) b = omega (arith, lack-at (less (g.neighbours i) j) s b) in
        let ne : b ≡ j → ⊥ = λ e. let o : Out (less (g.neighbours i) j) b =
        subst⁻¹ (Out (less (g.neighbours i) j)) e (less-here (g.neighbours i) j) in
        omega arith in
        (omega (arith, less-there (g.neighbours i) j b ne), ne)

    no_i : Out (lack (less (g.neighbours i) j) s) i
    no_i = out_of (lack (less (g.neighbours i) j) s) i (λ h. (v.lines i i (neighbour i h).0).differ refl)

    no_j : Out (add (lack (less (g.neighbours i) j) s) i) j
    no_j =
        omega (
          arith,
          add-there (lack (less (g.neighbours i) j) s) i j (λ e. line.differ (sym e)),
          lack-at (less (g.neighbours i) j) s j,
          less-here (g.neighbours i) j,
        )

    within : Within g.n (add (add (lack (less (g.neighbours i) j) s) i) j)
    within =
        add-of {P = Bus g.n} (add (lack (less (g.neighbours i) j) s) i) j line.to
        (add-of {P = Bus g.n} (lack (less (g.neighbours i) j) s) i line.from (λ b h. (v.lines i b (neighbour b h).0).to))

pub figure-runs : (g : Grid) (k s i j : ℕ) → Proper g → g.n ≤ k + 2 → In (g.neighbours i) j → Runs k (figure g.neighbours s i j)
figure-runs g k s i j v most joined =
    subst⁻¹ (Runs k) (figure-is g.neighbours s i j joined)
    (runs-told k (other-neighbours g k s i j v most joined) (told (bit s i) (unknown g.neighbours s i j) (omega arith)))

-- ---- when it is 1

pub figure-one : (nbr : ℕ → ℕ) (s i j : ℕ) → In (nbr i) j → In s i → AllBut (nbr i) j s → figure nbr s i j ≡ pos 1
figure-one nbr s i j joined observed but =
    figure-is nbr s i j joined ∙ (λ k. pos (observed k) -ℤ pos (none k))
  where
    known : (b : ℕ) → Out (lack (less (nbr i) j) s) b
    known b =
        ⊎_elim
        (λ (e : b ≡ j). subst⁻¹ (Out (lack (less (nbr i) j) s)) e (omega (arith, lack-at (less (nbr i) j) s j, less-here (nbr i) j)))
        (λ (ne : b ≡ j → ⊥). ⊎_elim
        (λ (p : In (nbr i) b). omega (arith, lack-at (less (nbr i) j) s b, but b p ne))
        (λ (p : Out (nbr i) b). omega (arith, lack-at (less (nbr i) j) s b, less-there (nbr i) j b ne))
        (in_or (nbr i) b))
        (same_or b j)

    none : unknown nbr s i j ≡ 0
    none = ap size (empty_of (lack (less (nbr i) j) s) known) ∙ size-empty

minus_one : (m : ℕ) → neg_ℤ (pos m) ≡ pos 1 → ⊥
minus_one zero e = let z : ◌≡◌ {A = ℕ} 0 1 = cc in omega arith
minus_one (suc m) e = let z : ◌≡◌ {A = ℕ} 0 1 = cc in omega arith

told-one : {k b : ℕ} {z : ℤ} → Told k b z → z ≡ pos 1 → (b ≡ 1) × (k ≡ 0)
told-one (one e) q = (refl, e)
told-one (minus m h) q = absurd (minus_one m q)

pub one-figure : (nbr : ℕ → ℕ) (s i j : ℕ) → In (nbr i) j → figure nbr s i j ≡ pos 1 → In s i × AllBut (nbr i) j s
one-figure nbr s i j joined e = (parts.0, λ b h ne. known b h ne)
  where
    parts : (bit s i ≡ 1) × (unknown nbr s i j ≡ 0)
    parts = told-one (told (bit s i) (unknown nbr s i j) (omega arith)) (sym (figure-is nbr s i j joined) ∙ e)

    known : (b : ℕ) → In (nbr i) b → (b ≡ j → ⊥) → In s b
    known b h ne =
        ⊎_elim
        (λ (p : In s b). p)
        (λ (p : Out s b).
        let some = size-some (lack (less (nbr i) j) s) b (omega (arith, lack-at (less (nbr i) j) s b, less-there (nbr i) j b ne)) in
        absurd (omega (arith, parts.1)))
        (in_or s b)
