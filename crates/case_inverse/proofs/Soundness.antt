-- What is read is a proper grid whose circuits are counted, and a case with such a grid is known by its answers.
use mathlib.Core.Path.{◌≡◌, sym, ◌∙◌, subst, subst⁻¹}
use mathlib.Core.Bool.{Bool, true, false}
use mathlib.Core.List.{List}
use mathlib.Core.Logic.{◌⊎◌, inl, inr, ⊎_elim}
use Prim.Native.Nat.{ℕ, suc, zero, ◌+◌, ◌-◌, ◌*◌, ◌/◌, ◌%◌, ◌≤◌, ◌<◌}
use native.Mathlib.Omega.{arith}
use lib.ListN.{length, get_or}
use lib.Seq.{ext_get_or}
use Rattle.busset.specs.Sets.{bit, In, Out, Within, set_of, width, Bus as IsBus}
use Rattle.busset.specs.Held.{empty_word, hold, hold_if}
use Rattle.basics.proofs.Tests.{below_or, same_or}
use Rattle.busset.proofs.Digits.{ext}
use Rattle.busset.proofs.Members.{bus-more, in_or, out_of}
use Rattle.busset.proofs.Words.{set-zero, set_inj}
use Rattle.busset.proofs.Holding.{hold-there}
use Rattle.case_line.specs.declared.Record.{Record}
use Rattle.case_line.specs.declared.Record.TheVariants.{Grid, Bus, Line, Circuits, Pmu, End, Wrong}
use Rattle.rules.specs.Grids.{Proper as ProperGrid, Line as HasLine}
use Rattle.grid.specs.Limits.{most_buses}
use Rattle.grid.specs.Rows.{bus_sets, rows_length, Rows, set_at, neighbours, circuits, with_line}
use Rattle.grid.specs.Cases.{grid_of, Lines, Sized, JoinedCounted, OthersUncounted, CountedAlike, CircuitCount}
use Rattle.grid.specs.declared.Case.{Case}
use Rattle.case_judge.specs.Judging.{in_range}
use Rattle.case_read.specs.Reading.{case_so_far, next_reader, start}
use Rattle.case_read.specs.declared.Reader.{Reader}
use Rattle.case_inverse.specs.Grammar.{ReadsAs}
use Rattle.case_inverse.specs.Grammar.ReadsAs.{ends, goes}
use Rattle.case_judge.proofs.Judged.{accepted_of, inside, line-ends, circuits_range}
use Rattle.grid.proofs.Rows.{set-at}
use Rattle.grid.proofs.Joined.{joined, same-joined, same-circuits, Pair, line_here, line_back, line_other, count_here, count_back}
use Rattle.case_inverse.proofs.Places.{Ask, AskInRange, answer, Facts, tie, line_read, line-count}
use Rattle.case_inverse.proofs.Places.LineBy.{single, multiple}
use Rattle.case_inverse.proofs.Places.Ask.{zero_at, siteAt, unit_at, line_at}
use Rattle.case_inverse.proofs.Unique.{Stand, stepped}
use Rattle.case_inverse.proofs.Texts.{begun, first-stand, no-bus, no_line, no-circuits}
use Rattle.case_inverse.proofs.Counts.{both_ends, not_self}

-- ---- a record keeps a grid proper, and its circuits counted

hold-within : (n w k : ℕ) → IsBus n k → Within n (set_of w) → Within n (set_of (hold w k))
hold-within n w k b h i p =
    ⊎_elim (λ (e : i ≡ k). subst⁻¹ (IsBus n) e b) (λ (d : i ≡ k → ⊥). h i (sym (hold-there w k i b.some d) ∙ p)) (same_or i k)

if_within : (t : Bool) (n w k : ℕ) → IsBus n k → Within n (set_of w) → Within n (set_of (hold_if t w k))
if_within true n w k b h = hold-within n w k b h
if_within false n w k b h = h

-- what holds of a and b, of b and a, and of any other two
pairs : (P : ℕ → ℕ → Type 0) (a b : ℕ) → P a b → P b a
    → ((i j : ℕ) → ((i ≡ a) → (j ≡ b) → ⊥) → ((i ≡ b) → (j ≡ a) → ⊥) → P i j) → (i j : ℕ) → P i j
pairs P a b this that other i j =
    ⊎_elim
    (λ (p : (i ≡ a) × (j ≡ b)). subst⁻¹ (λ (x : ℕ). P x j) p.0 (subst⁻¹ (P a) p.1 this))
    (λ (u : (i ≡ a) × (j ≡ b) → ⊥). ⊎_elim
    (λ (p : (i ≡ b) × (j ≡ a)). subst⁻¹ (λ (x : ℕ). P x j) p.0 (subst⁻¹ (P b) p.1 that))
    (λ (v : (i ≡ b) × (j ≡ a) → ⊥). other i j (λ x y. u (x, y)) (λ x y. v (x, y)))
    (both_or i b j a))
    (both_or i a j b)
  where
    both_or : (x y z w : ℕ) → ((x ≡ y) × (z ≡ w)) ⊎ ((x ≡ y) × (z ≡ w) → ⊥)
    both_or x y z w =
        ⊎_elim
        (λ (e : x ≡ y). ⊎_elim (λ (f : z ≡ w). inl (e, f)) (λ (d : z ≡ w → ⊥). inr (λ p. d p.1)) (same_or z w))
        (λ (d : x ≡ y → ⊥). inr (λ p. d p.0)) (same_or x y)

-- what each bus counts, as refusal 5 asks
pub record CountedRows (rows : Rows) : Type 0 where
  pub joins : (a : ℕ) → JoinedCounted rows a
  pub others : (a : ℕ) → OthersUncounted rows a
  pub alike : (a : ℕ) → CountedAlike rows a

module _ (rows : Rows) (a b k : ℕ) (l : length rows ≡ rows_length) (p : Pair a b) where
  abbrev new : Rows
  new = with_line rows a b k

  with_lines : (n : ℕ) → IsBus n a → IsBus n b → Lines n (neighbours rows) → Lines n (neighbours new)
  with_lines n from to lines =
      pairs (λ i j. In (neighbours new i) j → HasLine n (neighbours new) i j) a b
      (λ h. record { from = from; to = to; differ = λ e. omega (arith, p.less); back = line_back rows a b k l p })
      (λ h. record { from = to; to = from; differ = λ e. omega (arith, p.less); back = line_here rows a b k l p })
      (λ i j u v h. let g = lines i j (sym (same-joined (line_other rows a b k l p i j u v)) ∙ h) in
      record {
        from = g.from;
        to = g.to;
        differ = g.differ;
        back = same-joined (line_other rows a b k l p j i (λ x y. v y x) (λ x y. u y x)) ∙ g.back;
      })

  module _ (n : CircuitCount k) (old : CountedRows rows) where
    here : circuits new a b ≡ k
    here = count_here rows a b k l p (omega (arith, n.most))

    there : circuits new b a ≡ k
    there = count_back rows a b k l p (omega (arith, n.most))

    with_counts : CountedRows new
    with_counts = record {
      joins = pairs (λ i j. In (neighbours new i) j → CircuitCount (circuits new i j)) a b
          (λ h. subst⁻¹ CircuitCount here n) (λ h. subst⁻¹ CircuitCount there n)
          (λ i j u v h. let q = line_other rows a b k l p i j u v in
          subst⁻¹ CircuitCount (same-circuits q) (old.joins i j (sym (same-joined q) ∙ h)));
      others = pairs (λ i j. Out (neighbours new i) j → circuits new i j ≡ 0) a b
          (λ o. absurd (omega (arith, line_here rows a b k l p))) (λ o. absurd (omega (arith, line_back rows a b k l p)))
          (λ i j u v o. let q = line_other rows a b k l p i j u v in same-circuits q ∙ old.others i j (sym (same-joined q) ∙ o));
      alike = pairs (λ i j. circuits new i j ≡ circuits new j i) a b (here ∙ sym there) (there ∙ sym here)
          (λ i j u v. same-circuits (line_other rows a b k l p i j u v) ∙ old.alike i j
          ∙ sym (same-circuits (line_other rows a b k l p j i (λ x y. v y x) (λ x y. u y x))));
    }

-- the grid that has been read is proper, and its circuits are counted
pub record ProperAt (s : Reader) : Type 0 where
  pub proper : ProperGrid (grid_of (case_so_far s))
  pub counts : CountedRows s.rows

line-proper : (s : Reader) (a b k : ℕ) → Sized (case_so_far s) → Pair a b → in_range s.place (Line a b) ≡ true → CircuitCount k
    → ProperAt s → ProperAt (line_read s a b k)
line-proper s a b k l y e n c =
    let t = line-ends s.place a b e in
    record {
      proper = record {
        lines = with_lines s.rows a b k l.rows y s.place.n t.from t.to c.proper.lines;
        zeros = c.proper.zeros;
        sites = c.proper.sites;
        units = c.proper.units;
      };
      counts = with_counts s.rows a b k l.rows y n c.counts;
    }

proper-next : (s : Reader) (r : Record) → Sized (case_so_far s) → 0 < s.place.n → Facts s.place r → in_range s.place r ≡ true
    → ProperAt s → ProperAt (next_reader s r)
proper-next s (Grid n) l g f e c = absurd (omega arith)
proper-next s (Bus k z o) l g f e c =
    let b = inside s.place.n k e in
    let d = c.proper in
    record {
      proper = record {
        lines = d.lines;
        zeros = if_within z _ _ k b d.zeros;
        sites = if_within o _ _ k b d.sites;
        units = d.units;
      };
      counts = c.counts;
    }
proper-next s (Line a b) l g f e c = line-proper s a b 1 l f.pair e (line-count (single {a = a} {b = b})) c
proper-next s (Circuits a b k) l g f e c =
    line-proper s a b k l f.0.pair (circuits_range s.place a b k e).0 (line-count (multiple {a = a} {b = b} f.1)) c
proper-next s (Pmu p) l g f e c =
    let d = c.proper in
    record {
      proper = record {
        lines = d.lines;
        zeros = d.zeros;
        sites = d.sites;
        units = hold-within _ _ p (inside s.place.n p e) d.units;
      };
      counts = c.counts;
    }
proper-next s End l g f e c = c
proper-next s Wrong l g f e c = absurd f

-- ---- what is read

pub record Sound (c : Case) : Type 0 where
  pub sized : Sized c
  pub proper : ProperGrid (grid_of c)
  pub counts : CountedRows c.nbr

sound-reads : {s : Reader} {p : ℕ} {x : List ℕ} {c : Case} → Stand s p → ProperAt s → ReadsAs s x c → Sound c
sound-reads t o (ends e) = record { sized = t.at.sized; proper = o.proper; counts = o.counts }
sound-reads {s} t o (goes r e d) =
    let u = stepped r t e in
    sound-reads u.on (proper-next s r t.at.sized t.grid u.fact (accepted_of s.place r e).range o) d

none-proper : (n : ℕ) → ProperAt (next_reader start (Grid n))
none-proper n = record {
  proper = record {
    lines = λ i j h. absurd (omega (arith, no_line i j));
    zeros = λ i h. absurd (omega (arith, no-bus i));
    sites = λ i h. absurd (omega (arith, no-bus i));
    units = λ i h. absurd (omega (arith, no-bus i));
  };
  counts = record {
    joins = λ i j h. absurd (omega (arith, no_line i j));
    others = λ i j o. no-circuits i j;
    alike = λ i j. no-circuits i j ∙ sym (no-circuits j i);
  };
}

pub read-sound : (x : List ℕ) (c : Case) → ReadsAs start x c → Sound c
read-sound x c d = let b = begun d in sound-reads (first-stand c.n b.told) (none-proper c.n) b.on

-- ---- a case with such a grid is known by its answers

out-high : (n s i : ℕ) → n ≤ most_buses → Within n s → most_buses < i → Out s i
out-high n s i l w h = out_of s i (λ p. let b = w i p in omega (arith, b.most))

set_known : (n v w : ℕ) → n ≤ most_buses → Within n (set_of v) → Within n (set_of w)
    → ((k : ℕ) → IsBus width k → bit (set_of v) k ≡ bit (set_of w) k)
    → v ≡ w
set_known n v w l a b e = set_inj v w (ext (set_of v) (set_of w) at)
  where
    at : (i : ℕ) → bit (set_of v) i ≡ bit (set_of w) i
    at zero = set-zero v ∙ sym (set-zero w)
    at (suc i) =
        ⊎_elim
        (λ (h : most_buses < suc i). out-high n (set_of v) (suc i) l a h ∙ sym (out-high n (set_of w) (suc i) l b h))
        (λ (h : suc i ≤ most_buses). e (suc i) (record { some = omega arith; most = h }))
        (below_or most_buses (suc i))

-- the sets of a bus are known by what it is joined to and counts
sets_known : (old new : Rows) (b : ℕ) → ((j : ℕ) → joined old b j ≡ joined new b j) → ((j : ℕ) → circuits old b j ≡ circuits new b j)
    → (i : ℕ) → i < bus_sets → set_at old b i ≡ set_at new b i
unfolding neighbours circuits
sets_known old new b e f zero l = ext (set_at old b 0) (set_at new b 0) e
sets_known old new b e f (suc zero) l = ext (set_at old b 1) (set_at new b 1) (λ j. omega (arith, f j))
sets_known old new b e f (suc (suc zero)) l = ext (set_at old b 2) (set_at new b 2) (λ j. omega (arith, f j))
sets_known old new b e f (suc (suc (suc zero))) l = ext (set_at old b 3) (set_at new b 3) (λ j. omega (arith, f j))
sets_known old new b e f (suc (suc (suc (suc zero)))) l = ext (set_at old b 4) (set_at new b 4) (λ j. omega (arith, f j))
sets_known old new b e f (suc (suc (suc (suc (suc i))))) l = absurd (omega arith)

module _ (c d : Case) (l : c.n ≤ most_buses) (same : c.n ≡ d.n) (x : Sound c) (y : Sound d)
    (e : (q : Ask) → AskInRange q → answer c q ≡ answer d q) where
  second : (s : ℕ) → Within d.n s → Within c.n s
  second s w i p = subst⁻¹ (λ (n : ℕ). IsBus n i) same (w i p)

  -- what a bus sees of itself, and what each of two sees of the other
  none_self : {f : Case} → Sound f → (i : ℕ) → tie f.nbr i i ≡ 0
  none_self z i = let o = not_self _ _ z.proper.lines i in omega (arith, o, z.counts.others i i o)

  tie_back : {f : Case} → Sound f → (i j : ℕ) → tie f.nbr i j ≡ tie f.nbr j i
  tie_back z i j = omega (arith, both_ends _ _ z.proper.lines i j, z.counts.alike i j)

  tie_known : (i j : ℕ) → IsBus width i → IsBus width j → tie c.nbr i j ≡ tie d.nbr i j
  tie_known i j a b =
      ⊎_elim
      (λ (l : i < j). e (line_at i j) (record { one = a.some; less = l; high = b.most }))
      (λ (l : j ≤ i). ⊎_elim
      (λ (s : j ≡ i). subst⁻¹ (λ (k : ℕ). tie c.nbr i k ≡ tie d.nbr i k) s (none_self x i ∙ sym (none_self y i)))
      (λ (n : j ≡ i → ⊥). tie_back x i j
      ∙ e (line_at j i) (record { one = b.some; less = omega arith; high = a.most }) ∙ tie_back y j i)
      (same_or j i))
      (below_or i j)

  -- the two buses of a line
  line_known : {f : Case} → Sound f → f.n ≤ most_buses → (i j : ℕ) → In (neighbours f.nbr i) j → tie c.nbr i j ≡ tie d.nbr i j
  line_known z m i j h = let g = z.proper.lines i j h in tie_known i j (bus-more g.from m) (bus-more g.to m)

  every_tie : (i j : ℕ) → tie c.nbr i j ≡ tie d.nbr i j
  every_tie i j =
      ⊎_elim (λ (h : In (neighbours c.nbr i) j). line_known x l i j h)
      (λ (o : Out (neighbours c.nbr i) j). ⊎_elim
      (λ (h : In (neighbours d.nbr i) j). line_known y (omega arith) i j h)
      (λ (r : Out (neighbours d.nbr i) j). omega (arith, o, r, x.counts.others i j o, y.counts.others i j r))
      (in_or (neighbours d.nbr i) j))
      (in_or (neighbours c.nbr i) j)

  row_known : (i : ℕ) → get_or c.nbr i empty_word ≡ get_or d.nbr i empty_word
  row_known i =
      let at : bus_sets * (i / bus_sets + 1 - 1) + i % bus_sets ≡ i = omega arith in
      let b = i / bus_sets + 1 in
      let k = i % bus_sets in
      subst (λ (t : ℕ). get_or c.nbr t empty_word ≡ get_or d.nbr t empty_word) at
      (set_inj _ _ (set-at c.nbr b k (omega arith)
      ∙ sets_known c.nbr d.nbr b (λ j. omega (arith, every_tie b j)) (λ j. omega (arith, every_tie b j)) k (omega arith)
      ∙ sym (set-at d.nbr b k (omega arith))))

  pub known : c ≡ d
  known =
      let z : c.zero ≡ d.zero = set_known c.n c.zero d.zero l x.proper.zeros (second _ y.proper.zeros)
      (λ k b. e (zero_at k) b) in
      let s : c.site ≡ d.site = set_known c.n c.site d.site l x.proper.sites (second _ y.proper.sites)
      (λ k b. e (siteAt k) b) in
      let u : c.units ≡ d.units = set_known c.n c.units d.units l x.proper.units (second _ y.proper.units)
      (λ k b. e (unit_at k) b) in
      let r : c.nbr ≡ d.nbr = ext_get_or empty_word c.nbr d.nbr (x.sized.rows ∙ sym y.sized.rows)
      (λ i h. row_known i) in
      λ i. record { n = same i; nbr = r i; zero = z i; site = s i; units = u i }
