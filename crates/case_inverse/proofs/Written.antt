-- What is written is read: the writer goes through the places in order, and the reader accepts each record.
use Rattle.std.specs.Prelude.{Ok}
use mathlib.Core.Path.{◌≡◌, refl, sym, ◌∙◌, subst, subst⁻¹}
use mathlib.Core.Bool.{Bool, true, false, cond}
use mathlib.Core.List.{List, [], ◌∷◌, ◌++◌}
use mathlib.Core.Logic.{⊎_elim}
use Prim.Native.Nat.{ℕ, suc, zero, ◌+◌, ◌≤◌, ◌<◌}
use native.Mathlib.Omega.{arith}
use borrow.Author.Tests.{lt-ltb, le-ltb, le-leb, eq-eqb, eqb-true, eqb-false}
use lib.ListN.{length}
use Rattle.busset.specs.Sets.{bit, set_of, width, Bus as IsBus}
use Rattle.busset.specs.Held.{hold_if}
use Rattle.basics.proofs.Tests.{below_or, same_or}
use Rattle.busset.proofs.Holding.{hold-here, if_here}
use Rattle.grid.specs.Limits.{most_buses, most_lines, least_several}
use Rattle.grid.specs.Rows.{neighbours, circuits}
use Rattle.grid.specs.Cases.{Sized, JoinedCounted, OthersUncounted, CircuitCount}
use Rattle.case_judge.specs.declared.Place.{Place}
use Rattle.case_line.specs.declared.Record.{Record}
use Rattle.case_line.specs.declared.Record.TheVariants.{Grid, Line, Circuits, Pmu, End}
use Rattle.case_judge.specs.Judging.{is_bus, is_after, past_buses, judged}
use Rattle.case_read.specs.Reading.{case_so_far, next_reader, start}
use Rattle.case_read.specs.declared.Reader.{Reader}
use Rattle.case_inverse.specs.Grammar.{ReadsAs}
use Rattle.case_inverse.specs.Grammar.ReadsAs.{ends, goes}
use Rattle.case_line.specs.CaseText.{has, bus_record, bus_records, members, line_record, line_from, line_records, lines_text, records}
use Rattle.grid.specs.declared.Case.{Case}
use Rattle.grid.proofs.Joined.{joined, Pair}
use Rattle.case_judge.specs.declared.Standing.TheVariants.{Next}
use Rattle.case_judge.proofs.Judged.{TestsPassed, accept, accept_several}
use Rattle.case_inverse.proofs.Spots.{next_spot, bus_place, line_place, unit_place, last_place, bus-rises, line-rises, row-rises}
use Rattle.case_inverse.proofs.Spots.{unit-rises, bus-line, bus-unit, line-unit, unit-last, line-most, line-below}
use Rattle.case_inverse.proofs.Spots.{bus-below, bus-past, unit-below, unit-past}
use Rattle.case_inverse.proofs.Places.{Ask, AskInRange, place, record_place, answer, unchanged, pair-unit, all-below}
use Rattle.case_inverse.proofs.Places.{at_bus, at_line, at_unit, LineBy, line_read, line-tie}
use Rattle.case_inverse.proofs.Places.LineBy.{single, multiple}
use Rattle.case_inverse.proofs.Places.Ask.{zero_at, siteAt, unit_at, line_at}
use Rattle.case_inverse.proofs.Unique.{Stand, stepped}
use Rattle.case_inverse.proofs.Texts.{first-stand}

inside : (n k : ℕ) → 1 ≤ k → k ≤ n → is_bus n k ≡ true
unfolding is_bus
inside n k h l = rw (le-leb 1 k h, le-leb k n l)

past_is : (s : Place) → 0 < s.n → s.n ≤ s.bus → past_buses s ≡ true
unfolding past_buses
past_is s h l = rw (lt-ltb 0 s.n h, le-leb s.n s.bus l)

-- the reader s stands at p below w, and answers as the case does below w: what is left to write starts at w
pub record Upto (c : Case) (s : Reader) (p w : ℕ) : Type 0 where
  pub stand : Stand s p
  pub low : p < w
  pub size : c.n ≡ s.place.n
  pub agree : (q : Ask) → AskInRange q → place q < w → answer c q ≡ answer (case_so_far s) q

-- where the case answers 0 there is nothing to write
pub skip : {c : Case} {s : Reader} {p w : ℕ} (v : ℕ) → w ≤ v → Upto c s p w
    → ((q : Ask) → AskInRange q → w ≤ place q → place q < v → answer c q ≡ 0) → Upto c s p v
skip {c} {s} {p} {w} v l u z =
    record {
      stand = u.stand;
      low = omega (arith, u.low);
      size = u.size;
      agree = λ q h k. ⊎_elim
          (λ (b : place q < w). u.agree q h b)
          (λ (b : w ≤ place q). z q h b k ∙ sym (u.stand.at.fresh q h (omega (arith, u.low))))
          (below_or (place q) w);
    }

-- a record whose answers are the case's, up to the place after its own
pub take_next : {c : Case} {s : Reader} {p : ℕ} (r : Record) (v : ℕ) → record_place r + 1 ≡ v → Upto c s p (record_place r)
    → judged s.place r ≡ Ok Next → (next_reader s r).place.n ≡ s.place.n
    → ((q : Ask) → AskInRange q → place q ≡ record_place r → answer c q ≡ answer (case_so_far (next_reader s r)) q)
    → Upto c (next_reader s r) (record_place r) v
take_next {c} {s} {p} r v z u e m a =
    let t = stepped r u.stand e in
    record {
      stand = t.on;
      low = omega arith;
      size = u.size ∙ sym m;
      agree = λ q h k. ⊎_elim
          (λ (b : place q ≡ record_place r). a q h b)
          (λ (d : place q ≡ record_place r → ⊥).
          let l : place q < record_place r = omega arith in
          u.agree q h l ∙ sym (unchanged s r q u.stand.at.sized u.stand.grid t.fact h d))
          (same_or (place q) (record_place r));
    }

-- ---- phases: what is written from where the reader stands is read as a case that answers as c does

pub record Readable (c : Case) (s : Reader) (rs : List Record) : Type 0 where
  pub case' : Case
  pub reads : ReadsAs s (lines_text rs) case'
  pub size : c.n ≡ case'.n
  pub agree : (q : Ask) → AskInRange q → answer c q ≡ answer case' q

read-on : {c : Case} {s : Reader} (r : Record) {rs : List Record} → judged s.place r ≡ Ok Next → Readable c (next_reader s r) rs
    → Readable c s (r ∷ rs)
unfolding lines_text
read-on r e t = record { case' = t.case'; reads = goes r e t.reads; size = t.size; agree = t.agree }

read_end : {c : Case} {s : Reader} {p : ℕ} → Upto c s p last_place → s.place.n ≤ s.place.bus → Readable c s (End ∷ [])
unfolding lines_text
read_end {c} {s} u l =
    record {
      case' = case_so_far s;
      reads = ends (accept s.place End (past_is s.place u.stand.grid l) refl refl);
      size = u.size;
      agree = λ q h. u.agree q h (all-below q h);
    }

has-bit : (s k : ℕ) → cond (has s k) 1 0 ≡ bit s k
has-bit s k = go (has s k) refl
  where
    go : (b : Bool) → has s k ≡ b → cond b 1 0 ≡ bit s k
    go true e = sym (eqb-true _ 1 e)
    go false e = omega (arith, eqb-false (bit s k) 1 e)

-- the record of bus k
abbrev bus_of : Case → ℕ → Record
bus_of c k = bus_record (set_of c.zero) (set_of c.site) k

-- the answers at a bus's place are its class and its site
bus-answer : (c : Case) (s : Reader) (p k : ℕ) → Upto c s p (bus_place k) → IsBus width k → (q : Ask) → AskInRange q → place q ≡ bus_place k
    → answer c q ≡ answer (case_so_far (next_reader s (bus_of c k))) q
bus-answer c s p k u b =
    at_bus (λ (q : Ask). answer c q ≡ answer (case_so_far (next_reader s (bus_of c k))) q) k b
    (marked s.marks.zero (set_of c.zero) (u.stand.at.fresh (zero_at k) b u.low))
    (marked s.marks.site (set_of c.site) (u.stand.at.fresh (siteAt k) b u.low))
  where
    marked : (w v : ℕ) → bit (set_of w) k ≡ 0 → bit v k ≡ bit (set_of (hold_if (has v k) w k)) k
    marked w v e = sym (has-bit v k) ∙ sym (if_here (has v k) w k b.some e)

-- no line and no unit has been read
pub record Early (s : Reader) : Type 0 where
  pub unit : s.place.unit ≡ 0
  pub a : s.place.a ≡ 0
  pub b : s.place.b ≡ 0
  pub lines : s.place.lines ≡ 0

pub read-buses : (c : Case) (rs : List Record) (m k : ℕ) (s : Reader) (p : ℕ) → Upto c s p (bus_place k) → k ≡ s.place.bus + 1
    → k + m ≡ c.n + 1
    → Early s
    → ((t : Reader) (o : ℕ) → Upto c t o (bus_place (c.n + 1)) → t.place.bus ≡ c.n → Early t → Readable c t rs) →
    Readable c s (bus_records (set_of c.zero) (set_of c.site) k m ++ rs)
unfolding bus_records
read-buses c rs zero k s p u b l z on =
    let e : k ≡ c.n + 1 = omega arith in
    on s p (subst (λ (w : ℕ). Upto c s p (bus_place w)) e u) (omega arith) z
read-buses c rs (suc m) k s p u b l z on =
    let r = bus_of c k in
    let n = u.size in
    let h : 1 ≤ k = omega arith in
    let i : k ≤ s.place.n = omega arith in
    let j : k ≤ width = omega (arith, u.stand.at.small) in
    let e = accept s.place r (lt-ltb s.place.bus s.place.n (omega arith)) (inside s.place.n k h i)
    (eq-eqb k (s.place.bus + 1) b) in
    read-on r e
    (read-buses c rs m (k + 1) (next_reader s r) (bus_place k)
    (take_next r (bus_place (k + 1)) (next_spot _ _ _) u e refl (bus-answer c s p k u (record { some = h; most = j }))) refl
    (omega arith)
    (record { unit = z.unit; a = z.a; b = z.b; lines = z.lines }) on)

-- the answer at a unit's place is whether it stands there
unit-answer : (c : Case) (s : Reader) (k : ℕ) → has (set_of c.units) k ≡ true → IsBus width k → (q : Ask) → AskInRange q
    → place q ≡ unit_place k
    → answer c q ≡ answer (case_so_far (next_reader s (Pmu k))) q
unit-answer c s k t b =
    at_unit (λ (q : Ask). answer c q ≡ answer (case_so_far (next_reader s (Pmu k))) q) k b
    (eqb-true _ 1 t ∙ sym (hold-here s.marks.units k b.some))

-- the next place is the next unit's
unit-none : (c : Case) (k : ℕ) → has (set_of c.units) k ≡ false → IsBus width k → (q : Ask) → AskInRange q → unit_place k ≤ place q
    → place q < unit_place (k + 1)
    → answer c q ≡ 0
unit-none c k t b q h x y =
    let e : unit_place k + 1 ≡ unit_place (k + 1) = next_spot _ _ _ in
    at_unit (λ (q : Ask). answer c q ≡ 0) k b (omega (arith, eqb-false (bit (set_of c.units) k) 1 t)) q h (omega arith)

unit-turn : (c : Case) (rs : List Record) (m k : ℕ) (s : Reader) (p : ℕ) (t : Bool) → has (set_of c.units) k ≡ t
    → Upto c s p (unit_place k)
    → s.place.n ≤ s.place.bus → s.place.unit < k → 1 ≤ k → k ≤ s.place.n
    → ((v : Reader) (o : ℕ) → Upto c v o (unit_place (k + 1)) → v.place.n ≤ v.place.bus → v.place.unit < k + 1
    → Readable c v (members Pmu (set_of c.units) (k + 1) m ++ rs))
    → Readable c s (cond t (Pmu k ∷ members Pmu (set_of c.units) (k + 1) m) (members Pmu (set_of c.units) (k + 1) m) ++ rs)
unit-turn c rs m k s p true t u l z h i on =
    let e = accept s.place (Pmu k) (past_is s.place u.stand.grid l) (inside s.place.n k h i) (lt-ltb s.place.unit k z) in
    let b : IsBus width k = record { some = h; most = omega (arith, u.stand.at.small) } in
    read-on (Pmu k) e
    (on (next_reader s (Pmu k)) (unit_place k)
    (take_next (Pmu k) (unit_place (k + 1)) (next_spot _ _ _) u e refl (unit-answer c s k t b)) l (omega arith))
unit-turn c rs m k s p false t u l z h i on =
    let b : IsBus width k = record { some = h; most = omega (arith, u.stand.at.small) } in
    on s p (skip (unit_place (k + 1)) (omega (arith, unit-rises k (k + 1) (omega arith))) u (unit-none c k t b)) l (omega arith)

pub read-units : (c : Case) (rs : List Record) (m k : ℕ) (s : Reader) (p : ℕ) → Upto c s p (unit_place k) → s.place.n ≤ s.place.bus
    → s.place.unit < k → 1 ≤ k → k + m ≡ c.n + 1
    → ((t : Reader) (o : ℕ) → Upto c t o (unit_place (c.n + 1)) → t.place.n ≤ t.place.bus → Readable c t rs)
    → Readable c s (members Pmu (set_of c.units) k m ++ rs)
unfolding members
read-units c rs zero k s p u l z h e on =
    let f : k ≡ c.n + 1 = omega arith in
    on s p (subst (λ (w : ℕ). Upto c s p (unit_place w)) f u) l
read-units c rs (suc m) k s p u l z h e on =
    let n = u.size in
    unit-turn c rs m k s p (has (set_of c.units) k) refl u l z h (omega arith)
    (λ v o w l' z'. read-units c rs m (k + 1) v o w l' z' (omega arith) (omega arith) on)

-- ---- lines

above-is : (a b c d : ℕ) → d ≤ most_buses → line_place a b < line_place c d → is_after a b c d ≡ true
unfolding is_after
above-is a b c d k l =
    let t = line-below a b c d (omega arith) l in
    ⊎_elim
    (λ (s : a < c). rw (lt-ltb a c s))
    (λ (s : c ≤ a). let e : a ≡ c = omega (arith, t.0) in rw (le-ltb a c s, eq-eqb a c e, lt-ltb b d (t.1 e)))
    (below_or a c)

-- what each bus counts: 1 to the most circuits to a neighbour, and none to another bus
pub record CountsLines (c : Case) : Type 0 where
  pub counted : (a : ℕ) → JoinedCounted c.nbr a
  pub uncounted : (a : ℕ) → OthersUncounted c.nbr a

-- the line from a to b, by the circuits that c counts
abbrev line_of : Case → ℕ → ℕ → Record
line_of c = line_from (circuits c.nbr)

abbrev count_of : Case → ℕ → ℕ → ℕ
count_of c = circuits c.nbr

line-by : (a b k : ℕ) → CircuitCount k → LineBy (line_record a b k) a b k
line-by a b k n =
    ⊎_elim
    (λ (l : k < least_several). let e : k ≡ 1 = omega (arith, n.some) in
    subst⁻¹ (λ (t : Bool). LineBy (cond t (Line a b) (Circuits a b k)) a b k) (lt-ltb k least_several l)
    (subst⁻¹ (LineBy (Line a b) a b) e single))
    (λ (l : least_several ≤ k). subst⁻¹ (λ (t : Bool). LineBy (cond t (Line a b) (Circuits a b k)) a b k) (le-ltb k least_several l)
    (multiple (record { least = l; most = n.most })))
    (below_or k least_several)

line-accepted : (s : Place) {r : Record} {a b k : ℕ} → LineBy r a b k → TestsPassed s (Line a b) → judged s r ≡ Ok Next
line-accepted s {a = a} {b = b} single t = accept s (Line a b) t.place t.range t.order
line-accepted s {a = a} {b = b} {k = k} (multiple v) t = accept_several s a b k t v

line_on : {c : Case} {s : Reader} {r : Record} {a b k : ℕ} {rs : List Record} → LineBy r a b k → judged s.place r ≡ Ok Next
    → Readable c (line_read s a b k) rs → Readable c s (r ∷ rs)
line_on {a = a} {b = b} single e t = read-on (Line a b) e t
line_on {a = a} {b = b} {k = k} (multiple v) e t = read-on (Circuits a b k) e t

line-upto : {c : Case} {s : Reader} {p : ℕ} {r : Record} {a b k : ℕ} → LineBy r a b k → Upto c s p (line_place a b)
    → judged s.place r ≡ Ok Next
    → ((q : Ask) → AskInRange q → place q ≡ line_place a b → answer c q ≡ answer (case_so_far (line_read s a b k)) q)
    → Upto c (line_read s a b k) (line_place a b) (line_place a (b + 1))
line-upto {a = a} {b = b} single u e h = take_next (Line a b) (line_place a (b + 1)) (next_spot _ _ _) u e refl h
line-upto {a = a} {b = b} {k = k} (multiple v) u e h = take_next (Circuits a b k) (line_place a (b + 1)) (next_spot _ _ _) u e refl h

line-answer : (c : Case) (s : Reader) (a b : ℕ) → Sized (case_so_far s) → Pair a b → joined c.nbr a b ≡ 1
    → CircuitCount (count_of c a b)
    → (q : Ask) → AskInRange q → place q ≡ line_place a b → answer c q ≡ answer (case_so_far (line_read s a b (count_of c a b))) q
line-answer c s a b l y t n =
    at_line (λ (q : Ask). answer c q ≡ answer (case_so_far (line_read s a b (count_of c a b))) q) a b y
    (omega (arith, t, line-tie s a b (count_of c a b) l y n))

line-none : (c : Case) (a b : ℕ) → CountsLines c → Pair a b → has (neighbours c.nbr a) b ≡ false → (q : Ask) → AskInRange q
    → line_place a b ≤ place q
    → place q < line_place a (b + 1) → answer c q ≡ 0
line-none c a b v y t q h k l =
    let e : line_place a b + 1 ≡ line_place a (b + 1) = next_spot _ _ _ in
    let o : joined c.nbr a b ≡ 0 = omega (arith, eqb-false (joined c.nbr a b) 1 t) in
    at_line (λ (q : Ask). answer c q ≡ 0) a b y (omega (arith, o, v.uncounted a b o)) q h (omega arith)

-- past the buses and before the units, below the line a b, with room for so many lines
pub record Lining (c : Case) (s : Reader) (p a b left : ℕ) : Type 0 where
  pub upto : Upto c s p (line_place a b)
  pub past : s.place.n ≤ s.place.bus
  pub none : s.place.unit ≡ 0
  pub below : line_place s.place.a s.place.b < line_place a b
  pub room : s.place.lines + left ≤ most_lines

line-turn : (c : Case) (ls rs : List Record) (a b : ℕ) (s : Reader) (p : ℕ) (t : Bool) → CountsLines c → has (neighbours c.nbr a) b ≡ t
    → Pair a b → b ≤ c.n
    → Lining c s p a b (length (cond t (line_of c a b ∷ ls) ls)) →
    ((v : Reader) (o : ℕ) → Lining c v o a (b + 1) (length ls) → Readable c v (ls ++ rs)) →
    Readable c s (cond t (line_of c a b ∷ ls) ls ++ rs)
line-turn c ls rs a b s p true v t y l g on =
    let u = g.upto in
    let n = u.size in
    let yo = y.one in
    let yl = y.less in
    let i : a ≤ s.place.n = omega arith in
    let j : b ≤ s.place.n = omega arith in
    let hb : 1 ≤ b = omega arith in
    let is = eqb-true _ 1 t in
    let k = v.counted a b is in
    let by = line-by a b (count_of c a b) k in
    let e = line-accepted s.place by (record {
      place = rw (past_is s.place u.stand.grid g.past, eq-eqb s.place.unit 0 g.none);
      range = rw (inside s.place.n a yo i, inside s.place.n b hb j, lt-ltb s.place.lines most_lines (omega (arith, g.room)));
      order = rw (lt-ltb a b yl, above-is s.place.a s.place.b a b y.high g.below);
    }) in
    line_on by e (on (line_read s a b (count_of c a b)) (line_place a b)
    (record {
      upto = line-upto by u e (line-answer c s a b u.stand.at.sized y is k);
      past = g.past;
      none = g.none;
      below = line-rises a b (b + 1) (omega arith);
      room = omega (arith, g.room);
    }))
line-turn c ls rs a b s p false v t y l g on =
    let r = line-rises a b (b + 1) (omega arith) in
    on s p
    (record {
      upto = skip (line_place a (b + 1)) (omega arith) g.upto (line-none c a b v y t);
      past = g.past;
      none = g.none;
      below = omega (arith, g.below);
      room = g.room;
    })

pub row-push : (t : Bool) (r : Record) (xs ls : List Record) → cond t (r ∷ xs) xs ++ ls ≡ cond t (r ∷ (xs ++ ls)) (xs ++ ls)
row-push true r xs ls = refl
row-push false r xs ls = refl

-- the lines of c from a to the m buses from b on
abbrev row_of : Case → ℕ → ℕ → ℕ → List Record
row_of c a b m = members (line_of c a) (neighbours c.nbr a) b m

-- one row
read-row : (c : Case) (ls rs : List Record) (a m b : ℕ) (s : Reader) (p : ℕ) → CountsLines c → 1 ≤ a → a < b → b + m ≡ c.n + 1
    → c.n ≤ most_buses → Lining c s p a b (length (row_of c a b m ++ ls)) →
    ((v : Reader) (o : ℕ) → Lining c v o a (c.n + 1) (length ls) → Readable c v (ls ++ rs)) →
    Readable c s ((row_of c a b m ++ ls) ++ rs)
unfolding members
read-row c ls rs a zero b s p v h l e k g on =
    let f : b ≡ c.n + 1 = omega arith in
    on s p (subst (λ (x : ℕ). Lining c s p a x (length ls)) f g)
read-row c ls rs a (suc m) b s p v h l e k g on =
    let y : Pair a b = record { one = h; less = l; high = omega arith } in
    let push = row-push (has (neighbours c.nbr a) b) (line_of c a b) (row_of c a (b + 1) m) ls in
    subst⁻¹ (λ (L : List Record). Readable c s (L ++ rs)) push
    (line-turn c (row_of c a (b + 1) m ++ ls) rs a b s p (has (neighbours c.nbr a) b) v refl y (omega arith)
    (subst (λ (L : List Record). Lining c s p a b (length L)) push g)
    (λ x o w. read-row c ls rs a m (b + 1) x o v h (omega arith) (omega arith) k w on))

-- ---- a whole case

-- a question about a bus above n
abbrev pub Above : ℕ → Ask → Type 0
Above n (zero_at k) = n < k
Above n (siteAt k) = n < k
Above n (unit_at k) = n < k
Above n (line_at i j) = n < j

-- the lines of c at the m buses from a on
abbrev pub lines_of : Case → ℕ → ℕ → List Record
lines_of c a m = line_records (neighbours c.nbr) (circuits c.nbr) a m

-- 1 to the most buses, at most the most lines, counted as they must be, and nothing at a bus above n
pub record Writable (c : Case) : Type 0 where
  pub one : 1 ≤ c.n
  pub most : c.n ≤ most_buses
  pub few : length (lines_of c 1 c.n) ≤ most_lines
  pub counts : CountsLines c
  pub above : (q : Ask) → AskInRange q → Above c.n q → answer c q ≡ 0

-- the places after row a and before row a + 1
row-gap : (c : Case) (a : ℕ) → Writable c → a ≤ c.n → (q : Ask) → AskInRange q → line_place a (c.n + 1) ≤ place q
    → place q < line_place (a + 1) (a + 1 + 1) → answer c q ≡ 0
row-gap c a w l (zero_at k) h x y = absurd (omega (arith, bus-line k a (c.n + 1) (omega (arith, h.most))))
row-gap c a w l (siteAt k) h x y = absurd (omega (arith, bus-line k a (c.n + 1) (omega (arith, h.most))))
row-gap c a w l (unit_at k) h x y =
    let m = w.most in absurd (omega (arith, line-unit (a + 1) (a + 1 + 1) k (omega arith) (omega arith)))
row-gap c a w l (line_at i j) h x y =
    let m = w.most in
    let hl = h.less in
    let hh = h.high in
    let from = line-most a (c.n + 1) i j (omega arith) x in
    let to = line-below i j (a + 1) (a + 1 + 1) (omega arith) y in
    w.above (line_at i j) h
    (⊎_elim
    (λ (e : a ≡ i). omega (arith, from.1 e))
    (λ (d : a ≡ i → ⊥). let e : i ≡ a + 1 = omega (arith, from.0, to.0) in absurd (omega (arith, to.1 e)))
    (same_or a i))

pub read-lines : (c : Case) (rs : List Record) → Writable c → (m a : ℕ) (s : Reader) (p : ℕ) → 1 ≤ a → a + m ≡ c.n + 1
    → Lining c s p a (a + 1) (length (lines_of c a m))
    → ((v : Reader) (o : ℕ) → Lining c v o (c.n + 1) (c.n + 1 + 1) 0 → Readable c v rs)
    → Readable c s (lines_of c a m ++ rs)
unfolding line_records
read-lines c rs w zero a s p h e g on =
    let f : a ≡ c.n + 1 = omega arith in
    on s p (subst (λ (x : ℕ). Lining c s p x (x + 1) 0) f g)
read-lines c rs w (suc m) a s p h e g on =
    let k = w.most in
    let rise = row-rises a (c.n + 1) (a + 1) (a + 1 + 1) (omega arith) (omega arith) in
    read-row c (lines_of c (a + 1) m) rs a m (a + 1) s p w.counts h (omega arith) (omega arith) k g
    (λ v o r. read-lines c rs w m (a + 1) v o (omega arith) (omega arith)
    (record {
      upto = skip (line_place (a + 1) (a + 1 + 1)) (omega arith) r.upto (row-gap c a w (omega arith));
      past = r.past;
      none = r.none;
      below = omega (arith, r.below);
      room = r.room;
    })
    on)

-- the places between the buses and the lines, the lines and the units, and after the units
bus-gap : (c : Case) → Writable c → (q : Ask) → AskInRange q → bus_place (c.n + 1) ≤ place q → place q < line_place 1 (1 + 1)
    → answer c q ≡ 0
bus-gap c w (zero_at k) h x y = w.above (zero_at k) h (bus-past c.n k (omega (arith, h.most)) x)
bus-gap c w (siteAt k) h x y = w.above (siteAt k) h (bus-past c.n k (omega (arith, h.most)) x)
bus-gap c w (unit_at k) h x y = absurd (omega (arith, line-unit 1 (1 + 1) k (omega arith) (omega arith)))
bus-gap c w (line_at i j) h x y =
    let o = h.one in
    let l = h.less in
    let to = line-below i j 1 (1 + 1) (omega arith) y in
    absurd (omega (arith, to.0, to.1 (omega (arith, to.0))))

line-gap : (c : Case) → Writable c → (q : Ask) → AskInRange q → line_place (c.n + 1) (c.n + 1 + 1) ≤ place q → place q < unit_place 1
    → answer c q ≡ 0
line-gap c w (zero_at k) h x y = absurd (omega (arith, bus-line k (c.n + 1) (c.n + 1 + 1) (omega (arith, h.most))))
line-gap c w (siteAt k) h x y = absurd (omega (arith, bus-line k (c.n + 1) (c.n + 1 + 1) (omega (arith, h.most))))
line-gap c w (unit_at k) h x y = absurd (omega (arith, h.some, unit-below k 1 (omega arith) y))
line-gap c w (line_at i j) h x y =
    let l = h.less in
    w.above (line_at i j) h (omega (arith, (line-most (c.n + 1) (c.n + 1 + 1) i j (omega (arith, h.high)) x).0))

unit-gap : (c : Case) → Writable c → (q : Ask) → AskInRange q → unit_place (c.n + 1) ≤ place q → place q < last_place → answer c q ≡ 0
unit-gap c w (zero_at k) h x y = absurd (omega (arith, bus-unit k (c.n + 1) (omega (arith, h.most))))
unit-gap c w (siteAt k) h x y = absurd (omega (arith, bus-unit k (c.n + 1) (omega (arith, h.most))))
unit-gap c w (unit_at k) h x y = w.above (unit_at k) h (unit-past c.n k (omega (arith, h.most)) x)
unit-gap c w (line_at i j) h x y = absurd (omega (arith, pair-unit i j (c.n + 1) h))

no_place : (c : Case) (n : ℕ) (q : Ask) → AskInRange q → place q < bus_place 1
    → answer c q ≡ answer (case_so_far (next_reader start (Grid n))) q
no_place c n (zero_at k) h l = absurd (omega (arith, h.some, bus-below k 1 (omega arith) l))
no_place c n (siteAt k) h l = absurd (omega (arith, h.some, bus-below k 1 (omega arith) l))
no_place c n (unit_at k) h l = absurd (omega (arith, bus-unit 1 k (omega arith)))
no_place c n (line_at i j) h l = absurd (omega (arith, bus-line 1 i j (omega arith)))

pub readable : (c : Case) → Writable c → Readable c start (records c)
readable c w =
    let e : judged start.place (Grid c.n) ≡ Ok Next =
    accept start.place (Grid c.n) refl (inside most_buses c.n w.one w.most) refl in
    let k = w.most in
    read-on (Grid c.n) e
    (read-buses c _ c.n 1 (next_reader start (Grid c.n)) (bus_place 0)
    (record { stand = first-stand c.n e; low = bus-rises 0 1 (omega arith); size = refl; agree = no_place c c.n })
    refl (omega arith) (record { unit = refl; a = refl; b = refl; lines = refl })
    (λ s p u b z. let n = u.size in
    let first = bus-line (c.n + 1) 1 (1 + 1) (omega arith) in
    read-lines c _ w c.n 1 s p (omega arith) (omega arith)
    (record {
      upto = skip (line_place 1 (1 + 1)) (omega arith) u (bus-gap c w);
      past = omega arith;
      none = z.unit;
      below = row-rises s.place.a s.place.b 1 (1 + 1) (omega (arith, z.a)) (omega (arith, z.b));
      room = omega (arith, w.few, z.lines);
    })
    (λ t o g. let next = line-unit (c.n + 1) (c.n + 1 + 1) 1 (omega arith) (omega arith) in
    let last = unit-last (c.n + 1) (omega arith) in
    read-units c _ c.n 1 t o (skip (unit_place 1) (omega arith) g.upto (line-gap c w)) g.past (omega (arith, g.none))
    (omega arith) (omega arith)
    (λ v r x l. read_end (skip last_place (omega arith) x (unit-gap c w)) l))))
