-- What is read has at most the most lines.
use Rattle.std.specs.Prelude.{Ok}
use mathlib.Core.Path.{◌≡◌, refl, ap, ◌∙◌, subst}
use mathlib.Core.Bool.{Bool, true, false, cond}
use mathlib.Core.List.{List, [], ◌∷◌, ◌++◌}
use mathlib.Core.Logic.{⊎_elim}
use Prim.Native.Nat.{ℕ, suc, zero, ◌+◌, ◌≤◌, ◌<◌}
use native.Mathlib.Omega.{arith}
use borrow.Author.Tests.{eqb-true}
use lib.Dec.{ltb}
use lib.ListN.{length}
use Rattle.basics.proofs.Tests.{below_or, same_or}
use Rattle.grid.specs.Limits.{most_buses, most_lines, least_several}
use Rattle.grid.specs.Rows.{neighbours, circuits}
use Rattle.case_line.specs.declared.Record.{Record}
use Rattle.case_line.specs.declared.Record.TheVariants.{Grid, Bus, Line, Circuits, Pmu, End, Wrong}
use Rattle.case_judge.specs.Judging.{judged}
use Rattle.case_read.specs.Reading.{case_so_far, next_reader, start}
use Rattle.case_read.specs.declared.Reader.{Reader}
use Rattle.case_inverse.specs.Grammar.{ReadsAs}
use Rattle.case_inverse.specs.Grammar.ReadsAs.{ends, goes}
use Rattle.case_line.specs.CaseText.{has, members, line_record, line_from, line_records}
use Rattle.grid.specs.declared.Case.{Case}
use Rattle.case_judge.specs.declared.Standing.TheVariants.{Next}
use Rattle.case_judge.proofs.Judged.{fit_of}
use Rattle.grid.proofs.Joined.{joined, Pair}
use Rattle.case_inverse.proofs.Spots.{bus_place, line_place, line-rises, row-rises, bus-line}
use Rattle.case_inverse.proofs.Places.{Ask, AskInRange, place, record_place, answer, unchanged, pair-unit}
use Rattle.case_inverse.proofs.Places.{LineBy, line-place, line_read_lem, line-room}
use Rattle.case_inverse.proofs.Places.LineBy.{single, multiple}
use Rattle.case_inverse.proofs.Places.Ask.{line_at}
use Rattle.case_inverse.proofs.Unique.{Stand, Stepped, stepped, not_end, Settled, settled}
use Rattle.case_inverse.proofs.Texts.{begun, first-stand}
use Rattle.case_inverse.proofs.Written.{lines_of, row-push}

-- a line of c beyond p
pub record LineBeyond (c : Case) (p a b : ℕ) : Type 0 where
  pub pair : Pair a b
  pub past : p < line_place a b
  pub is : joined c.nbr a b ≡ 1

-- lines of c in rising order, all beyond p
abbrev Rising : Case → ℕ → List Record → Type 0
Rising c p [] = Unit {0}
Rising c p (Grid n ∷ L) = ⊥
Rising c p (Bus k z o ∷ L) = ⊥
Rising c p (Line a b ∷ L) = LineBeyond c p a b × Rising c (line_place a b) L
Rising c p (Circuits a b k ∷ L) = LineBeyond c p a b × Rising c (line_place a b) L
Rising c p (Pmu k ∷ L) = ⊥
Rising c p (End ∷ L) = ⊥
Rising c p (Wrong ∷ L) = ⊥

rising-line : (c : Case) (p a b k : ℕ) (L : List Record) → LineBeyond c p a b → Rising c (line_place a b) L
    → Rising c p (line_record a b k ∷ L)
rising-line c p a b k L y f = go (ltb k least_several)
  where
    go : (t : Bool) → Rising c p (cond t (Line a b) (Circuits a b k) ∷ L)
    go true = (y, f)
    go false = (y, f)

-- from w on
abbrev From : Case → ℕ → List Record → Type 0
From c w L = (p : ℕ) → p < w → Rising c p L

row-turn : (c : Case) (a b : ℕ) (L : List Record) (t : Bool) → has (neighbours c.nbr a) b ≡ t → Pair a b
    → From c (line_place a (b + 1)) L
    → From c (line_place a b) (cond t (line_from (circuits c.nbr) a b ∷ L) L)
row-turn c a b L true e y f p l =
    rising-line c p a b (circuits c.nbr a b) L (record { pair = y; past = l; is = eqb-true _ 1 e })
    (f (line_place a b) (line-rises a b (b + 1) (omega arith)))
row-turn c a b L false e y f p l = f p (omega (arith, line-rises a b (b + 1) (omega arith)))

row_from : (c : Case) (a m b : ℕ) (L : List Record) → 1 ≤ a → a < b → b + m ≤ suc most_buses → From c (line_place (a + 1) 0) L
    → From c (line_place a b) (members (line_from (circuits c.nbr) a) (neighbours c.nbr a) b m ++ L)
unfolding members
row_from c a zero b L h l k f = λ p q. f p (omega (arith, row-rises a b (a + 1) 0 (omega arith) (omega arith)))
row_from c a (suc m) b L h l k f =
    let t = has (neighbours c.nbr a) b in
    let M = members (line_from (circuits c.nbr) a) (neighbours c.nbr a) (b + 1) m in
    rw (row-push t (line_from (circuits c.nbr) a b) M L)
    (row-turn c a b (M ++ L) t refl (record { one = h; less = l; high = omega arith })
    (row_from c a m (b + 1) L h (omega arith) (omega arith) f))

lines_from : (c : Case) (m a : ℕ) → 1 ≤ a → a + m ≤ suc most_buses → From c (line_place a 0) (lines_of c a m)
unfolding line_records
lines_from c zero a h k p q = tt
lines_from c (suc m) a h k p q =
    row_from c a m (a + 1) (lines_of c (a + 1) m) h (omega arith) (omega arith)
    (lines_from c m (a + 1) (omega arith) (omega arith)) p (omega (arith, line-rises a 0 (a + 1) (omega arith)))

-- nothing is answered between where the reader stands and its next record
quiet : {s : Reader} {p : ℕ} (c : Case) (r : Record) (q : Ask) → Stand s p → Stepped s p r → Settled c (next_reader s r) (record_place r)
    → AskInRange q
    → p < place q → place q < record_place r → answer c q ≡ 0
quiet {s} c r q t u m h l k =
    m q h (omega arith) ∙ unchanged s r q t.at.sized t.grid u.fact h (λ e. omega arith) ∙ t.at.fresh q h l

-- what is left to read after a record has room for so many lines of c beyond it
abbrev FewAfter : Reader → Case → Record → Type 0
FewAfter s c r =
    (next_reader s r).place.lines ≤ most_lines → (M : List Record) → Rising c (record_place r) M
    → (next_reader s r).place.lines + length M ≤ most_lines

-- after a line's record, where (a, b) is the next line of c
few-line : {s : Reader} {p : ℕ} {x : List ℕ} {c : Case} {r : Record} {i j k : ℕ} → Stand s p → LineBy r i j k → judged s.place r ≡ Ok Next
    → ReadsAs (next_reader s r) x c → (a b : ℕ) (L : List Record) → LineBeyond c p a b → Rising c (line_place a b) L → Stepped s p r
    → FewAfter s c r → s.place.lines + suc (length L) ≤ most_lines
few-line {s} {p} {x} {c} {r} {i} {j} t y e d a b L g f u on =
    let n = line-room s.place y (fit_of s.place r t.at.small e) in
    let after : (next_reader s r).place.lines ≡ s.place.lines + 1 = ap (λ (z : Reader). z.place.lines) (line_read_lem s y) in
    let at = line-place y in
    ⊎_elim
    (λ (l : line_place a b < record_place r).
    absurd (omega (arith, g.is, quiet c r (line_at a b) t u (settled u.on d) g.pair g.past l)))
    (λ (l : record_place r ≤ line_place a b). ⊎_elim
    (λ (q : line_place a b ≡ record_place r). omega (arith, after, on (omega arith) L (subst (λ (w : ℕ). Rising c w L) q f)))
    (λ (q : line_place a b ≡ record_place r → ⊥).
    omega (arith, after, on (omega arith) (Line a b ∷ L) (record { pair = g.pair; past = omega arith; is = g.is }, f)))
    (same_or (line_place a b) (record_place r)))
    (below_or (line_place a b) (record_place r))

few-turn : {s : Reader} {p : ℕ} {x : List ℕ} {c : Case} → Stand s p → s.place.lines ≤ most_lines → (r : Record)
    → judged s.place r ≡ Ok Next
    → ReadsAs (next_reader s r) x c → (a b : ℕ) (L : List Record) → LineBeyond c p a b → Rising c (line_place a b) L → Stepped s p r
    → FewAfter s c r → s.place.lines + suc (length L) ≤ most_lines
few-turn {s} t l (Grid n) e d a b L g f u on = absurd (omega (arith, u.fact, t.grid))
few-turn {s} t l (Bus k z o) e d a b L g f u on =
    on l (Line a b ∷ L) (record { pair = g.pair; past = bus-line k a b (omega (arith, u.fact.bus.most)); is = g.is }, f)
few-turn t l (Line i j) e d a b L g f u on = few-line t single e d a b L g f u on
few-turn t l (Circuits i j k) e d a b L g f u on = few-line t (multiple u.fact.1) e d a b L g f u on
few-turn {s} {c = c} t l (Pmu k) e d a b L g f u on =
    let y = g.pair in
    absurd (omega (arith, g.is, quiet c (Pmu k) (line_at a b) t u (settled u.on d) y g.past (pair-unit a b k y)))
few-turn {s} t l End e d a b L g f u on = absurd (not_end s.place End e refl)
few-turn {s} t l Wrong e d a b L g f u on = absurd u.fact

-- no line is beyond where the reader has ended
none-beyond : {s : Reader} {p a b : ℕ} → Stand s p → LineBeyond (case_so_far s) p a b → ⊥
none-beyond {a = a} {b = b} t g = omega (arith, g.is, t.at.fresh (line_at a b) g.pair g.past)

few-ends : {s : Reader} {p : ℕ} → Stand s p → s.place.lines ≤ most_lines → (L : List Record) → Rising (case_so_far s) p L
    → s.place.lines + length L ≤ most_lines
few-ends t l [] g = omega arith
few-ends t l (Grid n ∷ L) g = absurd g
few-ends t l (Bus k z o ∷ L) g = absurd g
few-ends t l (Line a b ∷ L) g = absurd (none-beyond t g.0)
few-ends t l (Circuits a b k ∷ L) g = absurd (none-beyond t g.0)
few-ends t l (Pmu k ∷ L) g = absurd g
few-ends t l (End ∷ L) g = absurd g
few-ends t l (Wrong ∷ L) g = absurd g

few-goes : {s : Reader} {p : ℕ} {x : List ℕ} {c : Case} → Stand s p → s.place.lines ≤ most_lines → (r : Record)
    → judged s.place r ≡ Ok Next
    → ReadsAs (next_reader s r) x c → (L : List Record) → Rising c p L → Stepped s p r → FewAfter s c r
    → s.place.lines + length L ≤ most_lines
few-goes t l r e d [] g u on = omega arith
few-goes t l r e d (Grid n ∷ L) g u on = absurd g
few-goes t l r e d (Bus k z o ∷ L) g u on = absurd g
few-goes t l r e d (Line a b ∷ L) g u on = few-turn t l r e d a b L g.0 g.1 u on
few-goes t l r e d (Circuits a b k ∷ L) g u on = few-turn t l r e d a b L g.0 g.1 u on
few-goes t l r e d (Pmu k ∷ L) g u on = absurd g
few-goes t l r e d (End ∷ L) g u on = absurd g
few-goes t l r e d (Wrong ∷ L) g u on = absurd g

few-lines : {s : Reader} {p : ℕ} {x : List ℕ} {c : Case} → Stand s p → s.place.lines ≤ most_lines → ReadsAs s x c → (L : List Record)
    → Rising c p L → s.place.lines + length L ≤ most_lines
few-lines t l (ends e) L g = few-ends t l L g
few-lines t l (goes r e d) L g = few-goes t l r e d L g (stepped r t e) (λ h M k. few-lines (stepped r t e).on h d M k)

-- what is read has at most the most lines
pub read-few : (x : List ℕ) (c : Case) → ReadsAs start x c → length (lines_of c 1 c.n) ≤ most_lines
read-few x c d =
    let b = begun d in
    let t = first-stand c.n b.told in
    let k = t.at.small in
    omega (
      arith,
      few-lines t (omega arith) b.on (lines_of c 1 c.n)
          (lines_from c c.n 1 (omega arith) (omega arith) (bus_place 0) (bus-line 0 1 0 (omega arith))),
    )
