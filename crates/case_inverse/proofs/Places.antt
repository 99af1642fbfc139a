-- Where a reader stands: each record answers the questions at its own place, and places rise.
-- A case is a bundle of answers: is bus k of class Z, is it a site, has it a unit, are i and j joined and by how many circuits.
-- Each question has a place, and a record answers the questions at its own place. Places are in the order of the records of a
-- text: `bus k` by k, then `line a b` by a and then by b, then `pmu p` by p. Spots.antt has the laws of that order.
-- So a reader that has read up to a place knows all answers below it, and a record that it passes over answers 0.
-- From this the two directions follow. What is written is read: the writer goes through the places in order, and the reader
-- accepts each record because its place rises. What is read is written: the case that is read fixes the answer at each
-- place, so the next record of any text that gives this case is fixed too, and with it the text.
use mathlib.Core.Path.{◌≡◌, refl, ap, ap₂, ◌∙◌, subst⁻¹}
use mathlib.Core.Bool.{Bool, true, false, ◌&&◌, ◌||◌}
use Prim.Native.Nat.{ℕ, ◌+◌, ◌*◌, ◌≤◌, ◌<◌}
use native.Mathlib.Omega.{arith}
use borrow.Author.Tests.{leb-true, ltb-true, eqb-true}
use lib.Dec.{eqb, ltb, leb}
use Rattle.busset.specs.Sets.{bit, set_of, width, Bus as IsBus}
use Rattle.busset.proofs.Holding.{hold-there, if_there}
use Rattle.text_field.proofs.Tested.{both}
use Rattle.case_line.specs.declared.Record.{Record}
use Rattle.case_line.specs.declared.Record.TheVariants.{Grid, Bus, Line, Circuits, Pmu, End, Wrong}
use Rattle.grid.specs.Limits.{most_buses, most_lines}
use Rattle.grid.specs.Rows.{Rows, circuits, with_line}
use Rattle.grid.specs.Cases.{Sized, CircuitCount}
use Rattle.grid.specs.declared.Case.{Case}
use Rattle.grid.proofs.Joined.{joined, SameSeen, same-joined, same-circuits, Pair}
use Rattle.grid.proofs.Joined.{line_here, count_here, line_there, line_rows}
use Rattle.case_judge.specs.Judging.{is_after, past_buses, place_after_line, Fit}
use Rattle.case_read.specs.Reading.{case_so_far, next_reader}
use Rattle.case_read.specs.declared.Reader.{Reader}
use Rattle.case_judge.specs.declared.Place.{Place}
use Rattle.case_judge.proofs.Judged.{TestsPassed, Several, inside, line-ends, circuits_range, circuits_passed}
use Rattle.case_inverse.proofs.Spots.{bus_place, line_place, unit_place, last_place, bus-rises, line-rises, row-rises, unit-rises}
use Rattle.case_inverse.proofs.Spots.{bus-line, bus-unit, line-unit, unit-last, bus-same, line_same, unit-same}

-- ---- questions and places

-- what i sees of j: 1 if they are joined and 0 if not, and twice the circuits
abbrev pub tie : Rows → ℕ → ℕ → ℕ
tie rows i j = joined rows i j + 2 * circuits rows i j

pub tie-same : {old new : Rows} {i j : ℕ} → SameSeen old new i j → tie new i j ≡ tie old i j
tie-same p = omega (arith, same-joined p, same-circuits p)

-- what a case can be asked, and its answer: 0 or 1, and of two buses what the lower sees of the other
pub data Ask : Type 0 where
  zero_at siteAt unit_at : ℕ → Ask
  line_at : ℕ → ℕ → Ask

abbrev pub answer : Case → Ask → ℕ
answer c (zero_at k) = bit (set_of c.zero) k
answer c (siteAt k) = bit (set_of c.site) k
answer c (unit_at k) = bit (set_of c.units) k
answer c (line_at i j) = tie c.nbr i j

abbrev pub AskInRange : Ask → Type 0
AskInRange (zero_at k) = IsBus width k
AskInRange (siteAt k) = IsBus width k
AskInRange (unit_at k) = IsBus width k
AskInRange (line_at i j) = Pair i j

-- the place of a question, and of a record
abbrev pub place : Ask → ℕ
place (zero_at k) = bus_place k
place (siteAt k) = bus_place k
place (unit_at k) = unit_place k
place (line_at i j) = line_place i j

abbrev pub record_place : Record → ℕ
record_place (Grid n) = bus_place 0
record_place (Bus k z o) = bus_place k
record_place (Line a b) = line_place a b
record_place (Circuits a b k) = line_place a b
record_place (Pmu p) = unit_place p
record_place End = last_place
record_place Wrong = last_place

-- ---- the two records of a line

-- r is the record of the line from a to b by k circuits
pub data LineBy : Record → ℕ → ℕ → ℕ → Type 0 where
  single : {a b : ℕ} → LineBy (Line a b) a b 1
  multiple : {a b k : ℕ} → Several k → LineBy (Circuits a b k) a b k

-- where the reader stands after it
abbrev pub line_read : Reader → ℕ → ℕ → ℕ → Reader
line_read s a b k = record { place = place_after_line s.place a b; rows = with_line s.rows a b k; marks = s.marks }

pub line-place : {r : Record} {a b k : ℕ} → LineBy r a b k → record_place r ≡ line_place a b
line-place single = refl
line-place (multiple v) = refl

pub line_read_lem : (s : Reader) {r : Record} {a b k : ℕ} → LineBy r a b k → next_reader s r ≡ line_read s a b k
line_read_lem s single = refl
line_read_lem s (multiple v) = refl

-- its circuits are 1 to the most
pub line-count : {r : Record} {a b k : ℕ} → LineBy r a b k → CircuitCount k
line-count single = record { some = omega arith; most = omega arith }
line-count (multiple v) = record { some = omega (arith, v.least); most = v.most }

-- it was not one too many
pub line-room : (s : Place) {r : Record} {a b k : ℕ} → LineBy r a b k → Fit s r → s.lines < most_lines
line-room s single f = f.2
line-room s (multiple v) f = f.0.2

-- a line by so many circuits has one record
pub line-by-same : {r q : Record} {a b k : ℕ} → LineBy r a b k → LineBy q a b k → r ≡ q
line-by-same single single = refl
line-by-same single (multiple v) = absurd (omega (arith, v.least))
line-by-same (multiple v) single = absurd (omega (arith, v.least))
line-by-same (multiple v) (multiple w) = refl

-- ---- the order of places

-- the two buses of a line
pub pair-unit : (a b k : ℕ) → Pair a b → line_place a b < unit_place k
pair-unit a b k y = line-unit a b k (omega arith) (omega arith)

-- all places are before the end
pub all-below : (q : Ask) → AskInRange q → place q < last_place
all-below (zero_at k) h = let m = h.most in omega (arith, bus-unit k 0 (omega arith), unit-last 0 (omega arith))
all-below (siteAt k) h = let m = h.most in omega (arith, bus-unit k 0 (omega arith), unit-last 0 (omega arith))
all-below (unit_at k) h = let m = h.most in unit-last k (omega arith)
all-below (line_at i j) h = omega (arith, pair-unit i j 0 h, unit-last 0 (omega arith))

-- what holds of the questions of a record holds of every question at its place
module _ (P : Ask → Type 0) where
  pub at_bus : (k : ℕ) → IsBus width k → P (zero_at k) → P (siteAt k) → (q : Ask) → AskInRange q → place q ≡ bus_place k → P q
  at_bus k b z o (zero_at j) h e = subst⁻¹ (λ (x : ℕ). P (zero_at x)) (bus-same j k (omega (arith, h.most)) (omega (arith, b.most)) e) z
  at_bus k b z o (siteAt j) h e = subst⁻¹ (λ (x : ℕ). P (siteAt x)) (bus-same j k (omega (arith, h.most)) (omega (arith, b.most)) e) o
  at_bus k b z o (unit_at j) h e = absurd (omega (arith, bus-unit k j (omega (arith, b.most))))
  at_bus k b z o (line_at i j) h e = absurd (omega (arith, bus-line k i j (omega (arith, b.most))))

  pub at_line : (a b : ℕ) → Pair a b → P (line_at a b) → (q : Ask) → AskInRange q → place q ≡ line_place a b → P q
  at_line a b y l (zero_at j) h e = absurd (omega (arith, bus-line j a b (omega (arith, h.most))))
  at_line a b y l (siteAt j) h e = absurd (omega (arith, bus-line j a b (omega (arith, h.most))))
  at_line a b y l (unit_at j) h e = absurd (omega (arith, pair-unit a b j y))
  at_line a b y l (line_at i j) h e =
      let f = line_same i j a b (omega (arith, h.high)) (omega (arith, y.high)) e in
      subst⁻¹ (λ (x : ℕ). P (line_at x j)) f.0 (subst⁻¹ (λ (x : ℕ). P (line_at a x)) f.1 l)

  pub at_unit : (k : ℕ) → IsBus width k → P (unit_at k) → (q : Ask) → AskInRange q → place q ≡ unit_place k → P q
  at_unit k b u (zero_at j) h e = absurd (omega (arith, bus-unit j k (omega (arith, h.most))))
  at_unit k b u (siteAt j) h e = absurd (omega (arith, bus-unit j k (omega (arith, h.most))))
  at_unit k b u (unit_at j) h e = subst⁻¹ (λ (x : ℕ). P (unit_at x)) (unit-same j k (omega (arith, h.most)) (omega (arith, b.most)) e) u
  at_unit k b u (line_at i j) h e = absurd (omega (arith, pair-unit i j k h))

-- ---- what an accepted record says, in numbers

pub record NextBus (s : Place) (k : ℕ) : Type 0 where
  pub more : s.bus < s.n
  pub bus : IsBus width k
  pub next : k ≡ s.bus + 1

pub record NextLine (s : Place) (a b : ℕ) : Type 0 where
  pub past : s.n ≤ s.bus
  pub none : s.unit ≡ 0
  pub pair : Pair a b
  pub rises : line_place s.a s.b < line_place a b

pub record NextUnit (s : Place) (p : ℕ) : Type 0 where
  pub past : s.n ≤ s.bus
  pub bus : IsBus width p
  pub rises : s.unit < p

abbrev pub Facts : Place → Record → Type 0
Facts s (Grid n) = s.n ≡ 0
Facts s (Bus k z o) = NextBus s k
Facts s (Line a b) = NextLine s a b
Facts s (Circuits a b k) = NextLine s a b × Several k
Facts s (Pmu p) = NextUnit s p
Facts s End = s.n ≤ s.bus
Facts s Wrong = ⊥

-- the buses of a line that is the next
pub line-pair : (s : Place) {r : Record} {a b k : ℕ} → LineBy r a b k → Facts s r → Pair a b
line-pair s single f = f.pair
line-pair s (multiple v) f = f.0.pair

-- what is answered of it then
pub line-tie : (s : Reader) (a b k : ℕ) → Sized (case_so_far s) → Pair a b → CircuitCount k
    → answer (case_so_far (line_read s a b k)) (line_at a b) ≡ 1 + 2 * k
line-tie s a b k l y c =
    omega (arith, line_here s.rows a b k l.rows y, count_here s.rows a b k l.rows y (omega (arith, c.most)))

pub past-buses : (s : Place) → past_buses s ≡ true → s.n ≤ s.bus
unfolding past_buses
past-buses s e = let p = both (ltb 0 s.n) (leb s.n s.bus) e in leb-true s.n s.bus p.1

risen : (a b c d : ℕ) → b ≤ most_buses → is_after a b c d ≡ true → line_place a b < line_place c d
unfolding is_after
risen a b c d h e = go (ltb a c) refl e
  where
    go : (t : Bool) → ltb a c ≡ t → (t || (eqb a c && ltb b d)) ≡ true → line_place a b < line_place c d
    go true f e = row-rises a b c d (ltb-true a c f) (omega arith)
    go false f e =
        let p = both (eqb a c) (ltb b d) e in
        subst⁻¹ (λ (x : ℕ). line_place x b < line_place c d) (eqb-true a c p.0) (line-rises c b d (ltb-true b d p.1))

line-facts : (s : Place) (x y : ℕ) → s.n ≤ most_buses → s.b ≤ most_buses → TestsPassed s (Line x y) → NextLine s x y
line-facts s x y h k a =
    let p = both (past_buses s) (eqb s.unit 0) a.place in
    let t = line-ends s x y a.range in
    let o = both (ltb x y) (is_after s.a s.b x y) a.order in
    record {
      past = past-buses s p.0;
      none = eqb-true s.unit 0 p.1;
      pair = record { one = t.from.some; less = ltb-true x y o.0; high = omega (arith, t.to.most) };
      rises = risen s.a s.b x y k o.1;
    }

pub facts : (s : Place) (r : Record) → s.n ≤ most_buses → s.b ≤ most_buses → TestsPassed s r → Facts s r
facts s (Grid n) h k a = eqb-true s.n 0 a.place
facts s (Bus x z o) h k a =
    let i = inside s.n x a.range in
    record {
      more = ltb-true s.bus s.n a.place;
      bus = record { some = i.some; most = omega (arith, i.most) };
      next = eqb-true x (s.bus + 1) a.order;
    }
facts s (Line x y) h k a = line-facts s x y h k a
facts s (Circuits x y c) h k a = (line-facts s x y h k (circuits_passed s x y c a), (circuits_range s x y c a.range).1)
facts s (Pmu x) h k a =
    let i = inside s.n x a.range in
    record {
      past = past-buses s a.place;
      bus = record { some = i.some; most = omega (arith, i.most) };
      rises = ltb-true s.unit x a.order;
    }
facts s End h k a = past-buses s a.place
facts s Wrong h k a = let e = a.place in cc

-- ---- one record

-- the reader stands at p: it has answered nothing beyond, and its next record lies beyond
pub record At (s : Reader) (p : ℕ) : Type 0 where
  pub small : s.place.n ≤ most_buses
  pub low : s.place.b ≤ most_buses
  pub sized : Sized (case_so_far s)
  pub to_bus : s.place.bus < s.place.n → p ≤ bus_place s.place.bus
  pub to_line : s.place.unit ≡ 0 → p ≤ line_place s.place.a s.place.b
  pub to_unit : p ≤ unit_place s.place.unit
  pub fresh : (q : Ask) → AskInRange q → p < place q → answer (case_so_far s) q ≡ 0

-- a record is beyond where the reader stands
pub beyond : (s : Reader) (p : ℕ) (r : Record) → At s p → 0 < s.place.n → (r ≡ End → ⊥) → Facts s.place r → p < record_place r
beyond s p (Grid n) t g e f = absurd (omega arith)
beyond s p (Bus k z o) t g e f =
    omega (arith, t.to_bus f.more, bus-rises s.place.bus k (omega (arith, f.next)))
beyond s p (Line a b) t g e f = omega (arith, t.to_line f.none, f.rises)
beyond s p (Circuits a b k) t g e f = let l = f.0 in omega (arith, t.to_line l.none, l.rises)
beyond s p (Pmu k) t g e f = omega (arith, t.to_unit, unit-rises s.place.unit k f.rises)
beyond s p End t g e f = absurd (e refl)
beyond s p Wrong t g e f = absurd f

-- it changes no answer but those at its own place
line-unchanged : (s : Reader) (a b k : ℕ) (q : Ask) → Sized (case_so_far s) → Pair a b → AskInRange q → (place q ≡ line_place a b → ⊥)
    → answer (case_so_far (line_read s a b k)) q ≡ answer (case_so_far s) q
line-unchanged s a b k (zero_at j) l y h d = refl
line-unchanged s a b k (siteAt j) l y h d = refl
line-unchanged s a b k (unit_at j) l y h d = refl
line-unchanged s a b k (line_at i j) l y h d = tie-same (line_there s.rows a b k l.rows y i j h (λ e g. d (ap₂ line_place e g)))

pub unchanged : (s : Reader) (r : Record) (q : Ask) → Sized (case_so_far s) → 0 < s.place.n → Facts s.place r → AskInRange q
    → (place q ≡ record_place r → ⊥)
    → answer (case_so_far (next_reader s r)) q ≡ answer (case_so_far s) q
unchanged s (Grid n) q l g f h d = absurd (omega arith)
unchanged s (Bus k z o) (zero_at j) l g f h d = if_there z s.marks.zero k j f.bus.some (λ e. d (ap bus_place e))
unchanged s (Bus k z o) (siteAt j) l g f h d = if_there o s.marks.site k j f.bus.some (λ e. d (ap bus_place e))
unchanged s (Bus k z o) (unit_at j) l g f h d = refl
unchanged s (Bus k z o) (line_at i j) l g f h d = refl
unchanged s (Line a b) q l g f h d = line-unchanged s a b 1 q l f.pair h d
unchanged s (Circuits a b k) q l g f h d = line-unchanged s a b k q l f.0.pair h d
unchanged s (Pmu p) (zero_at j) l g f h d = refl
unchanged s (Pmu p) (siteAt j) l g f h d = refl
unchanged s (Pmu p) (unit_at j) l g f h d = hold-there s.marks.units p j f.bus.some (λ e. d (ap unit_place e))
unchanged s (Pmu p) (line_at i j) l g f h d = refl
unchanged s End q l g f h d = refl
unchanged s Wrong q l g f h d = absurd f

-- and leaves what the type says
same_size : (s : Reader) (r : Record) → Facts s.place r → Sized (case_so_far s) → Sized (case_so_far (next_reader s r))
same_size s (Grid n) f l = record { rows = l.rows }
same_size s (Bus k z o) f l = record { rows = l.rows }
same_size s (Line a b) f l = record { rows = line_rows s.rows a b 1 l.rows f.pair }
same_size s (Circuits a b k) f l = record { rows = line_rows s.rows a b k l.rows f.0.pair }
same_size s (Pmu p) f l = record { rows = l.rows }
same_size s End f l = l
same_size s Wrong f l = absurd f

-- and the reader then stands at its place
pub stands : (s : Reader) (p : ℕ) (r : Record) → At s p → 0 < s.place.n → (r ≡ End → ⊥) → Facts s.place r
    → At (next_reader s r) (record_place r)
stands s p r t g e f =
    let b = beyond s p r t g e f in
    let new : (q : Ask) → AskInRange q → record_place r < place q → answer (case_so_far (next_reader s r)) q ≡ 0 =
    λ q h l. unchanged s r q t.sized g f h (λ d. omega arith) ∙ t.fresh q h (omega arith) in
    stood s r t g e f new (same_size s r f t.sized)
  where
    stood_line : (s : Reader) (a b k : ℕ) → At s p → NextLine s.place a b →
        ((q : Ask) → AskInRange q → line_place a b < place q → answer (case_so_far (line_read s a b k)) q ≡ 0)
        → Sized (case_so_far (line_read s a b k)) → At (line_read s a b k) (line_place a b)
    stood_line s a b k t f new l =
        let i = f.past in
        let j = f.pair in
        record {
          small = t.small;
          low = j.high;
          sized = l;
          to_bus = λ h. absurd (omega arith);
          to_line = λ h. omega arith;
          to_unit = omega (arith, pair-unit a b s.place.unit j);
          fresh = new;
        }

    stood : (s : Reader) (r : Record) → At s p → 0 < s.place.n → (r ≡ End → ⊥) → Facts s.place r →
        ((q : Ask) → AskInRange q → record_place r < place q → answer (case_so_far (next_reader s r)) q ≡ 0)
        → Sized (case_so_far (next_reader s r))
        → At (next_reader s r) (record_place r)
    stood s (Grid n) t g e f new l = absurd (omega arith)
    stood s (Bus k z o) t g e f new l =
        let m = f.bus.most in
        record {
          small = t.small;
          low = t.low;
          sized = l;
          to_bus = λ h. omega arith;
          to_line = λ h. omega (arith, bus-line k s.place.a s.place.b (omega arith));
          to_unit = omega (arith, bus-unit k s.place.unit (omega arith));
          fresh = new;
        }
    stood s (Line a b) t g e f new l = stood_line s a b 1 t f new l
    stood s (Circuits a b k) t g e f new l = stood_line s a b k t f.0 new l
    stood s (Pmu k) t g e f new l =
        let i = f.past in
        let j = f.rises in
        record {
          small = t.small;
          low = t.low;
          sized = l;
          to_bus = λ h. absurd (omega arith);
          to_line = λ h. absurd (omega arith);
          to_unit = omega arith;
          fresh = new;
        }
    stood s End t g e f new l = absurd (e refl)
    stood s Wrong t g e f new l = absurd f

pub same-n : (s : Reader) (r : Record) → 0 < s.place.n → Facts s.place r → (next_reader s r).place.n ≡ s.place.n
same-n s (Grid n) g f = absurd (omega arith)
same-n s (Bus k z o) g f = refl
same-n s (Line a b) g f = refl
same-n s (Circuits a b k) g f = refl
same-n s (Pmu p) g f = refl
same-n s End g f = refl
same-n s Wrong g f = refl

pub more-buses : (s : Reader) (r : Record) → 0 < s.place.n → Facts s.place r → 0 < (next_reader s r).place.n
more-buses s r g f = rw (same-n s r g f) g
