-- What the three tests of a record say, and what an accepted record gives.
use Rattle.std.specs.Prelude.{Ok, Err}
use mathlib.Core.Path.{◌≡◌, refl}
use mathlib.Core.Bool.{Bool, true, false, cond, ◌&&◌}
use Prim.Native.Nat.{ℕ, ◌≤◌, ◌<◌}
use native.Mathlib.Omega.{arith}
use borrow.Author.Tests.{leb-true, ltb-true, le-leb}
use lib.Dec.{ltb, leb}
use Rattle.basics.specs.Deciding.{Decides}
use Rattle.basics.proofs.Tests.{decides-same}
use Rattle.busset.specs.Sets.{width, Bus as IsBus}
use Rattle.busset.proofs.Members.{bus-more}
use Rattle.text_field.proofs.Tested.{both}
use Rattle.case_line.specs.declared.Record.{Record}
use Rattle.case_line.specs.declared.Record.TheVariants.{Grid, Bus, Line, Circuits, Pmu, End, Wrong}
use Rattle.grid.specs.Limits.{most_buses, most_lines, most_circuits, least_several}
use Rattle.case_judge.specs.Judging.{is_bus, is_several, in_place, in_range, in_order, next_or_last, judged, next_place, Fit}
use Rattle.case_judge.specs.declared.Place.{Place}
use Rattle.case_judge.specs.declared.Standing.{Standing}
use Rattle.case_judge.specs.declared.Standing.TheVariants.{Next}
use Rattle.case_judge.specs.declared.Fault.TheVariants.{Form, Range, Order}

-- ---- three tests passed

pub record TestsPassed (s : Place) (r : Record) : Type 0 where
  pub place : in_place s r ≡ true
  pub range : in_range s r ≡ true
  pub order : in_order s r ≡ true

-- an accepted record has passed three tests
passed : (p q o : Bool) {v w : Standing} → cond p (cond q (cond o (Ok v) (Err Order)) (Err Range)) (Err Form) ≡ Ok w
    → (p ≡ true) × (q ≡ true) × (o ≡ true) × (v ≡ w)
passed true true true e = (refl, refl, refl, cc)
passed true true false e = cc
passed true false q e = cc
passed false p q e = cc

pub not_one : {A : Type 0} → ◌≡◌ {A = ℕ} 0 1 → A
not_one e = absurd (omega arith)

module _ (s : Place) (r : Record) {v : Standing} (e : judged s r ≡ Ok v) where
  pub standing_of : next_or_last r ≡ v
  unfolding judged
  standing_of = (passed (in_place s r) (in_range s r) (in_order s r) e).3

  pub accepted_of : TestsPassed s r
  unfolding judged
  accepted_of =
      let p = passed (in_place s r) (in_range s r) (in_order s r) e in
      record { place = p.0; range = p.1; order = p.2 }

module _ (s : Place) (r : Record) where
  pub accept : in_place s r ≡ true → in_range s r ≡ true → in_order s r ≡ true → judged s r ≡ Ok (next_or_last r)
  unfolding judged
  accept p q o = rw (p, q, o)

-- ---- the numbers of an accepted record

pub inside : (n k : ℕ) → is_bus n k ≡ true → IsBus n k
unfolding is_bus
inside n k e = let p = both (leb 1 k) (leb k n) e in record { some = leb-true 1 k p.0; most = leb-true k n p.1 }

pub bounded : (n k : ℕ) → n ≤ most_buses → is_bus n k ≡ true → IsBus width k
bounded n k h e = bus-more (inside n k e) h

-- the two buses of a line, and room for it
pub record Ends (s : Place) (a b : ℕ) : Type 0 where
  pub from : IsBus s.n a
  pub to : IsBus s.n b
  pub room : s.lines < most_lines

pub line-ends : (s : Place) (a b : ℕ) → in_range s (Line a b) ≡ true → Ends s a b
line-ends s a b e =
    let u = both (is_bus s.n a && is_bus s.n b) (ltb s.lines most_lines) e in
    let v = both (is_bus s.n a) (is_bus s.n b) u.0 in
    record { from = inside s.n a v.0; to = inside s.n b v.1; room = ltb-true s.lines most_lines u.1 }

-- circuits that a text says
pub record Several (k : ℕ) : Type 0 where
  pub least : least_several ≤ k
  pub most : k ≤ most_circuits

pub several-of : (k : ℕ) → is_several k ≡ true → Several k
unfolding is_several
several-of k e =
    let p = both (leb least_several k) (leb k most_circuits) e in
    record { least = leb-true least_several k p.0; most = leb-true k most_circuits p.1 }

pub is-several : {k : ℕ} → Several k → is_several k ≡ true
unfolding is_several
is-several {k} v = rw (le-leb least_several k v.least, le-leb k most_circuits v.most)

-- a line that says its circuits is accepted exactly if it passes the tests without them and they are several
module _ (s : Place) (a b k : ℕ) where
  pub circuits_range : in_range s (Circuits a b k) ≡ true → (in_range s (Line a b) ≡ true) × Several k
  circuits_range e = let p = both (in_range s (Line a b)) (is_several k) e in (p.0, several-of k p.1)

  pub circuits_passed : TestsPassed s (Circuits a b k) → TestsPassed s (Line a b)
  circuits_passed t = record { place = t.place; range = (circuits_range t.range).0; order = t.order }

  pub several : judged s (Circuits a b k) ≡ Ok Next → TestsPassed s (Line a b) × Several k
  several e = let t = accepted_of s (Circuits a b k) e in (circuits_passed t, (circuits_range t.range).1)

  pub accept_several : TestsPassed s (Line a b) → Several k → judged s (Circuits a b k) ≡ Ok Next
  accept_several t v = accept s (Circuits a b k) t.place (rw (t.range, is-several v)) t.order

line-fits : (s : Place) (a b : ℕ) → s.n ≤ most_buses → in_range s (Line a b) ≡ true → Fit s (Line a b)
line-fits s a b h e = let t = line-ends s a b e in (bus-more t.from h, bus-more t.to h, t.room)

fit : (s : Place) (r : Record) → s.n ≤ most_buses → in_range s r ≡ true → Fit s r
fit s (Grid n) h e = tt
fit s (Bus k z o) h e = bounded s.n k h e
fit s (Line a b) h e = line-fits s a b h e
fit s (Circuits a b k) h e = let c = circuits_range s a b k e in (line-fits s a b h c.0, c.1.most)
fit s (Pmu p) h e = bounded s.n p h e
fit s End h e = tt
fit s Wrong h e = tt

pub fit_of : (s : Place) (r : Record) → s.n ≤ most_buses → judged s r ≡ Ok Next → Fit s r
fit_of s r h e = fit s r h (accepted_of s r e).range

small : (s : Place) (r : Record) → s.n ≤ most_buses → in_range s r ≡ true → (next_place s r).n ≤ most_buses
small s (Grid n) h e = (inside most_buses n e).most
small s (Bus k z o) h e = h
small s (Line a b) h e = h
small s (Circuits a b k) h e = h
small s (Pmu p) h e = h
small s End h e = h
small s Wrong h e = h

pub small_of : (s : Place) (r : Record) → s.n ≤ most_buses → judged s r ≡ Ok Next → (next_place s r).n ≤ most_buses
small_of s r h e = small s r h (accepted_of s r e).range
