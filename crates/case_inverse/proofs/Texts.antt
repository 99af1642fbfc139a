-- Reading a whole text is reading it from its first line.
use Rattle.std.specs.Prelude.{Ok, Err}
use mathlib.Core.Path.{◌≡◌, refl, sym, ap, ◌∙◌, subst}
use mathlib.Core.Bool.{Bool, true, false, cond}
use mathlib.Core.List.{List, ◌∷◌, ◌++◌}
use Prim.Native.Nat.{ℕ, ◌≤◌}
use native.Mathlib.Omega.{arith}
use borrow.Author.Tests.{le-ltb}
use lib.Dec.{ltb}
use lib.ListN.{length}
use Rattle.busset.specs.Sets.{bit, set_of}
use Rattle.busset.specs.Held.{empty_word}
use Rattle.busset.proofs.Digits.{bit-zero}
use Rattle.busset.proofs.Words.{set-empty}
use Rattle.grid.specs.Limits.{most_buses, most_bytes}
use Rattle.grid.specs.Rows.{set_at, neighbours, circuits, no_rows}
use Rattle.grid.proofs.Rows.{no-rows-set, no-rows_length}
use Rattle.grid.proofs.Joined.{joined}
use Rattle.text_field.proofs.Tested.{both}
use Rattle.text_field.specs.Split.{line_feed, split}
use Rattle.text_field.proofs.Cutting.{join-split}
use Rattle.case_line.specs.Record.{record_text}
use Rattle.case_line.specs.declared.Record.{Record}
use Rattle.case_line.specs.declared.Record.TheVariants.{Grid, Bus, Line, Circuits, Pmu, End, Wrong}
use Rattle.case_judge.specs.Judging.{judged, past_buses}
use Rattle.case_read.specs.Reading.{case_so_far, next_reader, start, read_lines, read_text, read_case}
use Rattle.case_read.specs.declared.Reader.{Reader}
use Rattle.case_inverse.specs.Grammar.{ReadsAs}
use Rattle.case_inverse.specs.Grammar.ReadsAs.{ends, goes}
use Rattle.grid.specs.declared.Case.{Case}
use Rattle.case_judge.specs.declared.Standing.TheVariants.{Next}
use Rattle.refusals.specs.declared.Refusal.TheVariants.{TextTooLong}
use Rattle.case_judge.proofs.Judged.{accepted_of, inside}
use Rattle.case_inverse.proofs.Grammars.{reads-read, read-reads}
use Rattle.case_inverse.proofs.Places.{Ask, answer, same-n}
use Rattle.case_inverse.proofs.Spots.{bus_place, bus-line, bus-unit}
use Rattle.case_inverse.proofs.Places.Ask.{zero_at, siteAt, unit_at, line_at}
use Rattle.case_inverse.proofs.Unique.{Stand, stepped, unique}

-- ---- the whole text

-- a text is read as c exactly when the grammar has it
pub reads_of : (x : List ℕ) (c : Case) → read_case x ≡ Ok c → ReadsAs start x c
unfolding read_case read_text
reads_of x c e = go (ltb most_bytes (length x)) e
  where
    go : (b : Bool) → cond b (Err TextTooLong) (read_lines start 1 (split line_feed x).first (split line_feed x).rest) ≡ Ok c
        → ReadsAs start x c
    go true e = cc
    go false e =
        subst (λ (y : List ℕ). ReadsAs start y c) (join-split line_feed x)
        (read-reads (split line_feed x).rest start 1 (split line_feed x).first c e)

pub of-reads : (x : List ℕ) (c : Case) → length x ≤ most_bytes → ReadsAs start x c → read_case x ≡ Ok c
unfolding read_case read_text
of-reads x c h d = rw (le-ltb most_bytes (length x) h) (reads-read start x c 1 (omega arith) d)

-- ---- the first line

pub no-bus : (k : ℕ) → bit (set_of empty_word) k ≡ 0
no-bus k = ap (λ (s : ℕ). bit s k) set-empty ∙ bit-zero k

no-set : (b i j : ℕ) → bit (set_at no_rows b i) j ≡ 0
no-set b i j = ap (λ (s : ℕ). bit s j) (no-rows-set b i) ∙ bit-zero j

pub no_line : (i j : ℕ) → joined no_rows i j ≡ 0
unfolding neighbours
no_line i j = no-set i 0 j

pub no-circuits : (i j : ℕ) → circuits no_rows i j ≡ 0
unfolding circuits
no-circuits i j = omega (arith, no-set i 1 j, no-set i 2 j, no-set i 3 j, no-set i 4 j)

pub empty-answer : (n : ℕ) (q : Ask) → answer (case_so_far (next_reader start (Grid n))) q ≡ 0
empty-answer n (zero_at k) = no-bus k
empty-answer n (siteAt k) = no-bus k
empty-answer n (unit_at k) = no-bus k
empty-answer n (line_at i j) = omega (arith, no_line i j, no-circuits i j)

pub first-stand : (n : ℕ) → judged start.place (Grid n) ≡ Ok Next → Stand (next_reader start (Grid n)) (bus_place 0)
first-stand n e =
    let b = inside most_buses n (accepted_of start.place (Grid n) e).range in
    record {
      at = record {
        small = b.most;
        low = omega arith;
        sized = record { rows = no-rows_length };
        to_bus = λ h. omega arith;
        to_line = λ h. omega (arith, bus-line 0 0 0 (omega arith));
        to_unit = omega (arith, bus-unit 0 0 (omega arith));
        fresh = λ q h l. empty-answer n q;
      };
      grid = b.some;
    }

kept : {s : Reader} {p : ℕ} {x : List ℕ} {c : Case} → Stand s p → ReadsAs s x c → c.n ≡ s.place.n
kept t (ends e) = refl
kept {s} {p} t (goes r e d) = let u = stepped r t e in kept u.on d ∙ same-n s r t.grid u.fact

pub record BegunText (x : List ℕ) (c : Case) : Type 0 where
  pub rest : List ℕ
  pub told : judged start.place (Grid c.n) ≡ Ok Next
  pub on : ReadsAs (next_reader start (Grid c.n)) rest c
  pub text : x ≡ record_text (Grid c.n) ++ line_feed ∷ rest

not_past : past_buses start.place ≡ true → ⊥
unfolding past_buses
not_past e = cc

-- at the start only `grid` is accepted
first-grid : (r : Record) (x : List ℕ) (c : Case) → judged start.place r ≡ Ok Next → ReadsAs (next_reader start r) x c
    → BegunText (record_text r ++ line_feed ∷ x) c
first-grid (Grid n) x c e d =
    let f : n ≡ c.n = sym (kept (first-stand n e) d) in
    record {
      rest = x;
      told = subst (λ (m : ℕ). judged start.place (Grid m) ≡ Ok Next) f e;
      on = subst (λ (m : ℕ). ReadsAs (next_reader start (Grid m)) x c) f d;
      text = ap (λ (m : ℕ). record_text (Grid m) ++ line_feed ∷ x) f;
    }
first-grid (Bus k z o) x c e d = let a = (accepted_of start.place (Bus k z o) e).place in cc
first-grid (Line a b) x c e d =
    let p = both (past_buses start.place) true (accepted_of start.place (Line a b) e).place in absurd (not_past p.0)
first-grid (Circuits a b k) x c e d =
    let p = both (past_buses start.place) true (accepted_of start.place (Circuits a b k) e).place in absurd (not_past p.0)
first-grid (Pmu p) x c e d = absurd (not_past (accepted_of start.place (Pmu p) e).place)
first-grid End x c e d = absurd (not_past (accepted_of start.place End e).place)
first-grid Wrong x c e d = let a = (accepted_of start.place Wrong e).place in cc

pub begun : {x : List ℕ} {c : Case} → ReadsAs start x c → BegunText x c
begun (ends e) = absurd (not_past ((accepted_of start.place End e).place))
begun (goes r {x = x} {c = c} e d) = first-grid r x c e d

-- ---- two different texts never give the same case

pub same_text : (x y : List ℕ) (c : Case) → read_case x ≡ Ok c → read_case y ≡ Ok c → x ≡ y
same_text x y c e f =
    let a = begun (reads_of x c e) in
    let b = begun (reads_of y c f) in
    a.text ∙ ap (λ (z : List ℕ). record_text (Grid c.n) ++ line_feed ∷ z) (unique (first-stand c.n a.told) a.on b.on)
    ∙ sym b.text
