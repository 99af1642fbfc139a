-- What is read of a text is what the grammar has.
use Rattle.std.specs.Prelude.{Result, Ok, Err}
use mathlib.Core.Path.{◌≡◌, refl, sym, ap, ◌∙◌, subst, subst₂}
use mathlib.Core.Bool.{true}
use mathlib.Core.List.{List, [], ◌∷◌, ◌++◌}
use Prim.Native.Nat.{ℕ, ◌+◌, ◌≤◌, ◌<◌}
use native.Mathlib.Omega.{arith}
use Rattle.text_field.specs.Split.{line_feed, split, join}
use Rattle.text_field.specs.Number.{most_read}
use Rattle.text_field.proofs.Cutting.{split-cut}
use Rattle.case_line.specs.Record.{record_of, record_text, Formed}
use Rattle.case_line.specs.declared.Record.{Record}
use Rattle.case_line.specs.declared.Record.TheVariants.{Grid, Bus, Line, Circuits, Pmu, End, Wrong}
use Rattle.case_line.proofs.Texts.{read_record, text-free, spelt}
use Rattle.case_judge.specs.Judging.{is_bus, in_place, in_range, next_or_last, judged}
use Rattle.case_read.specs.Reading.{case_so_far, next_reader, case_ended, record_said, read_lines}
use Rattle.case_read.specs.declared.Reader.{Reader}
use Rattle.case_inverse.specs.Grammar.{ReadsAs}
use Rattle.case_inverse.specs.Grammar.ReadsAs.{ends, goes}
use Rattle.grid.specs.Limits.{most_buses}
use Rattle.grid.specs.declared.Case.{Case}
use Rattle.case_judge.specs.declared.Standing.{Standing}
use Rattle.case_judge.specs.declared.Fault.{Fault}
use Rattle.case_judge.specs.declared.Standing.TheVariants.{Next, Last}
use Rattle.case_judge.specs.declared.Fault.TheVariants.{Form}
use Rattle.refusals.specs.declared.Refusal.{Refusal}
use Rattle.case_judge.proofs.Judged.{accepted_of, standing_of, small_of, bounded, line-ends, circuits_range}
use Rattle.case_judge.specs.declared.Place.{Place}

small-number : (n k : ℕ) → n ≤ most_buses → is_bus n k ≡ true → k < most_read
small-number n k h e = let b = bounded n k h e in omega (arith, b.most)

formed : (s : Place) (r : Record) → s.n ≤ most_buses → in_place s r ≡ true → in_range s r ≡ true → Formed r
formed s (Grid n) h p e = small-number most_buses n (omega arith) e
formed s (Bus k z o) h p e = small-number s.n k h e
formed s (Line a b) h p e = let t = line-ends s a b e in (omega (arith, t.from.most), omega (arith, t.to.most))
formed s (Circuits a b k) h p e =
    let c = circuits_range s a b k e in
    let t = line-ends s a b c.0 in
    (omega (arith, t.from.most), omega (arith, t.to.most), omega (arith, c.1.most))
formed s (Pmu q) h p e = small-number s.n q h e
formed s End h p e = tt
formed s Wrong h p e = cc

-- a text of the grammar is read
pub reads-read : (s : Reader) (x : List ℕ) (c : Case) (k : ℕ) → s.place.n ≤ most_buses → ReadsAs s x c
    → read_lines s k (split line_feed x).first (split line_feed x).rest ≡ Ok c
unfolding read_lines split
reads-read s x c k h (ends e) = rw (split-cut line_feed (record_text End) [] (text-free End tt), read_record End tt, e)
reads-read s x c k h (goes r {x = y} e t) =
    let a = accepted_of s.place r e in
    let f = formed s.place r h a.place a.range in
    rw (split-cut line_feed (record_text r) y (text-free r f), read_record r f, e)
    (reads-read (next_reader s r) y c (k + 1) (small_of s.place r h e) t)

-- a text that is read is one of the grammar

refuses : (s : Place) → judged s Wrong ≡ Err Form
unfolding judged
refuses s = refl

last_end : (r : Record) → next_or_last r ≡ Last → r ≡ End
last_end (Grid n) e = cc
last_end (Bus k z o) e = cc
last_end (Line a b) e = cc
last_end (Circuits a b k) e = cc
last_end (Pmu p) e = cc
last_end End e = refl
last_end Wrong e = cc

closed-case : (d c : Case) (k : ℕ) (m : List ℕ) (ms : List (List ℕ)) → case_ended d k m ms ≡ Ok c → (join line_feed m ms ≡ []) × (d ≡ c)
unfolding join
closed-case d c k [] [] e = (refl, cc)
closed-case d c k [] (m ∷ ms) e = cc
closed-case d c k (b ∷ l) ms e = cc

-- one line that is read
turn : (s : Reader) (k : ℕ) (l m : List ℕ) (ms : List (List ℕ)) (c : Case) (v : Result Standing Fault) (on : Result Case Refusal)
    → judged s.place (record_of l) ≡ v
    → record_said v k on (case_ended (case_so_far s) (k + 1) m ms) ≡ Ok c
    → (on ≡ Ok c → ReadsAs (next_reader s (record_of l)) (join line_feed m ms) c)
    → ReadsAs s (l ++ line_feed ∷ join line_feed m ms) c
turn s k l m ms c (Ok Next) on vi e ih =
    subst (λ (x : List ℕ). ReadsAs s (x ++ line_feed ∷ join line_feed m ms) c)
    (spelt l (λ w. cc (ap (judged s.place) w, refuses s.place))).text
    (goes (record_of l) vi (ih e))
turn s k l m ms c (Ok Last) on vi e ih =
    let g = closed-case (case_so_far s) c (k + 1) m ms e in
    let r : record_of l ≡ End = last_end (record_of l) (standing_of s.place (record_of l) vi) in
    let t : record_text End ≡ l = ap record_text (sym r) ∙ (spelt l (λ w. cc)).text in
    subst₂ (λ (x : List ℕ) (d : Case). ReadsAs s x d) (cc (t, g.0)) g.1 (ends (ap (judged s.place) (sym r) ∙ vi))
turn s k l m ms c (Err f) on vi e ih = cc

pub read-reads : (ps : List (List ℕ)) (s : Reader) (k : ℕ) (l : List ℕ) (c : Case) → read_lines s k l ps ≡ Ok c
    → ReadsAs s (join line_feed l ps) c
unfolding read_lines join
read-reads [] s k l c e = cc
read-reads (m ∷ ms) s k l c e =
    turn s k l m ms c (judged s.place (record_of l)) (read_lines (next_reader s (record_of l)) (k + 1) m ms) refl e
    (read-reads ms (next_reader s (record_of l)) (k + 1) m c)
