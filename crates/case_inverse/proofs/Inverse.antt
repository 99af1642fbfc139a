-- Reading and writing undo each other: the two are one form for each case.
use Rattle.std.specs.Prelude.{Ok}
use mathlib.Core.Path.{◌≡◌, subst⁻¹}
use mathlib.Core.List.{List, [], ◌∷◌, ◌++◌}
use Prim.Native.Nat.{ℕ, ◌≤◌, ◌<◌}
use native.Mathlib.Omega.{arith}
use lib.ListN.{length, length-append}
use Rattle.busset.specs.Sets.{Out, Within, set_of}
use Rattle.busset.proofs.Members.{out_of}
use Rattle.text_field.specs.Split.{line_feed, join}
use Rattle.case_line.specs.declared.Record.TheVariants.{Grid, Pmu, End}
use Rattle.case_line.proofs.Lengths.{record_length}
use Rattle.grid.specs.Limits.{most_lines, most_bytes}
use Rattle.grid.specs.Rows.{neighbours, circuits}
use Rattle.grid.proofs.Joined.{circuits-few}
use Rattle.grid.specs.Cases.{Sized, Valid}
use Rattle.grid.specs.declared.Case.{Case}
use Rattle.case_read.specs.Reading.{start, read_lines, read_case}
use Rattle.case_inverse.specs.Grammar.{ReadsAs}
use Rattle.case_line.specs.CaseText.{bus_records, members, lines_text, case_text}
use Rattle.case_read.proofs.Lengths.{lines_length, buses_length, members_length}
use Rattle.case_inverse.proofs.Grammars.{read-reads}
use Rattle.case_inverse.proofs.Counts.{line-records}
use Rattle.case_inverse.proofs.Places.{Ask, answer}
use Rattle.case_inverse.proofs.Places.Ask.{zero_at, siteAt, unit_at, line_at}
use Rattle.case_inverse.proofs.Texts.{begun, first-stand, reads_of, of-reads, same_text}
use Rattle.case_inverse.proofs.Written.{Above, Writable, lines_of, readable}
use Rattle.case_inverse.proofs.Few.{read-few}
use Rattle.case_inverse.proofs.Soundness.{Sound, read-sound, known}
use Rattle.case_inverse.proofs.Lengths.{append_length, lines-short}

-- ---- a valid case is written

none_above : (n s k : ℕ) → Within n s → n < k → Out s k
none_above n s k w l = out_of s k (λ p. let b = w k p in omega (arith, b.most))

above-none : (c : Case) → Valid c → (q : Ask) → Above c.n q → answer c q ≡ 0
above-none c p (zero_at k) a = none_above c.n (set_of c.zero) k p.proper.zeros a
above-none c p (siteAt k) a = none_above c.n (set_of c.site) k p.proper.sites a
above-none c p (unit_at k) a = none_above c.n (set_of c.units) k p.proper.units a
above-none c p (line_at i j) a =
    let o = none_above c.n (neighbours c.nbr i) j (λ b h. (p.proper.lines i b h).to) a in omega (arith, o, p.others i j o)

few-records : (c : Case) → Valid c → length (lines_of c 1 c.n) ≤ most_lines
few-records c v = let f = v.few in omega (arith, line-records c.n (neighbours c.nbr) v.proper.lines (circuits c.nbr) c.n)

writable : (c : Case) → Valid c → Writable c
writable c v = record {
  one = v.buses.some;
  most = v.buses.most;
  few = few-records c v;
  counts = record { counted = v.joined; uncounted = v.others };
  above = λ q h a. above-none c v q a;
}

-- every valid case's text is within the limit
pub text-within : (c : Case) → Valid c → length (case_text c) ≤ most_bytes
unfolding lines_text
text-within c v =
    let n = v.buses.most in
    let B = bus_records (set_of c.zero) (set_of c.site) 1 c.n in
    let L = lines_of c 1 c.n in
    let U = members Pmu (set_of c.units) 1 c.n in
    simp length-append (omega (
      arith,
      record_length (Grid c.n),
      append_length B (L ++ (U ++ End ∷ [])),
      append_length L (U ++ End ∷ []),
      append_length U (End ∷ []),
      lines_length B,
      buses_length (set_of c.zero) (set_of c.site) 1 c.n,
      (lines-short (neighbours c.nbr) (circuits c.nbr) 1 c.n (λ i j. omega (arith, circuits-few c.nbr i j))).length_of,
      few-records c v,
      lines_length U,
      members_length Pmu (set_of c.units) 1 c.n,
      lines_length (End ∷ []),
    ))

valid-sound : (c : Case) → Sized c → Valid c → Sound c
valid-sound c l v = record { sized = l; proper = v.proper; counts = record { joins = v.joined; others = v.others; alike = v.alike } }

-- reading what is written for a valid case gives that case
pub read-written : (c : Case) → Sized c → Valid c → read_case (case_text c) ≡ Ok c
read-written c l v =
    let r = readable c (writable c v) in
    let e : c ≡ r.case' =
    known c r.case' v.buses.most r.size (valid-sound c l v)
    (read-sound _ r.case' r.reads) r.agree in
    of-reads (case_text c) c (text-within c v) (subst⁻¹ (λ (d : Case). ReadsAs start (case_text c) d) e r.reads)

-- ---- what is read is valid

-- a text that is read as a case gives a valid one, with what the type says
pub record ReadValid (c : Case) : Type 0 where
  pub sized : Sized c
  pub valid : Valid c

reads-valid : (x : List ℕ) (c : Case) → ReadsAs start x c → ReadValid c
reads-valid x c d =
    let s = read-sound x c d in
    let t = first-stand c.n (begun d).told in
    record {
      sized = s.sized;
      valid = record {
        buses = record { some = t.grid; most = t.at.small };
        proper = s.proper;
        few = omega (arith, read-few x c d, line-records c.n (neighbours c.nbr) s.proper.lines (circuits c.nbr) c.n);
        joined = s.counts.joins;
        others = s.counts.others;
        alike = s.counts.alike;
      };
    }

pub read-valid : (x : List ℕ) (c : Case) → read_case x ≡ Ok c → ReadValid c
read-valid x c e = reads-valid x c (reads_of x c e)

-- the same of lines whose first is line k
pub lines-valid : (k : ℕ) (l : List ℕ) (ps : List (List ℕ)) (c : Case) → read_lines start k l ps ≡ Ok c → ReadValid c
lines-valid k l ps c e = reads-valid (join line_feed l ps) c (read-reads ps start k l c e)

-- ---- one form for each case

-- two different texts never give the same case
pub one-text : (x y : List ℕ) (c : Case) → read_case x ≡ Ok c → read_case y ≡ Ok c → x ≡ y
one-text = same_text

-- a text that reads as a case is the text written for it
pub written-text : (x : List ℕ) (c : Case) → read_case x ≡ Ok c → x ≡ case_text c
written-text x c e = let v = read-valid x c e in one-text x (case_text c) c e (read-written c v.sized v.valid)
