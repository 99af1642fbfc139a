-- The next record is determined by the case that is read, and so is the text.
use Rattle.std.specs.Prelude.{Ok}
use mathlib.Core.Path.{◌≡◌, refl, sym, ap, ap₂, ◌∙◌, subst, subst⁻¹}
use mathlib.Core.Bool.{Bool, true, false, cond}
use mathlib.Core.List.{List, [], ◌∷◌, ◌++◌}
use mathlib.Core.Logic.{◌⊎◌, inl, inr, ⊎_elim}
use Prim.Native.Nat.{ℕ, ◌+◌, ◌*◌, ◌≤◌, ◌<◌}
use native.Mathlib.Omega.{arith}
use Rattle.busset.specs.Sets.{bit, set_of}
use Rattle.basics.proofs.Tests.{below_or}
use Rattle.busset.proofs.Holding.{hold-here, if_here}
use Rattle.text_field.specs.Split.{line_feed}
use Rattle.case_line.specs.Record.{record_text}
use Rattle.case_line.specs.declared.Record.{Record}
use Rattle.case_line.specs.declared.Record.TheVariants.{Grid, Bus, Line, Circuits, Pmu, End, Wrong}
use Rattle.case_judge.specs.Judging.{judged, next_or_last}
use Rattle.case_read.specs.Reading.{case_so_far, next_reader}
use Rattle.case_read.specs.declared.Reader.{Reader}
use Rattle.case_inverse.specs.Grammar.{ReadsAs}
use Rattle.case_inverse.specs.Grammar.ReadsAs.{ends, goes}
use Rattle.grid.specs.declared.Case.{Case}
use Rattle.case_judge.specs.declared.Place.{Place}
use Rattle.case_judge.specs.declared.Standing.TheVariants.{Next, Last}
use Rattle.case_judge.proofs.Judged.{accepted_of, standing_of}
use Rattle.case_inverse.proofs.Places.{Ask, AskInRange, place, record_place, answer, Facts, facts, At}
use Rattle.case_inverse.proofs.Places.{NextLine, LineBy, line-place, line_read_lem, line-count, line-by-same, line-pair, line-tie}
use Rattle.case_inverse.proofs.Places.LineBy.{single, multiple}
use Rattle.case_inverse.proofs.Places.{pair-unit, beyond, unchanged, stands, more-buses, past-buses}
use Rattle.case_inverse.proofs.Spots.{bus_place, line_same, unit-same}
use Rattle.case_inverse.proofs.Places.Ask.{zero_at, siteAt, unit_at, line_at}

-- a reader that has read `grid` and stands at p
pub record Stand (s : Reader) (p : ℕ) : Type 0 where
  pub at : At s p
  pub grid : 0 < s.place.n

-- one record from there
pub record Stepped (s : Reader) (p : ℕ) (r : Record) : Type 0 where
  pub fact : Facts s.place r
  pub over : p < record_place r
  pub on : Stand (next_reader s r) (record_place r)

pub not_end : (s : Place) (r : Record) → judged s r ≡ Ok Next → r ≡ End → ⊥
not_end s r e f = cc (standing_of s r e, ap next_or_last f)

pub stepped : {s : Reader} {p : ℕ} (r : Record) → Stand s p → judged s.place r ≡ Ok Next → Stepped s p r
stepped {s} {p} r t e =
    let f = facts s.place r t.at.small t.at.low (accepted_of s.place r e) in
    record {
      fact = f;
      over = beyond s p r t.at t.grid (not_end s.place r e) f;
      on = record { at = stands s p r t.at t.grid (not_end s.place r e) f; grid = more-buses s r t.grid f };
    }

-- the case c answers as s does, as far as p
abbrev pub Settled : Case → Reader → ℕ → Type 0
Settled c s p = (q : Ask) → AskInRange q → place q ≤ p → answer c q ≡ answer (case_so_far s) q

pub settled : {s : Reader} {p : ℕ} {x : List ℕ} {c : Case} → Stand s p → ReadsAs s x c → Settled c s p
settled {s} {p} t (ends e) q h l = refl
settled {s} {p} t (goes r e d) q h l =
    let u = stepped r t e in
    settled u.on d q h (omega (arith, u.over)) ∙ unchanged s r q t.at.sized t.grid u.fact h (λ z. omega (arith, u.over))

-- ---- the next record is determined by the case

-- a question that r answers with more than 0 is not passed over
missed : {s : Reader} {p : ℕ} (c : Case) (r r' : Record) (q : Ask) → Stand s p → Stepped s p r → Stepped s p r'
    → Settled c (next_reader s r) (record_place r) → Settled c (next_reader s r') (record_place r')
    → AskInRange q → place q ≡ record_place r → 0 < answer (case_so_far (next_reader s r)) q → record_place r < record_place r' → ⊥
missed {s} {p} c r r' q t u v m m' h e some l =
    omega (
      arith,
      m q h (omega arith),
      m' q h (omega arith),
      unchanged s r' q t.at.sized t.grid v.fact h (λ z. omega arith),
      t.at.fresh q h (omega (arith, u.over)),
      some,
    )

flags : (t u : Bool) → ◌≡◌ {A = ℕ} (cond t 1 0) (cond u 1 0) → t ≡ u
flags true true e = refl
flags true false e = absurd (omega arith)
flags false true e = absurd (omega arith)
flags false false e = refl

not_apart : {m n : ℕ} → (m < n → ⊥) → (n < m → ⊥) → m ≡ n
not_apart {m} {n} f g =
    ⊎_elim (λ (l : m < n). absurd (f l)) (λ (l : n ≤ m). ⊎_elim (λ (k : n < m). absurd (g k)) (λ (k : m ≤ n). omega arith) (below_or n m))
    (below_or m n)

-- a line's record is answered, however many its circuits
line-answered : {s : Reader} {p : ℕ} {r : Record} {a b k : ℕ} → Stand s p → LineBy r a b k → Stepped s p r
    → answer (case_so_far (next_reader s r)) (line_at a b) ≡ 1 + 2 * k
line-answered {s} {p} {r} {a} {b} {k} t y u =
    ap (λ (x : Reader). answer (case_so_far x) (line_at a b)) (line_read_lem s y)
    ∙ line-tie s a b k t.at.sized (line-pair s.place y u.fact) (line-count y)

-- beside it only a line's record may stand
line-record : {s : Reader} {p : ℕ} {r : Record} {a b k : ℕ} → Stand s p → LineBy r a b k → (q : Record)
    → ((i j h : ℕ) → LineBy q i j h → r ≡ q) → NextLine s.place a b
    → judged s.place q ≡ Ok Next → Stepped s p q → (record_place r < record_place q → ⊥) → r ≡ q
line-record t y (Grid n) same f e v passed = absurd (omega (arith, v.fact, t.grid))
line-record t y (Bus j z o) same f e v passed = absurd (omega (arith, f.past, v.fact.more))
line-record t y (Line i j) same f e v passed = same i j 1 single
line-record t y (Circuits i j h) same f e v passed = same i j h (multiple v.fact.1)
line-record {a = a} {b = b} t y (Pmu j) same f e v passed = absurd (passed (omega (arith, line-place y, pair-unit a b j f.pair)))
line-record {s} t y End same f e v passed = absurd (not_end s.place End e refl)
line-record t y Wrong same f e v passed = absurd v.fact

module _ {s : Reader} {p : ℕ} (c : Case) (t : Stand s p) where
  buses : (k j : ℕ) (z o y w : Bool) → Stepped s p (Bus k z o) → Stepped s p (Bus j y w) →
      Settled c (next_reader s (Bus k z o)) (bus_place k) → Settled c (next_reader s (Bus j y w)) (bus_place j) → Bus k z o ≡ Bus j y w
  buses k j z o y w u v m n =
      let e : k ≡ j = omega (arith, u.fact.next, v.fact.next) in
      let hk = u.fact.bus in
      let hj = v.fact.bus in
      let a : z ≡ y = flags z y
      (sym (if_here z s.marks.zero k hk.some (t.at.fresh (zero_at k) hk u.over)) ∙ sym (m (zero_at k) hk (omega arith))
      ∙ ap (λ (x : ℕ). bit (set_of c.zero) x) e ∙ n (zero_at j) hj (omega arith)
      ∙ if_here y s.marks.zero j hj.some (t.at.fresh (zero_at j) hj v.over)) in
      let b : o ≡ w = flags o w
      (sym (if_here o s.marks.site k hk.some (t.at.fresh (siteAt k) hk u.over)) ∙ sym (m (siteAt k) hk (omega arith))
      ∙ ap (λ (x : ℕ). bit (set_of c.site) x) e ∙ n (siteAt j) hj (omega arith)
      ∙ if_here w s.marks.site j hj.some (t.at.fresh (siteAt j) hj v.over)) in
      cc (e, a, b)

  line_missed : {r : Record} {a b k : ℕ} → LineBy r a b k → (q : Record) → Stepped s p r → Stepped s p q
      → Settled c (next_reader s r) (record_place r) → Settled c (next_reader s q) (record_place q)
      → record_place r < record_place q → ⊥
  line_missed {r} {a} {b} y q u v m n l =
      missed c r q (line_at a b) t u v m n (line-pair s.place y u.fact) (sym (line-place y))
      (omega (arith, line-answered t y u)) l

  unit_missed : (k : ℕ) (r : Record) → Stepped s p (Pmu k) → Stepped s p r → Settled c (next_reader s (Pmu k)) (record_place (Pmu k))
      → Settled c (next_reader s r) (record_place r)
      → record_place (Pmu k) < record_place r → ⊥
  unit_missed k r u v m n l =
      missed c (Pmu k) r (unit_at k) t u v m n u.fact.bus refl
      (omega (arith, hold-here s.marks.units k u.fact.bus.some)) l

  lines : {r q : Record} {a b k i j h : ℕ} → LineBy r a b k → LineBy q i j h → Stepped s p r → Stepped s p q
      → Settled c (next_reader s r) (record_place r) → Settled c (next_reader s q) (record_place q) → r ≡ q
  lines {r} {q} {a} {b} {k} {i} {j} {h} y z u v m n =
      let e = not_apart (line_missed y q u v m n) (line_missed z r v u n m) in
      let hu = line-pair s.place y u.fact in
      let hv = line-pair s.place z v.fact in
      let f = line_same a b i j (omega (arith, hu.high)) (omega (arith, hv.high)) (sym (line-place y) ∙ e ∙ line-place z) in
      let g : answer c (line_at a b) ≡ answer c (line_at i j) = cc (f.0, f.1) in
      let same : k ≡ h = omega (
        arith,
        g,
        m (line_at a b) hu (omega (arith, line-place y)),
        line-answered t y u,
        n (line_at i j) hv (omega (arith, line-place z)),
        line-answered t z v,
      ) in
      line-by-same y
      (subst⁻¹ (λ (x : ℕ). LineBy q x b k) f.0 (subst⁻¹ (λ (x : ℕ). LineBy q i x k) f.1 (subst⁻¹ (LineBy q i j) same z)))

  units : (k j : ℕ) → Stepped s p (Pmu k) → Stepped s p (Pmu j) → Settled c (next_reader s (Pmu k)) (record_place (Pmu k))
      → Settled c (next_reader s (Pmu j)) (record_place (Pmu j)) → Pmu k ≡ Pmu j
  units k j u v m n =
      let e = not_apart (unit_missed k (Pmu j) u v m n) (unit_missed j (Pmu k) v u n m) in
      let hu = u.fact.bus.most in
      let hv = v.fact.bus.most in
      ap Pmu (unit-same k j (omega arith) (omega arith) e)

  same_record : (r r' : Record) → judged s.place r ≡ Ok Next → judged s.place r' ≡ Ok Next → Stepped s p r → Stepped s p r'
      → Settled c (next_reader s r) (record_place r) → Settled c (next_reader s r') (record_place r') → r ≡ r'
  same_record (Grid n) r' d e u v m n' = absurd (omega (arith, u.fact, t.grid))
  same_record (Bus k z o) (Grid n) d e u v m n' = absurd (omega (arith, v.fact, t.grid))
  same_record (Bus k z o) (Bus j y w) d e u v m n = buses k j z o y w u v m n
  same_record (Bus k z o) (Line i j) d e u v m n = absurd (omega (arith, u.fact.more, v.fact.past))
  same_record (Bus k z o) (Circuits i j h) d e u v m n = absurd (omega (arith, u.fact.more, v.fact.0.past))
  same_record (Bus k z o) (Pmu j) d e u v m n = absurd (omega (arith, u.fact.more, v.fact.past))
  same_record (Bus k z o) End d e u v m n = absurd (not_end s.place End e refl)
  same_record (Bus k z o) Wrong d e u v m n = absurd v.fact
  same_record (Line a b) q d e u v m n =
      line-record t single q (λ i j h l. lines single l u v m n) u.fact e v (line_missed single q u v m n)
  same_record (Circuits a b k) q d e u v m n =
      let y = multiple u.fact.1 in line-record t y q (λ i j h l. lines y l u v m n) u.fact.0 e v (line_missed y q u v m n)
  same_record (Pmu k) (Grid n) d e u v m n' = absurd (omega (arith, v.fact, t.grid))
  same_record (Pmu k) (Bus j y w) d e u v m n = absurd (omega (arith, u.fact.past, v.fact.more))
  same_record (Pmu k) (Line i j) d e u v m n = absurd (line_missed single (Pmu k) v u n m (pair-unit i j k v.fact.pair))
  same_record (Pmu k) (Circuits i j h) d e u v m n =
      absurd (line_missed (multiple v.fact.1) (Pmu k) v u n m (pair-unit i j k v.fact.0.pair))
  same_record (Pmu k) (Pmu j) d e u v m n = units k j u v m n
  same_record (Pmu k) End d e u v m n = absurd (not_end s.place End e refl)
  same_record (Pmu k) Wrong d e u v m n = absurd v.fact
  same_record End r' d e u v m n = absurd (not_end s.place End d refl)
  same_record Wrong r' d e u v m n = absurd u.fact

  no_line : {r : Record} {a b k : ℕ} → LineBy r a b k → c ≡ case_so_far s → Stepped s p r → Settled c (next_reader s r) (record_place r) → ⊥
  no_line {r} {a} {b} y e u m =
      let h = line-pair s.place y u.fact in
      omega (
        arith,
        m (line_at a b) h (omega (arith, line-place y)),
        line-answered t y u,
        t.at.fresh (line_at a b) h (omega (arith, line-place y, u.over)),
        ap (λ (x : Case). answer x (line_at a b)) e,
      )

  -- and where the case is complete, none is
  no_more : (r : Record) → c ≡ case_so_far s → s.place.n ≤ s.place.bus → judged s.place r ≡ Ok Next → Stepped s p r
      → Settled c (next_reader s r) (record_place r) → ⊥
  no_more (Grid n) e l d u m = omega (arith, u.fact, t.grid)
  no_more (Bus k z o) e l d u m = omega (arith, u.fact.more)
  no_more (Line a b) e l d u m = no_line single e u m
  no_more (Circuits a b k) e l d u m = no_line (multiple u.fact.1) e u m
  no_more (Pmu k) e l d u m =
      let h = u.fact.bus in
      omega (
        arith,
        m (unit_at k) h (omega arith),
        hold-here s.marks.units k h.some,
        t.at.fresh (unit_at k) h u.over,
        ap (λ (x : Case). answer x (unit_at k)) e,
      )
  no_more End e l d u m = not_end s.place End d refl
  no_more Wrong e l d u m = u.fact

-- ---- the texts

pub record Ended (s : Reader) (y : List ℕ) (c : Case) : Type 0 where
  pub last : judged s.place End ≡ Ok Last
  pub text : y ≡ record_text End ++ line_feed ∷ []
  pub is : c ≡ case_so_far s

pub record Went (s : Reader) (y : List ℕ) (c : Case) : Type 0 where
  pub by : Record
  pub rest : List ℕ
  pub told : judged s.place by ≡ Ok Next
  pub on : ReadsAs (next_reader s by) rest c
  pub text : y ≡ record_text by ++ line_feed ∷ rest

pub seen : {s : Reader} {y : List ℕ} {c : Case} → ReadsAs s y c → Ended s y c ⊎ Went s y c
seen (ends e) = inl (record { last = e; text = refl; is = refl })
seen (goes r {x = x} e d) = inr (record { by = r; rest = x; told = e; on = d; text = refl })

pub unique : {s : Reader} {p : ℕ} {x y : List ℕ} {c : Case} → Stand s p → ReadsAs s x c → ReadsAs s y c → x ≡ y
unique {s} {p} {y = y} t (ends e) d =
    ⊎_elim
    (λ (w : Ended s y (case_so_far s)). sym w.text)
    (λ (w : Went s y (case_so_far s)).
    let u = stepped w.by t w.told in
    absurd (no_more (case_so_far s) t w.by refl (past-buses s.place (accepted_of s.place End e).place) w.told u (settled u.on w.on)))
    (seen d)
unique {s} {p} {y = y} {c = c} t (goes r {x = x} e g) d =
    let u = stepped r t e in
    ⊎_elim
    (λ (w : Ended s y c). absurd
    (no_more c t r w.is (past-buses s.place (accepted_of s.place End w.last).place) e u (settled u.on g)))
    (λ (w : Went s y c).
    let v = stepped w.by t w.told in
    let f : r ≡ w.by = same_record c t r w.by e w.told u v (settled u.on g) (settled v.on w.on) in
    let h : ReadsAs (next_reader s r) w.rest c = subst (λ (b : Record). ReadsAs (next_reader s b) w.rest c) (sym f) w.on in
    ap₂ (λ (b : Record) (z : List ℕ). record_text b ++ line_feed ∷ z) f (unique u.on g h) ∙ sym w.text)
    (seen d)
