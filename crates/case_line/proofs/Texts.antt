-- A record's text is read as the record, and a line that is read as a record is that record's text.
use Rattle.std.specs.Prelude.{Option, Some, None}
use mathlib.Core.Path.{◌≡◌, refl, sym, ap, ap₂, ◌∙◌}
use mathlib.Core.Bool.{Bool, true, false, cond}
use mathlib.Core.List.{List, [], ◌∷◌}
use mathlib.Core.Logic.{◌⊎◌, inl, inr, ⊎_elim}
use Prim.Native.Nat.{ℕ, ◌<◌}
use native.Mathlib.Omega.{arith}
use lib.Dec.{eqb}
use borrow.Author.Tests.{eqb-true}
use Rattle.text_field.specs.Split.{split, join, same, bytes}
use Rattle.text_field.specs.Number.{numeral_of}
use Rattle.text_field.proofs.Cutting.{FreeOf, AllFree, same-is, split-join, join-split, free-join}
use Rattle.text_field.proofs.Digits.{read_number, written-number, number-free}
use Rattle.case_line.specs.Fields.{mark_of, class_of, site_of, if_one_field, if_no_field}
use Rattle.case_line.specs.Record.{record_word_of, grid_record_of, pmu_record_of, line_record_of, circuits_record_of, bus_record_of}
use Rattle.case_line.specs.Record.{line_fields, bus_fields, by_word}
use Rattle.case_line.specs.Record.{record_of, letter_if, word_text, field_texts, record_text, Formed}
use Rattle.case_line.specs.declared.Record.{Record}
use Rattle.case_line.specs.declared.Record.TheVariants.{Grid, Bus, Line, Circuits, Pmu, End, Wrong}
use Rattle.case_line.specs.declared.Word.{Word}
use Rattle.case_line.specs.declared.Word.TheVariants.{Grid as GridWord, Bus as BusWord, Line as LineWord}
use Rattle.case_line.specs.declared.Word.TheVariants.{Pmu as PmuWord, End as EndWord, Other}

-- ---- written, then read

letter-free : (c p q : ℕ) (t : Bool) → (p ≡ c → ⊥) → (q ≡ c → ⊥) → FreeOf c (letter_if t p q)
letter-free c p q true f g = (f, tt)
letter-free c p q false f g = (g, tt)

line-free : (c : ℕ) → c < 48 → FreeOf c (bytes "line")
line-free c h = ((λ e. omega arith), ((λ e. omega arith), ((λ e. omega arith), ((λ e. omega arith), tt))))

-- neither a tab nor a line feed stands in a word or a field
pub word_free : (c : ℕ) (r : Record) → c < 48 → FreeOf c (word_text r)
word_free c (Grid n) h = ((λ e. omega arith), ((λ e. omega arith), ((λ e. omega arith), ((λ e. omega arith), tt))))
word_free c (Bus n z o) h = ((λ e. omega arith), ((λ e. omega arith), ((λ e. omega arith), tt)))
word_free c (Line a b) h = line-free c h
word_free c (Circuits a b k) h = line-free c h
word_free c (Pmu n) h = ((λ e. omega arith), ((λ e. omega arith), ((λ e. omega arith), tt)))
word_free c End h = ((λ e. omega arith), ((λ e. omega arith), ((λ e. omega arith), tt)))
word_free c Wrong h = tt

pub fields_free : (c : ℕ) (r : Record) → c < 48 → Formed r → AllFree c (field_texts r)
fields_free c (Grid n) h f = (number-free c n h (omega arith), tt)
fields_free c (Bus n z o) h f = (
  number-free c n h (omega arith),
  (
    letter-free c 90 73 z (λ e. omega arith) (λ e. omega arith),
    (letter-free c 89 78 o (λ e. omega arith) (λ e. omega arith), tt),
  ),
)
fields_free c (Line a b) h f = (number-free c a h (omega (arith, f.0)), (number-free c b h (omega (arith, f.1)), tt))
fields_free c (Circuits a b k) h f = (
  number-free c a h (omega (arith, f.0)),
  (number-free c b h (omega (arith, f.1)), (number-free c k h (omega (arith, f.2)), tt)),
)
fields_free c (Pmu n) h f = (number-free c n h (omega arith), tt)
fields_free c End h f = tt
fields_free c Wrong h f = tt

read_fields : (r : Record) → Formed r → by_word (record_word_of (word_text r)) (field_texts r) ≡ r
unfolding record_word_of if_one_field if_no_field line_fields bus_fields mark_of
read_fields (Grid n) f = rw (read_number n f)
read_fields (Bus n true true) f = rw (read_number n f)
read_fields (Bus n true false) f = rw (read_number n f)
read_fields (Bus n false true) f = rw (read_number n f)
read_fields (Bus n false false) f = rw (read_number n f)
read_fields (Line a b) f = rw (read_number a f.0, read_number b f.1)
read_fields (Circuits a b k) f = rw (read_number a f.0, read_number b f.1, read_number k f.2)
read_fields (Pmu n) f = rw (read_number n f)
read_fields End f = refl
read_fields Wrong f = absurd f

pub read_record : (r : Record) → Formed r → record_of (record_text r) ≡ r
unfolding record_of record_text
read_record r f =
    rw (split-join 9 (word_text r) (field_texts r) (word_free 9 r (omega arith)) (fields_free 9 r (omega arith) f)) (read_fields r f)

-- ---- read, then written

-- the record is wrong, or these are its word and its fields
abbrev Spells : Record → List ℕ → List (List ℕ) → Type 0
Spells r w fs = (r ≡ Wrong) ⊎ (Formed r × (word_text r ≡ w) × (field_texts r ≡ fs))

word_spelt : List ℕ → Word → Type 0
word_spelt w GridWord = w ≡ bytes "grid"
word_spelt w BusWord = w ≡ bytes "bus"
word_spelt w LineWord = w ≡ bytes "line"
word_spelt w PmuWord = w ≡ bytes "pmu"
word_spelt w EndWord = w ≡ bytes "end"
word_spelt w Other = Unit {0}

choose : (b : Bool) (w : List ℕ) (v u : Word) → (b ≡ true → word_spelt w v) → word_spelt w u → word_spelt w (cond b v u)
choose true w v u f g = f refl
choose false w v u f g = g

word_told : (w : List ℕ) → word_spelt w (record_word_of w)
unfolding record_word_of word_spelt
word_told w =
    choose (same w (bytes "grid")) w GridWord _ (same-is w _)
    (choose (same w (bytes "bus")) w BusWord _ (same-is w _)
    (choose (same w (bytes "line")) w LineWord _ (same-is w _)
    (choose (same w (bytes "pmu")) w PmuWord _ (same-is w _)
    (choose (same w (bytes "end")) w EndWord _ (same-is w _) tt))))

mark_told : (p q : ℕ) (f : List ℕ) (t : Bool) → mark_of p q f ≡ Some t → letter_if t p q ≡ f
unfolding mark_of
mark_told p q [] t e = let z : ◌≡◌ {A = ℕ} 0 1 = cc in absurd (omega arith)
mark_told p q (b ∷ []) t e = first (eqb b p) (eqb b q) (eqb-true b p) (eqb-true b q) e
  where
    first : (x y : Bool) → (x ≡ true → b ≡ p) → (y ≡ true → b ≡ q) → cond x (Some true) (cond y (Some false) None) ≡ Some t
        → letter_if t p q ≡ b ∷ []
    first true y f g e = let h : true ≡ t = cc in rw (← h) (ap (λ (x : ℕ). x ∷ []) (sym (f refl)))
    first false true f g e = let h : false ≡ t = cc in rw (← h) (ap (λ (x : ℕ). x ∷ []) (sym (g refl)))
    first false false f g e = let z : ◌≡◌ {A = ℕ} 0 1 = cc in absurd (omega arith)
mark_told p q (b ∷ c ∷ f) t e = let z : ◌≡◌ {A = ℕ} 0 1 = cc in absurd (omega arith)

grid-spells : (w f : List ℕ) (x : Option ℕ) → w ≡ bytes "grid" → numeral_of f ≡ x → Spells (grid_record_of x) w (f ∷ [])
grid-spells w f (Some n) e h = let t = written-number f n h in inr (t.small, sym e, ap (λ (x : List ℕ). x ∷ []) t.text)
grid-spells w f None e h = inl refl

pmu_spells : (w f : List ℕ) (x : Option ℕ) → w ≡ bytes "pmu" → numeral_of f ≡ x → Spells (pmu_record_of x) w (f ∷ [])
pmu_spells w f (Some n) e h = let t = written-number f n h in inr (t.small, sym e, ap (λ (x : List ℕ). x ∷ []) t.text)
pmu_spells w f None e h = inl refl

line-spells : (w f g : List ℕ) (x y : Option ℕ) → w ≡ bytes "line" → numeral_of f ≡ x → numeral_of g ≡ y
    → Spells (line_record_of x y) w (f ∷ g ∷ [])
line-spells w f g (Some a) (Some b) e h i =
    let s = written-number f a h in
    let t = written-number g b i in
    inr ((s.small, t.small), sym e, ap₂ (λ (x y : List ℕ). x ∷ y ∷ []) s.text t.text)
line-spells w f g (Some a) None e h i = inl refl
line-spells w f g None y e h i = inl refl

circuits-spells : (w f g p : List ℕ) (x y z : Option ℕ) → w ≡ bytes "line" → numeral_of f ≡ x → numeral_of g ≡ y → numeral_of p ≡ z
    → Spells (circuits_record_of x y z) w (f ∷ g ∷ p ∷ [])
circuits-spells w f g p (Some a) (Some b) (Some k) e h i j =
    let s = written-number f a h in
    let t = written-number g b i in
    let u = written-number p k j in
    inr ((s.small, t.small, u.small), sym e, cc (s.text, t.text, u.text))
circuits-spells w f g p (Some a) (Some b) None e h i j = inl refl
circuits-spells w f g p (Some a) None z e h i j = inl refl
circuits-spells w f g p None y z e h i j = inl refl

bus-spells : (w f g h : List ℕ) (x : Option ℕ) (c s : Option Bool) → w ≡ bytes "bus" → numeral_of f ≡ x → class_of g ≡ c → site_of h ≡ s
    → Spells (bus_record_of x c s) w (f ∷ g ∷ h ∷ [])
bus-spells w f g h (Some n) (Some z) (Some o) e i j k =
    let t = written-number f n i in
    let u = mark_told 90 73 g z j in
    let v = mark_told 89 78 h o k in
    inr (t.small, sym e, cc (t.text, u, v))
bus-spells w f g h (Some n) (Some z) None e i j k = inl refl
bus-spells w f g h (Some n) None s e i j k = inl refl
bus-spells w f g h None c s e i j k = inl refl

bus_neither : (x : Option ℕ) (c : Option Bool) → bus_record_of x c None ≡ Wrong
bus_neither (Some n) (Some z) = refl
bus_neither (Some n) None = refl
bus_neither None c = refl

spells : (w : List ℕ) (v : Word) (fs : List (List ℕ)) → word_spelt w v → Spells (by_word v fs) w fs
unfolding word_spelt if_one_field if_no_field line_fields bus_fields
spells w GridWord [] e = inl refl
spells w GridWord (f ∷ []) e = grid-spells w f (numeral_of f) e refl
spells w GridWord (f ∷ g ∷ fs) e = inl refl
spells w BusWord [] e = inl refl
spells w BusWord (f ∷ []) e = inl refl
spells w BusWord (f ∷ g ∷ []) e = inl (bus_neither (numeral_of f) (class_of g))
spells w BusWord (f ∷ g ∷ h ∷ []) e = bus-spells w f g h (numeral_of f) (class_of g) (site_of h) e refl refl refl
spells w BusWord (f ∷ g ∷ h ∷ i ∷ fs) e = inl (bus_neither (numeral_of f) (class_of g))
spells w LineWord [] e = inl refl
spells w LineWord (f ∷ []) e = inl refl
spells w LineWord (f ∷ g ∷ []) e = line-spells w f g (numeral_of f) (numeral_of g) e refl refl
spells w LineWord (f ∷ g ∷ h ∷ []) e = circuits-spells w f g h (numeral_of f) (numeral_of g) (numeral_of h) e refl refl refl
spells w LineWord (f ∷ g ∷ h ∷ i ∷ fs) e = inl refl
spells w PmuWord [] e = inl refl
spells w PmuWord (f ∷ []) e = pmu_spells w f (numeral_of f) e refl
spells w PmuWord (f ∷ g ∷ fs) e = inl refl
spells w EndWord [] e = inr (tt, sym e, refl)
spells w EndWord (f ∷ fs) e = inl refl
spells w Other fs e = inl refl

-- a line that is read as a record is its text
pub record Spelt (l : List ℕ) (r : Record) : Type 0 where
  pub formed : Formed r
  pub text : record_text r ≡ l

pub spelt : (l : List ℕ) → (record_of l ≡ Wrong → ⊥) → Spelt l (record_of l)
unfolding record_of record_text
spelt l n =
    let w = (split 9 l).first in
    let fs = (split 9 l).rest in
    ⊎_elim
    (λ (e : by_word (record_word_of w) fs ≡ Wrong). absurd (n e))
    (λ (s : Formed (by_word (record_word_of w) fs) × (word_text (by_word (record_word_of w) fs) ≡ w)
    × (field_texts (by_word (record_word_of w) fs) ≡ fs)).
    record { formed = s.0; text = ap₂ (join 9) s.1 s.2 ∙ join-split 9 l })
    (spells w (record_word_of w) fs (word_told w))

-- no line feed stands in a record's text
pub text-free : (r : Record) → Formed r → FreeOf 10 (record_text r)
unfolding record_text
text-free r f =
    free-join 10 9 (word_text r) (field_texts r) (λ e. omega arith) (word_free 10 r (omega arith)) (fields_free 10 r (omega arith) f)
