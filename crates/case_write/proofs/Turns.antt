-- The text of a case, turn after turn.
use mathlib.Core.Path.{◌≡◌, refl, sym, ap, ◌∙◌}
use mathlib.Core.Bool.{Bool, true, false, cond}
use mathlib.Core.List.{List, [], ◌∷◌, ◌++◌, append_assoc}
use Prim.Native.Nat.{ℕ, suc, ◌+◌, ◌-◌, ◌*◌, ◌≤◌, ◌<◌}
use native.Mathlib.Omega.{arith}
use borrow.Author.Tests.{eq-eqb, ne_eqb}
use lib.Dec.{ltb}
use lib.ListN.{length, length-append}
use Rattle.grid.specs.Limits.{most_buses, most_circuits, least_several}
use Rattle.grid.proofs.Joined.{circuits-few}
use Rattle.grid.specs.Rows.{Rows, circuits}
use Rattle.basics.specs.Deciding.{Decides}
use Rattle.busset.specs.Sets.{bit, In}
use Rattle.basics.proofs.Tests.{refutes}
use Rattle.text_field.specs.Split.{line_feed}
use Rattle.case_line.specs.Record.{record_text, Formed}
use Rattle.case_line.specs.declared.Record.{Record}
use Rattle.case_line.specs.declared.Record.TheVariants.{Line, Circuits}
use Rattle.case_line.proofs.Lengths.{record_length}
use Rattle.case_line.specs.CaseText.{has, bus_record, bus_records, members, line_from, line_records, lines_text}
use Rattle.case_read.proofs.Lengths.{line_room, lines_length, lines_append, members_length, row_room}
use Rattle.text_put.specs.Put.{Put}
use Rattle.case_write.specs.Lines.{line_text}
use Rattle.text_put.proofs.Left.{Left, left-more, left-all}

-- ---- a record's line

lines_cons : (r : Record) (rs : List Record) → lines_text (r ∷ rs) ≡ line_text r ++ lines_text rs
unfolding lines_text line_text
lines_cons r rs = sym (append_assoc (record_text r) (line_feed ∷ []) (lines_text rs))

pub line_length : (r : Record) → length (line_text r) ≤ line_room
unfolding line_text
line_length r = simp length-append (omega (arith, record_length r))

lined_length : (t : Bool) (r : Record) → length (cond t (line_text r) []) ≤ line_room
lined_length true r = line_length r
lined_length false r = omega arith

-- a line from bus to bus, by any circuits that rows can count, may be put
pub line-formed : (rows : Rows) {a b : ℕ} → a ≤ most_buses → b ≤ most_buses → Formed (line_from (circuits rows) a b)
line-formed rows {a} {b} h i = either (ltb (circuits rows a b) least_several) (circuits-few rows a b)
  where
    either : (t : Bool) {k : ℕ} → k < 2 * most_circuits → Formed (cond t (Line a b) (Circuits a b k))
    either true j = omega arith
    either false j = omega arith

-- ---- a turn for each bus from first to n: recs b m are the records of the m buses from b on, and a bus takes at most so many bytes

-- the text of the buses from b on
unfoldable pub rest : (ℕ → ℕ → List Record) → ℕ → ℕ → List ℕ
rest recs n b = lines_text (recs b (n + 1 - b))

-- before the turn of bus b: the text from b on is left, and k is no further than the buses below b can reach
pub record Turn (recs : ℕ → ℕ → List Record) (most first n : ℕ) (l : List ℕ) (at : ℕ) (m : List ℕ) (k b : ℕ) : Type 0 where
  pub near : k ≤ at + most * b
  pub left : Left l at (rest recs n first) m k (rest recs n b)

module _ {recs : ℕ → ℕ → List Record} {most first n : ℕ} {l : List ℕ} {at : ℕ} where
  turn_next : {k b q : ℕ} {m t o : List ℕ} → Turn recs most first n l at m k b → b < n + 1 →
      lines_text (recs b (suc (n - b))) ≡ t ++ lines_text (recs (b + 1) (n - b)) → length t ≤ most → Put m k t o q
      → Turn recs most first n l at o q (b + 1)
  unfolding rest
  turn_next {k} {b} {q} {m} {t} {o} w h e s p =
      let i : n + 1 - b ≡ suc (n - b) = omega arith in
      let j : n - b ≡ n + 1 - (b + 1) = omega arith in
      record {
        near = omega (arith, w.near, p.next);
        left = left-more w.left (ap (λ (x : ℕ). lines_text (recs b x)) i ∙ e ∙ ap (λ (x : ℕ). t ++ lines_text (recs (b + 1) x)) j) p;
      }

  pub turn_all : {k b : ℕ} {m : List ℕ} (count : ℕ) → Turn recs most first n l at m k b → n + 1 ≤ b → n + 1 - first ≡ count → recs b 0 ≡ []
      → Put l at (lines_text (recs first count)) m k
  unfolding rest lines_text
  turn_all {k} {b} count w h f e =
      let i : n + 1 - b ≡ 0 = omega arith in
      rw (← f) (left-all w.left (ap (λ (x : ℕ). lines_text (recs b x)) i ∙ ap lines_text e))

-- what a set's test says
pub has-is : (s b : ℕ) (r : Bool) → Decides (In s b) r → r ≡ has s b
has-is s b true d = sym (eq-eqb (bit s b) 1 (d.yes refl))
has-is s b false d = sym (ne_eqb (bit s b) 1 (refutes d refl))

-- ---- one turn more: the record of a bus, its line where it is in a set, its row

module _ {first n : ℕ} {l m o : List ℕ} {at k b q : ℕ} where
  pub turn_bus : (z_buses sites : ℕ) → Turn (bus_records z_buses sites) line_room first n l at m k b → b < n + 1 →
      Put m k (line_text (bus_record z_buses sites b)) o q → Turn (bus_records z_buses sites) line_room first n l at o q (b + 1)
  unfolding bus_records
  turn_bus z_buses sites w h p = turn_next w h (lines_cons _ _) (line_length _) p

  pub turn_member : (f : ℕ → Record) (s : ℕ) {t : Bool} → Turn (members f s) line_room first n l at m k b → b < n + 1
      → Decides (In s b) t
      → Put m k (cond t (line_text (f b)) []) o q → Turn (members f s) line_room first n l at o q (b + 1)
  unfolding members
  turn_member f s {t} w h d p = turn_next w h (rw (← has-is s b t d) (taken t _)) (lined_length t (f b)) p
    where
      taken : (t : Bool) (rs : List Record) → lines_text (cond t (f b ∷ rs) rs) ≡ cond t (line_text (f b)) [] ++ lines_text rs
      taken true rs = lines_cons _ _
      taken false rs = refl

  pub turn_row : (nbr : ℕ → ℕ) (counts : ℕ → ℕ → ℕ) → Turn (line_records nbr counts) row_room first n l at m k b → b < n + 1
      → n ≤ most_buses → Put m k (lines_text (members (line_from counts b) (nbr b) (b + 1) (n - b))) o q
      → Turn (line_records nbr counts) row_room first n l at o q (b + 1)
  unfolding line_records
  turn_row nbr counts w h c p =
      let f = line_from counts b in
      let rs = members f (nbr b) (b + 1) (n - b) in
      turn_next w h (lines_append rs _) (omega (arith, lines_length rs, members_length f (nbr b) (b + 1) (n - b))) p

-- ---- the whole

lines-last : (e : Record) → lines_text (e ∷ []) ≡ line_text e
unfolding lines_text line_text
lines-last e = refl

pub whole : (r e : Record) (B L U : List Record) →
    line_text r ++ (lines_text B ++ (lines_text L ++ (lines_text U ++ line_text e))) ≡ lines_text (r ∷ (B ++ (L ++ (U ++ e ∷ []))))
whole r e B L U = rw (lines_cons r, lines_append B, lines_append L, lines_append U, lines-last)
