-- Reading a case text line after line.
use Rattle.std.specs.Prelude.{Result, Ok, Err}
use mathlib.Core.Path.{◌≡◌, refl, sym, ap, ◌∙◌}
use mathlib.Core.Bool.{Bool, true, false}
use mathlib.Core.List.{List, [], ◌∷◌}
use Prim.Native.Nat.{ℕ, suc, ◌+◌, ◌≤◌, ◌<◌}
use native.Mathlib.Omega.{arith}
use lib.Dec.{eqb}
use lib.ListN.{length, get_or, drop, drop_of_length-le}
use lib.Seq.{drop-cons}
use Rattle.text_field.specs.Split.{split, all_pieces, line_feed}
use Rattle.case_line.specs.Record.{record_of}
use Rattle.refusals.specs.declared.Refusal.TheVariants.{WrongForm}
use Rattle.case_judge.specs.Judging.{judged}
use Rattle.case_judge.specs.declared.Standing.{Standing}
use Rattle.case_line.specs.declared.Record.{Record}
use Rattle.grid.specs.declared.Case.{Case}
use Rattle.case_judge.specs.declared.Fault.{Fault}
use Rattle.case_judge.specs.declared.Standing.TheVariants.{Next, Last}
use Rattle.case_judge.proofs.Judged.{small_of}
use Rattle.grid.specs.Limits.{most_buses, most_bytes}
use Rattle.case_read.specs.Reading.{next_reader, case_so_far, case_ended, record_said, read_lines, read_text}
use Rattle.case_read.specs.declared.Reader.{Reader}

-- ---- after `end`, whose line feed stands before index i: f has one value where nothing follows, another where anything does

module _ {A : Type 0} (f : List ℕ → List (List ℕ) → A) (text : List ℕ) (i : ℕ) where
  pub end_none : length text ≤ i → f [] [] ≡ f (split line_feed (drop i text)).first (split line_feed (drop i text)).rest
  unfolding split
  end_none h = rw (drop_of_length-le text h)

  pub end_more : {r : A} → ((m : List ℕ) (ms : List (List ℕ)) → r ≡ f [] (m ∷ ms))
      → ((b : ℕ) (l : List ℕ) (ms : List (List ℕ)) → r ≡ f (b ∷ l) ms)
      → i < length text → r ≡ f (split line_feed (drop i text)).first (split line_feed (drop i text)).rest
  unfolding split
  end_more {r} p q h = rw (drop-cons text i 0 h) (go (eqb (get_or text i 0) line_feed) refl)
    where
      t : List ℕ
      t = get_or text i 0 ∷ drop (suc i) text

      go : (b : Bool) → eqb (get_or text i 0) line_feed ≡ b → r ≡ f (split line_feed t).first (split line_feed t).rest
      go true e = rw e (p _ _)
      go false e = rw e (q _ _ _)

-- ---- the loop

-- line k starts at index at; a reader that stands so has read the text from index `from` up to there
pub record Going (text : List ℕ) (from first : ℕ) (s : Reader) (k at : ℕ) : Type 0 where
  pub high : at ≤ length text
  pub few : k ≤ first + at
  pub long : length text ≤ most_bytes
  pub soon : first ≤ most_bytes
  pub small : s.place.n ≤ most_buses
  pub is : read_text first (drop from text) ≡ read_lines s k (split line_feed (drop at text)).first (split line_feed (drop at text)).rest

module _ {text : List ℕ} {from first : ℕ} {s : Reader} {k at : ℕ} (next : ℕ) {line : List ℕ} {r : Record} {v : Result Standing Fault}
    (g : Going text from first s k at) (low : at < next) (high : next ≤ length text)
    (cut : split line_feed (drop at text) ≡ record { first = line; rest = all_pieces (split line_feed (drop next text)) })
    (is : r ≡ record_of line) (judged_so : v ≡ judged s.place r) where
  -- what is said of line k is what is read
  said : read_text first (drop from text) ≡ record_said v k
      (read_lines (next_reader s r) (k + 1) (split line_feed (drop next text)).first (split line_feed (drop next text)).rest)
      (case_ended (case_so_far s) (k + 1) (split line_feed (drop next text)).first (split line_feed (drop next text)).rest)
  unfolding read_lines
  said = g.is ∙ rw (cut, judged_so, is) refl

  pub goes-on : {t : Reader} → v ≡ Ok Next → t ≡ next_reader s r → Going text from first t (k + 1) next
  goes-on e i = rw i record {
    high = high;
    few = omega (arith, g.few);
    long = g.long;
    soon = g.soon;
    small = small_of s.place r g.small (sym judged_so ∙ e);
    is = rw e at said;
  }

  pub ends : {c : Case} → v ≡ Ok Last → next ≡ length text → c ≡ case_so_far s → Ok c ≡ read_text first (drop from text)
  ends e h i = ap Ok i ∙ end_none (case_ended (case_so_far s) (k + 1)) text next (omega arith) ∙ sym (rw e at said)

  pub ends-early : v ≡ Ok Last → (next ≡ length text → ⊥) → Err (WrongForm (k + 1)) ≡ read_text first (drop from text)
  ends-early e h =
      end_more (case_ended (case_so_far s) (k + 1)) text next (λ m ms. refl) (λ b l ms. refl) (omega arith) ∙ sym (rw e at said)
