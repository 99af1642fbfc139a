-- Where a case text is refused: no line is further down than the text has bytes.
use Rattle.std.specs.Prelude.{Result, Ok, Err}
use mathlib.Core.Path.{◌≡◌, refl, subst}
use mathlib.Core.Bool.{Bool, true, false, cond}
use mathlib.Core.List.{List, [], ◌∷◌}
use Prim.Native.Nat.{ℕ, ◌+◌, ◌≤◌}
use native.Mathlib.Omega.{arith}
use borrow.Author.Tests.{ltb-false}
use lib.Dec.{ltb}
use lib.ListN.{length}
use Rattle.text_field.specs.Split.{split, line_feed}
use Rattle.text_field.proofs.Cutting.{rest-few}
use Rattle.case_line.specs.Record.{record_of}
use Rattle.grid.specs.declared.Case.{Case}
use Rattle.refusals.specs.declared.Refusal.{Refusal}
use Rattle.refusals.specs.declared.Refusal.TheVariants.{TextTooLong}
use Rattle.refusals.specs.Refusals.{place_of}
use Rattle.case_judge.specs.Judging.{judged}
use Rattle.case_read.specs.Reading.{next_reader, start, case_so_far, case_ended, record_said, read_lines, read_text}
use Rattle.case_read.specs.declared.Reader.{Reader}
use Rattle.case_read.specs.Reading.{read_case}
use Rattle.grid.specs.Limits.{most_bytes}
use Rattle.case_judge.specs.declared.Standing.{Standing}
use Rattle.case_judge.specs.declared.Standing.TheVariants.{Next, Last}
use Rattle.case_judge.specs.declared.Fault.{Fault}
use Rattle.case_judge.specs.declared.Fault.TheVariants.{Form, Range, Order}

-- a refusal has a place of at most m
abbrev pub PlacedBy : ℕ → Result Case Refusal → Type 0
PlacedBy m (Ok c) = Unit {0}
PlacedBy m (Err q) = place_of q ≤ m

said-placed : (m k : ℕ) (v : Result Standing Fault) (on end : Result Case Refusal) → k ≤ m → PlacedBy m on → PlacedBy m end
    → PlacedBy m (record_said v k on end)
said-placed m k (Ok Next) on end h p q = p
said-placed m k (Ok Last) on end h p q = q
said-placed m k (Err Form) on end h p q = h
said-placed m k (Err Range) on end h p q = h
said-placed m k (Err Order) on end h p q = h

closed-placed : (m k : ℕ) (c : Case) (l : List ℕ) (ms : List (List ℕ)) → k ≤ m → PlacedBy m (case_ended c k l ms)
closed-placed m k c [] [] h = tt
closed-placed m k c [] (l ∷ ms) h = h
closed-placed m k c (b ∷ l) ms h = h

-- from line k on, with so many pieces after it
pub lines-placed : (m : ℕ) (ms : List (List ℕ)) (s : Reader) (k : ℕ) (l : List ℕ) → k + length ms ≤ m
    → PlacedBy m (read_lines s k l ms)
unfolding read_lines
lines-placed m [] s k l h = omega arith
lines-placed m (n ∷ ms) s k l h =
    said-placed m k (judged s.place (record_of l)) (read_lines (next_reader s (record_of l)) (k + 1) n ms)
    (case_ended (case_so_far s) (k + 1) n ms) (omega arith)
    (lines-placed m ms (next_reader s (record_of l)) (k + 1) n (omega arith)) (closed-placed m (k + 1) (case_so_far s) n ms (omega arith))

-- a text whose first line is line k
pub text-placed : (m k : ℕ) (text : List ℕ) → k + length text ≤ m → PlacedBy m (read_text k text)
unfolding read_text
text-placed m k text h =
    lines-placed m (split line_feed text).rest start k (split line_feed text).first (omega (arith, rest-few line_feed text))

-- a case text
pub case-placed : (text : List ℕ) → PlacedBy (1 + most_bytes) (read_case text)
unfolding read_case
case-placed text = go (ltb most_bytes (length text)) refl
  where
    go : (b : Bool) → ltb most_bytes (length text) ≡ b → PlacedBy (1 + most_bytes) (cond b (Err TextTooLong) (read_text 1 text))
    go true e = omega arith
    go false e = text-placed (1 + most_bytes) 1 text (omega (arith, ltb-false most_bytes (length text) e))

-- ---- the same of the refusal given

pub read-place : (text : List ℕ) (q : Refusal) → read_case text ≡ Err q → place_of q ≤ 1 + most_bytes
read-place text q e = subst (PlacedBy (1 + most_bytes)) e (case-placed text)
