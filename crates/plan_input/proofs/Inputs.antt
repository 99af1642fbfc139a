-- What is known of the case that an input asks, and of a refusal.
use Rattle.std.specs.Prelude.{Option, Some, None, Result, Ok, Err}
use Rattle.std.specs.Result.{MatchResult}
use mathlib.Core.Path.{◌≡◌, refl}
use mathlib.Core.Bool.{Bool, true, false, cond}
use mathlib.Core.List.{List, [], ◌∷◌}
use Prim.Native.Nat.{ℕ, ◌+◌, ◌≤◌, ◌<◌}
use native.Mathlib.Omega.{arith}
use borrow.Author.Tests.{ltb-false}
use lib.Dec.{ltb}
use lib.ListN.{length}
use Rattle.text_field.specs.Split.{split}
use Rattle.text_field.proofs.Cutting.{rest-few}
use Rattle.grid.specs.Limits.{most_bytes}
use Rattle.grid.specs.Cases.{Valid}
use Rattle.grid.specs.declared.Case.{Case}
use Rattle.refusals.specs.Refusals.{place_of}
use Rattle.refusals.specs.declared.Refusal.{Refusal}
use Rattle.refusals.specs.declared.Refusal.TheVariants.{TextTooLong, WrongForm}
use Rattle.case_read.specs.Reading.{start, read_lines}
use Rattle.case_read.proofs.Refusing.{PlacedBy, lines-placed}
use Rattle.case_inverse.proofs.Inverse.{lines-valid}
use Rattle.plan_input.specs.declared.Asked.{Asked}
use Rattle.plan_input.specs.Asking.{budget_of, asked_with, plan_lines, read_plan}

-- of the case asked P holds, or Q of the refusal: it does where Q holds of the refusals 1 and 2 at line 1, and one of the two of the lines
-- from line 2 on
module _ (P : Case → Type 0) (Q : Refusal → Type 0) (long : Q TextTooLong) (form : Q (WrongForm 1))
    (lines : (l : List ℕ) (ms : List (List ℕ)) → length ms < most_bytes → MatchResult (read_lines start 2 l ms) P Q) where
  abbrev Known : Result Asked Refusal → Type 0
  Known r = MatchResult r (λ a. P a.case) Q

  by_budget : (b : Option ℕ) (r : Result Case Refusal) → MatchResult r P Q → Known (asked_with b r)
  by_budget (Some v) (Ok c) p = p
  by_budget (Some v) (Err q) p = p
  by_budget None r p = form

  by_lines : (l : List ℕ) (ms : List (List ℕ)) → length ms ≤ most_bytes → Known (plan_lines l ms)
  by_lines l [] h = form
  by_lines l (m ∷ ms) h = by_budget (budget_of l) (read_lines start 2 m ms) (lines m ms (omega arith))

  by_input : (x : List ℕ) → Known (read_plan x)
  unfolding read_plan
  by_input x = go (ltb most_bytes (length x)) refl
    where
      go : (b : Bool) → ltb most_bytes (length x) ≡ b → Known (cond b (Err TextTooLong) (plan_lines (split 10 x).first (split 10 x).rest))
      go true e = long
      go false e = by_lines (split 10 x).first (split 10 x).rest (omega (arith, rest-few 10 x, ltb-false most_bytes (length x) e))

-- the case is valid
pub asked_valid : (x : List ℕ) {a : Asked} → Ok a ≡ read_plan x → Valid a.case
asked_valid x {a} e = rw (← e) at (by_input Valid (λ q. Unit {0}) tt tt (λ l ms h. valid l ms (read_lines start 2 l ms) refl) x)
  where
    valid : (l : List ℕ) (ms : List (List ℕ)) (r : Result Case Refusal) → read_lines start 2 l ms ≡ r → MatchResult r Valid (λ q. Unit {0})
    valid l ms (Ok c) i = (lines-valid 2 l ms c i).valid
    valid l ms (Err q) i = tt

-- a refusal's place is a number that has a text
pub asked_placed : (x : List ℕ) {q : Refusal} → Err q ≡ read_plan x → place_of q ≤ 1 + most_bytes
asked_placed x {q} e =
    rw (← e) at (by_input (λ c. Unit {0}) (λ r. place_of r ≤ 1 + most_bytes) (omega arith) (omega arith)
    (λ l ms h. placed (read_lines start 2 l ms) (lines-placed (1 + most_bytes) ms start 2 l (omega arith))) x)
  where
    placed : (r : Result Case Refusal) → PlacedBy (1 + most_bytes) r → MatchResult r (λ c. Unit {0}) (λ q. place_of q ≤ 1 + most_bytes)
    placed (Ok c) p = tt
    placed (Err q) p = p
