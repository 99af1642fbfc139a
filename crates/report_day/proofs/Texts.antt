-- The texts of a day report: the steps one after another, the verdict, and how long each is.
use mathlib.Core.Path.{◌≡◌, refl, sym, ap, ◌∙◌}
use mathlib.Core.List.{List, [], ◌∷◌, ◌++◌}
use Prim.Native.Nat.{ℕ, zero, suc, ◌+◌, ◌*◌, ◌≤◌, ◌<◌}
use native.Mathlib.Numerals.{add-one}
use native.Mathlib.Omega.{arith}
use lib.ListN.{length, drop, get_or, length-append, drop_of_length-le}
use lib.Seq.{drop-cons, append_snoc}
use Rattle.busset.specs.Sets.{width}
use Rattle.step.specs.declared.Step.{Step}
use Rattle.rules.specs.Steps.{Names}
use Rattle.basics.specs.Lists.{Each}
use Rattle.text_field.specs.Split.{join, bytes, line_feed}
use Rattle.text_field.specs.Number.{most_digits, number_text}
use Rattle.text_field.proofs.Digits.{text_length, text-two}
use Rattle.step_line.specs.StepLine.{step_text}
use Rattle.text_put.specs.Put.{Put}
use Rattle.report_lines.specs.Printing.{printed_line}
use Rattle.step_line.proofs.StepLines.{step_length}
use Rattle.report_day.specs.Day.{steps_text, verdict_fields}
use Rattle.report_day.specs.Listing.{Named}

-- ---- the steps

each_at : (P : Step → Type 0) (xs : List Step) (i : ℕ) (d : Step) → Each P xs → i < length xs → P (get_or xs i d)
each_at P [] i d e h = absurd (omega arith)
each_at P (x ∷ xs) zero d e h = e.0
each_at P (x ∷ xs) (suc i) d e h = each_at P xs i d e.1 (omega arith)

steps_cons : (x : Step) (xs : List Step) → steps_text (x ∷ xs) ≡ (step_text x ++ line_feed ∷ []) ++ steps_text xs
unfolding steps_text
steps_cons x xs = sym (append_snoc (step_text x) line_feed (steps_text xs))

pub steps_length : (xs : List Step) → Each (Names width) xs → length (steps_text xs) ≤ 13 * length xs
steps_length [] e = unfold steps_text in omega arith
steps_length (x ∷ xs) e =
    rw (steps_cons x xs) (omega (
      arith,
      length-append (step_text x ++ line_feed ∷ []) (steps_text xs),
      step_length x e.0,
      steps_length xs e.1,
    ))

-- what is left to put after i steps
unfoldable pub rest_steps : List Step → ℕ → List ℕ
rest_steps xs i = steps_text (drop i xs)

pub rest-first : (xs : List Step) → rest_steps xs 0 ≡ steps_text xs
rest-first xs = unfold rest_steps in refl

module _ (xs : List Step) (d : Step) (i : ℕ) (k : i < length xs) where
  pub step_named : Named xs → Names width (get_or xs i d)
  step_named h = each_at (Names width) xs i d h.named k

  pub rest-next : rest_steps xs i ≡ (step_text (get_or xs i d) ++ line_feed ∷ []) ++ rest_steps xs (i + 1)
  unfolding rest_steps
  rest-next = ap steps_text (drop-cons xs i d k) ∙ steps_cons (get_or xs i d) (drop (suc i) xs) ∙ rw (add-one i) refl

pub rest_all : (xs : List Step) (i : ℕ) → length xs ≤ i → rest_steps xs i ≡ []
unfolding rest_steps steps_text
rest_all xs i k = ap steps_text (drop_of_length-le xs {i = i} k)

pub list_length : (xs : List Step) → Named xs → length (steps_text xs) ≤ 13 * width
list_length xs h = omega (arith, steps_length xs h.named, h.few)

-- ---- the verdict

pub verdict-some : (k : ℕ) → (k ≡ 0 → ⊥) → verdict_fields k ≡ bytes "no" ∷ number_text k ∷ []
verdict-some zero h = absurd (h refl)
verdict-some (suc k) h = refl

pub verdict_length : (k : ℕ) → k ≤ width → length (printed_line (bytes "xv") (verdict_fields k)) ≤ 9
unfolding join
verdict_length zero h = omega arith
verdict_length (suc k) h = simp length-append (omega (arith, text-two (suc k) (omega arith)))

-- ---- the first line

pub observed_length : (k n : ℕ) → k ≤ width → n ≤ width → length (printed_line (bytes "observed") (number_text k ∷ number_text n ∷ [])) ≤ 15
unfolding join
observed_length k n h l = simp length-append (omega (arith, text-two k (omega arith), text-two n (omega arith)))

-- put, whatever its numbers are
pub observed-put : {l m : List ℕ} {r : ℕ} (k n : ℕ) → Put l 0 (printed_line (bytes "observed") (number_text k ∷ number_text n ∷ [])) m r
    → r ≤ 11 + 2 * most_digits
unfolding join
observed-put k n p = omega (arith, simp length-append at p.next, text_length k, text_length n)
