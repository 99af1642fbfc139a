-- What reading answers: a case that is valid, or a refusal whose place prints.
use Rattle.std.specs.Prelude.{Result, Ok, Err}
use mathlib.Core.Path.{◌≡◌, sym, ◌∙◌, subst, subst⁻¹}
use mathlib.Core.List.{List}
use Prim.Native.Nat.{ℕ, ◌<◌}
use native.Mathlib.Omega.{arith}
use Rattle.text_field.specs.Number.{most_printed}
use Rattle.grid.specs.Cases.{Valid}
use Rattle.grid.specs.declared.Case.{Case}
use Rattle.refusals.specs.Refusals.{place_of}
use Rattle.refusals.specs.declared.Refusal.{Refusal}
use Rattle.case_read.specs.Reading.{read_case}
use Rattle.case_read.proofs.Refusing.{read-place}
use Rattle.case_inverse.proofs.Inverse.{read-valid}

-- what r is is what reading gives
module _ (text : List ℕ) {r : Result Case Refusal} (is : r ≡ read_case text) where
  pub read-good : {c : Case} → r ≡ Ok c → Valid c
  read-good {c} told = (read-valid text c (sym is ∙ told)).valid

  pub read-bad : {q : Refusal} → r ≡ Err q → place_of q < most_printed
  read-bad {q} told = omega (arith, read-place text q (sym is ∙ told))

  pub read-says : (P : Result Case Refusal → Type 0) {a : Result Case Refusal} → r ≡ a → P a → P (read_case text)
  read-says P told p = subst P is (subst⁻¹ P told p)
