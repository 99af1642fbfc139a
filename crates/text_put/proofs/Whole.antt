-- A text put from the first place on, where there is room for it: the text, and what lies after it as it was.
use mathlib.Core.Path.{◌≡◌, ap, ◌∙◌}
use mathlib.Core.List.{List, ◌++◌}
use Prim.Native.Nat.{ℕ, ◌≤◌}
use native.Mathlib.Omega.{arith}
use native.Mathlib.Nat.{zero-add}
use lib.ListN.{length, drop}
use lib.Seq.{sets-eq}
use Rattle.text_put.specs.Put.{Put}

module _ {A : Type 0} {l t m : List A} {k : ℕ} where
  pub put_whole : Put l 0 t m k → length t ≤ length l → m ≡ t ++ drop (length t) l
  put_whole p h = p.put ∙ sets-eq t l 0 (omega arith) ∙ ap (λ (i : ℕ). t ++ drop i l) (zero-add (length t))

  pub put_count : Put l 0 t m k → k ≡ length t
  put_count p = omega (arith, p.next)
