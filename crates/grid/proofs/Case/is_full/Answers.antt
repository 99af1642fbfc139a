-- A set has all n buses exactly when it holds the set of them.
use mathlib.Core.Bool.{Bool}
use Prim.Native.Nat.{ℕ}
use native.Mathlib.Omega.{arith}
use Rattle.basics.specs.Deciding.{Decides}
use Rattle.busset.specs.Sets.{Sub, All}
use Rattle.basics.proofs.Tests.{decides-by}
use Rattle.busset.proofs.Members.{sub_of}
use Rattle.rules.specs.Placing.{Full}
use Rattle.grid.proofs.Case.is_full.Goals as goal

full-test : (n s : ℕ) {a : ℕ} {r : Bool} → All n a → Decides (Sub a s) r → Decides (Full n s) r
full-test n s {a} al d =
    decides-by (λ sub b bus. omega (arith, sub b, al.has b bus)) (λ full. sub_of a s (λ b h. full b (al.only b h))) d

pub returns : goal.returns
returns c = full-test _ _ c.all.ensures c.is_subset.ensures
