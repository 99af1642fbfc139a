-- O by itself; N and Z by each bus that they may name.
use mathlib.Core.Path.{refl}
use Prim.Native.Nat.{ℕ, ◌+◌}
use native.Mathlib.Omega.{arith}
use borrow.Author.Rules.{rules}
use Rattle.std.proofs.lemmas.Iterator.{cases_from_any, YieldsList-from_range}
use Rattle.basics.proofs.Tests.{refutes}
use Rattle.busset.specs.Sets.{set_of}
use Rattle.grid.specs.Cases.{grid_with}
use Rattle.round_list.proofs.Reasoned.{NamedHolds, decides-any, some-reason}
use Rattle.round_list.proofs.has_reason.Goals as goal

pub returns-else-has : goal.returns-else-has
returns-else-has c = λ sites v.
    let n = c.args.case.now.n in
    let named : ℕ → Type 0 = NamedHolds
    (grid_with n c.args.case.now.nbr c.args.case.now.zero sites c.args.case.now.units) (set_of c.args.s) c.args.b in
    some-reason v (refutes c.has.ensures c.if-has.false)
    (decides-any n _
    (cases_from_any _ _ _ named (λ p. named p → ⊥) c.any.ensures.ran
    (YieldsList-from_range 1 (n + 1) n refl (omega arith))
    (λ x q k. search rules) (λ x q k. (search rules, λ h. search rules))))
