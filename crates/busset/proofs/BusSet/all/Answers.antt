-- 2 ^ n - 1 has its ones at the digits below n. All buses are a branch of their own, since a word cannot be shifted by its width.
use Prim.Native.Nat.{ℕ}
use mathlib.Core.Path.{subst⁻¹}
use borrow.Author.Rules.{rules}
use Rattle.busset.specs.Sets.{All, set_of, width}
use Rattle.busset.proofs.Words.{all_law, all_shifted, shifted_some}
use Rattle.busset.proofs.BusSet.all.Goals as goal

pub returns-then-n-eq-WIDTH : goal.returns-then-n-eq-WIDTH
returns-then-n-eq-WIDTH c = subst⁻¹ (λ (n : ℕ). All n (set_of 18446744073709551615)) c.if-n-eq-WIDTH.true (all_law width)

pub overflow_sub-result : goal.overflow_sub-result
overflow_sub-result c = shifted_some width c.args.n (search rules)

pub returns : goal.returns
returns c = all_shifted width c.args.n (search rules)
