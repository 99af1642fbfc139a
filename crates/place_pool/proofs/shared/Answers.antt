-- A set of at most one item that has one of `choice` has no other.
use native.Mathlib.Omega.{arith}
use Rattle.place_pool.proofs.Saying.{meets-one}
use borrow.Author.Rules.{rules}
use Rattle.place_pool.proofs.shared.Goals as goal

pub returns-then-k-eq1 : goal.returns-then-k-eq1
returns-then-k-eq1 c = record {
  most = search rules;
  says = λ v few s t m. record { within = meets-one _ v (omega arith) m; apart = s.apart; meets = s.meets };
}
