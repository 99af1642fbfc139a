-- Below 1 the answer is no. From 1 on only the comparison with n is left.
use native.Mathlib.Omega.{arith}
use Rattle.basics.proofs.Tests.{decides-le, decides-by, decides-no}
use Rattle.busset.proofs.is_bus.Goals as goal

pub returns-then-b-lt1 : goal.returns-then-b-lt1
returns-then-b-lt1 c = decides-no (λ b. let l = b.some in omega arith)

pub returns : goal.returns
returns c = decides-by (λ l. record { some = omega arith; most = l }) (λ b. b.most) (decides-le _ _)
