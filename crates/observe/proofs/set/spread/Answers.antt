-- The set holds s and no more than O2 gives. A sweep that changes it makes it larger, so that what it lacks of 64 buses falls.
use Prim.Native.Nat.{◌≤◌}
use native.Mathlib.Omega.{arith}
use Rattle.busset.specs.Sets.{set_of, size, width}
use Rattle.basics.proofs.Tests.{refutes}
use Rattle.busset.proofs.Sizes.{size_lt}
use Rattle.busset.proofs.Words.{set-size, same-test}
use borrow.Author.Rules.{rules}
use Rattle.observe.proofs.set.spread.Goals as goal

pub loop-r-smaller : goal.loop-r-smaller
loop-r-smaller c = let more = size_lt _ _ c.sweep-r.ensures.grows (refutes (same-test _ _ c.eq.ensures) c.if-eq.false) in
    let most : size (set_of c.sweep-r.result) ≤ width = set-size width (search rules) in
    omega arith
