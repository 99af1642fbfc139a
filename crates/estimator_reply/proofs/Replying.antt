-- The code of a refusal is small where its place is.
use Prim.Native.Nat.{◌+◌, ◌*◌, ◌≤◌}
use native.Mathlib.Omega.{arith}
use Rattle.refusals.specs.declared.Refusal.{Refusal}
use Rattle.refusals.specs.Refusals.{place_of}
use Rattle.refusals.proofs.Orders.{number-most}
use Rattle.estimator_reply.specs.Results.{code_of, farthest}

pub code-small : (q : Refusal) → place_of q ≤ farthest → code_of q ≤ 100 * farthest + 13
code-small q h = omega (arith, number-most q)
