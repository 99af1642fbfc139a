-- The set filled into the bytes lent, byte after byte.
use mathlib.Core.Path.{◌≡◌, sym, ap, ◌∙◌, subst}
use mathlib.Core.List.{List, ◌++◌}
use Prim.Native.Nat.{ℕ, ◌+◌, ◌≤◌, ◌<◌}
use native.Mathlib.Omega.{arith}
use lib.ListN.{length, drop, set}
use lib.Seq.{take_all}
use Rattle.busset.specs.Held.{SetWord}
use Rattle.busset.specs.Bytes.{byte_of, set_bytes, set_length}
use Rattle.busset.proofs.Packing.{byte_at, set-length}
use Rattle.step.proofs.Writing.{WrittenSoFar, written-more}

pub filled_more : (s : SetWord) {lent room : List ℕ} {i b : ℕ} → WrittenSoFar (set_bytes s) lent room i → i < set_length
    → set_length ≤ length lent → b ≡ byte_of s i → WrittenSoFar (set_bytes s) lent (set room i b) (i + 1)
filled_more s {lent} {room} {i} {b} w l m e =
    subst (λ (x : ℕ). WrittenSoFar (set_bytes s) lent (set room i x) (i + 1)) (byte_at s i l ∙ sym e)
    (written-more 0 w (omega (arith, set-length s)) (omega arith))

pub filled-all : (s : SetWord) {lent room : List ℕ} {i : ℕ} → WrittenSoFar (set_bytes s) lent room i → i ≡ set_length
    → room ≡ set_bytes s ++ drop set_length lent
filled-all s {lent} {room} w e =
    (subst (λ (k : ℕ). WrittenSoFar (set_bytes s) lent room k) e w).is
    ∙ ap (λ (t : List ℕ). t ++ drop set_length lent) (take_all set_length (set_bytes s) (omega (arith, set-length s)))
