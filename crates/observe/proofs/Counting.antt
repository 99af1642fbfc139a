-- The unknown buses, counted one after another.
use mathlib.Core.Path.{◌≡◌, ap}
use Prim.Native.Nat.{ℕ, ◌+◌, ◌≤◌}
use native.Mathlib.Omega.{arith}
use Rattle.busset.specs.Sets.{lack, size, Minus, width}
use Rattle.busset.proofs.Members.{minus-lack}

-- of the buses of m that are not in s, those that are not left are counted
pub record Tallied (m s left unknown : ℕ) : Type 0 where
  pub adds : unknown + size left ≡ size (lack m s)
  pub most : unknown + size left ≤ width

pub tallied-none : {m s left : ℕ} → Minus m s left → size left ≤ width → Tallied m s left 0
tallied-none h l = record { adds = omega (arith, ap size (minus-lack h)); most = omega arith }
