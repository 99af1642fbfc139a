-- The words that stay were there, and the group is put last, unless it is empty.
use mathlib.Core.Path.{subst⁻¹}
use mathlib.Core.Logic.{inl, inr}
use Rattle.busset.specs.Sets.{set_of}
use Rattle.place_pool.specs.Pool.{KeptWith}
use Rattle.place_pool.proofs.Keeping.{kept-pushed, kept-stays}
use Rattle.place_pool.proofs.keep.Goals as goal
use Rattle.place_pool.proofs.keep.Goals.{then-is_full, else-is_full}

pub returns-then-not-is_none : goal.returns-then-not-is_none
returns-then-not-is_none c =
    subst⁻¹ (KeptWith c.args.pool.now.items (set_of c.args.group)) c.push.ensures.items
    (kept-pushed _ _
    (elim c.if-is_full.branch [
      | then-is_full w ↦ inr cc
      | else-is_full w ↦ inl cc
    ]) _)

pub returns-else-not-is_none : goal.returns-else-not-is_none
returns-else-not-is_none c =
    kept-stays _ _
    (elim c.if-is_full.branch [
      | then-is_full w ↦ inr cc
      | else-is_full w ↦ inl cc
    ]) _
