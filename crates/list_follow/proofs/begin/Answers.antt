-- Before its first step a list reaches the empty set.
use mathlib.Core.Path.{refl}
use Rattle.busset.proofs.Words.{empty-set}
use Rattle.list_follow.proofs.begin.Goals as goal

pub returns : goal.returns
returns c = record {
  is_task = refl;
  standing = c.opening.ensures;
  carries = λ e. record { set = empty-set c.none.ensures; read = refl };
}
